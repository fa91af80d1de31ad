-- The conditions on directories, releases and control files: what the test of each finds in a state, and their order.
use Rattle.std.specs.Prelude.{◌≡◌, ℕ, Bool, true, false, not, ◌&&◌, ◌||◌, ◌==◌, if◌then◌else◌, List, [], ◌∷◌, ◌++◌, Option, Some, None, Result, Ok, Err, bytes_eq, is_some}
use Rattle.std.specs.Option.{option_map}
use Rattle.std.specs.List.{find}
use Rattle.std.specs.FinMap.{get}
use Rattle.fs_model.specs.declared.node.Kind.{Kind}
use Rattle.fs_model.specs.declared.node.Kind.TheVariants as kind
use Rattle.fs_model.specs.declared.node.Node.{Node}
use Rattle.fs_model.specs.declared.node.Node.TheVariants.{Dir, File, Sym}
use Rattle.fs_model.specs.Names.{Path, is_under}
use Rattle.fs_model.specs.State.{FsState}
use Rattle.fs_model.specs.Reading.{file_bytes}
use Rattle.control_file.specs.declared.job.Job.{Job}
use Rattle.control_file.specs.declared.modes.Side.{Side}
use Rattle.control_file.specs.declared.modes.Side.TheVariants.{Old, New}
use Rattle.control_file.specs.declared.records.Control.{Control}
use Rattle.control_file.specs.declared.records.ControlError.{ControlError}
use Rattle.control_file.specs.declared.records.ControlError.TheVariants as cause
use Rattle.control_file.specs.ControlRecord.{control_in}
use Rattle.control_file.specs.Version.{version_text_of}
use Rattle.control_checks.specs.declared.fields.FieldPair.{FieldPair}
use Rattle.control_checks.specs.declared.refusal.ControlField.TheVariants.{MaxAlign, BlckSz, RelSegSize, XlogBlckSz, XlogSegSize, NameDataLen, IndexMaxKeys, ToastChunk, LoblkSize, Checksums}
use Rattle.control_checks.specs.declared.refusal.ControlRefusal.{ControlRefusal}
use Rattle.control_checks.specs.declared.refusal.ControlRefusal.TheVariants.{Overlap, MissingDir, MissingVersion, WrongVersion, Running, OldDisabled, NoControl, ControlShort, ControlCrc, ControlVersion, CatalogVersion, NotShutDown, BlockSize, ControlDiffers}
use Rattle.control_checks.specs.Places.{root_of, release_of, version_path, pid_path, control_path, disabled_path}

-- ---- what stands

abbrev pub kind_of : Node → Kind
kind_of Dir = kind.Dir
kind_of (File inode) = kind.File
kind_of (Sym target) = kind.Sym

abbrev pub kind_at : FsState → Path → Option Kind
kind_at s path = option_map kind_of (get s.names path)

abbrev pub is_dir : Option Kind → Bool
is_dir (Some kind.Dir) = true
is_dir (Some kind.File) = false
is_dir (Some kind.Sym) = false
is_dir None = false

-- ---- directories, releases and servers

abbrev pub overlaps : Job → Bool
overlaps job = is_under job.new job.old || is_under job.old job.new

abbrev pub missing_dir : Side → Option Kind → Option ControlRefusal
missing_dir side root = if is_dir root then None else Some (MissingDir side)

abbrev pub missing_version : Side → Option (List ℕ) → Option ControlRefusal
missing_version side (Some version) = None
missing_version side None = Some (MissingVersion side)

-- of what is no file nothing is found, since an earlier condition finds that
abbrev pub wrong_version : Side → Option (List ℕ) → Option ControlRefusal
wrong_version side (Some version) = if bytes_eq version (version_text_of (release_of side)) then None else Some (WrongVersion side)
wrong_version side None = None

abbrev pub running : Side → Option Kind → Option ControlRefusal
running side pid = if is_some pid then Some (Running side) else None

abbrev pub old_disabled : Option Kind → Option Kind → Option ControlRefusal
old_disabled control disabled = if not (is_some control) && is_some disabled then Some OldDisabled else None

-- ---- control files

-- what a control file says, where there is one
abbrev pub Reading : Type 0
Reading = Option (Result Control ControlError)

abbrev pub no_control : Side → Reading → Option ControlRefusal
no_control side (Some reading) = None
no_control side None = Some (NoControl side)

abbrev pub control_short : Side → Reading → Option ControlRefusal
control_short side (Some (Err cause.Short)) = Some (ControlShort side)
control_short side reading = None

abbrev pub control_crc : Side → Reading → Option ControlRefusal
control_crc side (Some (Err cause.Crc)) = Some (ControlCrc side)
control_crc side reading = None

abbrev pub control_version : Side → Reading → Option ControlRefusal
control_version side (Some (Err (cause.ControlVersion found))) = Some (ControlVersion side found)
control_version side reading = None

abbrev pub catalog_version : Side → Reading → Option ControlRefusal
catalog_version side (Some (Err (cause.CatalogVersion found))) = Some (CatalogVersion side found)
catalog_version side reading = None

abbrev pub not_shut_down : Side → Control → Option ControlRefusal
not_shut_down side control = if control.state == 1 then None else Some (NotShutDown side control.state)

abbrev pub block_size : Side → Control → Option ControlRefusal
block_size side control = if control.blcksz == 8192 && not (control.relseg_size == 0) then None else Some (BlockSize side)

-- the fields in which both must agree, in the order in which they are compared
abbrev pub field_pairs : Control → Control → List FieldPair
field_pairs old new =
    record { field = MaxAlign; in_old = old.max_align; in_new = new.max_align }
    ∷ record { field = BlckSz; in_old = old.blcksz; in_new = new.blcksz }
    ∷ record { field = RelSegSize; in_old = old.relseg_size; in_new = new.relseg_size }
    ∷ record { field = XlogBlckSz; in_old = old.xlog_blcksz; in_new = new.xlog_blcksz }
    ∷ record { field = XlogSegSize; in_old = old.xlog_seg_size; in_new = new.xlog_seg_size }
    ∷ record { field = NameDataLen; in_old = old.name_data_len; in_new = new.name_data_len }
    ∷ record { field = IndexMaxKeys; in_old = old.index_max_keys; in_new = new.index_max_keys }
    ∷ record { field = ToastChunk; in_old = old.toast_chunk; in_new = new.toast_chunk }
    ∷ record { field = LoblkSize; in_old = old.loblksize; in_new = new.loblksize }
    ∷ record { field = Checksums; in_old = old.checksum_version; in_new = new.checksum_version }
    ∷ []

abbrev pub differs : FieldPair → Bool
differs pair = not (pair.in_old == pair.in_new)

abbrev pub told_pair : FieldPair → ControlRefusal
told_pair pair = ControlDiffers pair.field pair.in_old pair.in_new

-- the first field that differs
abbrev pub control_differs : Control → Control → Option ControlRefusal
control_differs old new = option_map told_pair (find differs (field_pairs old new))

-- a test of a control record; of what is none nothing is found, since an earlier condition finds that
abbrev pub of_control : (Control → Option ControlRefusal) → Reading → Option ControlRefusal
of_control test (Some (Ok control)) = test control
of_control test (Some (Err error)) = None
of_control test None = None

abbrev pub of_controls : (Control → Control → Option ControlRefusal) → Reading → Reading → Option ControlRefusal
of_controls test (Some (Ok old)) new = of_control (test old) new
of_controls test (Some (Err error)) new = None
of_controls test None new = None

-- ---- the conditions and their order

pub data ControlCondition : Type 0 where
  LieApart : ControlCondition
  HasDir : Side → ControlCondition
  HasVersion : Side → ControlCondition
  VersionIs : Side → ControlCondition
  IsStopped : Side → ControlCondition
  IsEnabled : ControlCondition
  HasControl : Side → ControlCondition
  ControlIsWhole : Side → ControlCondition
  ControlIsSound : Side → ControlCondition
  ControlVersionIs : Side → ControlCondition
  CatalogVersionIs : Side → ControlCondition
  IsShutDown : Side → ControlCondition
  BlocksFit : Side → ControlCondition
  FieldsAgree : ControlCondition

-- what the control file with these bytes says to a reader who wants the side's release
abbrev pub reading_in : Side → Option (List ℕ) → Reading
reading_in side file = option_map (λ bytes. control_in bytes (release_of side)) file

-- what the control file of a side says
abbrev pub reading_of : FsState → Job → Side → Reading
reading_of s job side = reading_in side (file_bytes s (control_path (root_of job side)))

-- the refusal that the condition's test finds in a state, or nothing
abbrev pub finding : FsState → Job → ControlCondition → Option ControlRefusal
finding s job LieApart = if overlaps job then Some Overlap else None
finding s job (HasDir side) = missing_dir side (kind_at s (root_of job side))
finding s job (HasVersion side) = missing_version side (file_bytes s (version_path (root_of job side)))
finding s job (VersionIs side) = wrong_version side (file_bytes s (version_path (root_of job side)))
finding s job (IsStopped side) = running side (kind_at s (pid_path (root_of job side)))
finding s job IsEnabled = old_disabled (kind_at s (control_path job.old)) (kind_at s (disabled_path job.old))
finding s job (HasControl side) = no_control side (reading_of s job side)
finding s job (ControlIsWhole side) = control_short side (reading_of s job side)
finding s job (ControlIsSound side) = control_crc side (reading_of s job side)
finding s job (ControlVersionIs side) = control_version side (reading_of s job side)
finding s job (CatalogVersionIs side) = catalog_version side (reading_of s job side)
finding s job (IsShutDown side) = of_control (not_shut_down side) (reading_of s job side)
finding s job (BlocksFit side) = of_control (block_size side) (reading_of s job side)
finding s job FieldsAgree = of_controls control_differs (reading_of s job Old) (reading_of s job New)

abbrev pub version_conditions : List ControlCondition
version_conditions = HasVersion Old ∷ HasVersion New ∷ VersionIs Old ∷ VersionIs New ∷ []

abbrev pub root_conditions : List ControlCondition
root_conditions = (HasDir Old ∷ HasDir New ∷ []) ++ version_conditions

abbrev pub server_conditions : List ControlCondition
server_conditions = IsStopped Old ∷ IsStopped New ∷ IsEnabled ∷ []

abbrev pub record_conditions : List ControlCondition
record_conditions =
    ControlIsWhole Old ∷ ControlIsWhole New ∷ ControlIsSound Old ∷ ControlIsSound New
    ∷ ControlVersionIs Old ∷ ControlVersionIs New ∷ CatalogVersionIs Old ∷ CatalogVersionIs New ∷ []

abbrev pub field_conditions : List ControlCondition
field_conditions = IsShutDown Old ∷ IsShutDown New ∷ BlocksFit Old ∷ BlocksFit New ∷ FieldsAgree ∷ []

abbrev pub control_conditions : List ControlCondition
control_conditions = (HasControl Old ∷ HasControl New ∷ []) ++ (record_conditions ++ field_conditions)

-- those that are seen in the file system
abbrev pub tested_conditions : List ControlCondition
tested_conditions = root_conditions ++ (server_conditions ++ control_conditions)

-- the order in which they are tested
abbrev pub order : List ControlCondition
order = LieApart ∷ tested_conditions

-- the first of the two, if there is one
abbrev pub or_first : Option ControlRefusal → Option ControlRefusal → Option ControlRefusal
or_first (Some refusal) later = Some refusal
or_first None later = later

-- the first refusal that the tests of these conditions find, in their order
abbrev pub first_of : FsState → Job → List ControlCondition → Option ControlRefusal
first_of s job [] = None
first_of s job (condition ∷ conditions) = or_first (finding s job condition) (first_of s job conditions)
