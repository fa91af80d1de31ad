-- Each test finds refusals of its own condition alone.
use Rattle.std.proofs.Common.{◌≡◌, ◌∙◌, ℕ, Bool, true, false, List, Option, Some, None, Result, Ok, Err, refl, ap}
use Rattle.std.specs.Prelude.{if◌then◌else◌}
use Rattle.std.specs.Option.{option_map}
use Rattle.fs_model.specs.Names.{Path}
use Rattle.fs_model.specs.State.{FsState}
use Rattle.control_file.specs.declared.job.Job.{Job}
use Rattle.control_file.specs.declared.modes.Mode.{Mode}
use Rattle.control_file.specs.declared.modes.Mode.TheVariants.{Copy, Link}
use Rattle.control_file.specs.declared.modes.Side.{Side}
use Rattle.control_file.specs.declared.modes.Side.TheVariants.{Old, New}
use Rattle.control_file.specs.declared.records.Control.{Control}
use Rattle.control_file.specs.declared.records.ControlError.TheVariants as cause
use Rattle.catalog.specs.Cluster.{Cluster, started}
use Rattle.catalog_checks.specs.declared.columns.ColumnPlace.{ColumnPlace}
use Rattle.tree_checks.specs.Findings.{IsLeast, IsFirstOf}
use Rattle.tree_checks.specs.NewDirs.{IsUsed}
use Rattle.tree_checks.specs.MissingDirs.{IsMissingDir}
use Rattle.dump_grammar.specs.declared.error.TextError.{TextError}
use Rattle.control_checks.specs.declared.refusal.ControlRefusal.{ControlRefusal}
use Rattle.control_checks.specs.declared.refusal.ControlRefusal.TheVariants as control
use Rattle.control_checks.specs.Findings.{Reading, finding, of_control, of_controls, missing_version, wrong_version, no_control, control_short, control_crc, control_version, catalog_version, not_shut_down, block_size, control_differs, told_pair, reading_of as control_reading}
use Rattle.compat_checks.specs.declared.refusal.Refusal.{Refusal}
use Rattle.compat_checks.specs.declared.refusal.Refusal.TheVariants as refusals
use Rattle.compat_checks.specs.Order.{Condition, condition_of, OverlapIs, MissingDirIs, MissingVersionIs, WrongVersionIs, RunningIs, OldDisabledIs, NoControlIs, ControlShortIs, ControlCrcIs, ControlVersionIs, CatalogVersionIs, NotShutDownIs, BlockSizeIs, ControlDiffersIs, PreparedIs, CatalogTextIs, TooManyIs, InstallUserIs, NewRolesIs, ConnectFlagIs, RegColumnIs, AclColumnIs, NewNotEmptyIs, NewUsedIs, TablespaceDirIs, MissingFileIs, SharedInodeIs, DeviceDiffersIs, ControlOldExistsIs}
use Rattle.compat_checks.specs.Controls.{lifted}
use Rattle.file_checks.specs.Tablespaces.{IsTablespaceDir}
use Rattle.file_checks.specs.RelationFiles.{IsMissingFile}
use Rattle.file_checks.specs.Devices.{IsDeviceDiffers}
use Rattle.shared_inodes.specs.SharedInodes.{IsSharedInode}
use Rattle.upgrade_checks.specs.Findings.{Readings, Finds, RefusedUnless, TellsPath, OfCatalog, OfCatalogs, OfLink, refused_if, catalog_text, number_of, reading_of}

-- all that is found is of this condition
abbrev pub IsOf : Condition → (Option Refusal → Type 0) → Type 0
IsOf condition F = (refusal : Refusal) → F (Some refusal) → condition_of refusal ≡ condition

if_of : (condition : Condition) (test : Bool) (told : Refusal) → condition_of told ≡ condition → IsOf condition (λ found. found ≡ refused_if test told)
if_of condition true told of refusal some = (let same : refusal ≡ told = cc some in ap condition_of same ∙ of)
if_of condition false told of refusal some = absurd (cc some)

map_of : {A : Type 0} (condition : Condition) (tell : A → Refusal) (found : Option A) → ((a : A) → condition_of (tell a) ≡ condition) → IsOf condition (λ f. f ≡ option_map tell found)
map_of condition tell (Some a) of refusal some = (let same : refusal ≡ tell a = cc some in ap condition_of same ∙ of a)
map_of condition tell None of refusal some = absurd (cc some)

unless_of : (condition : Condition) (P : Type 0) (told : Refusal) → condition_of told ≡ condition → IsOf condition (RefusedUnless P told)
unless_of condition P told of refusal some = ap condition_of some.0 ∙ of

path_of : (condition : Condition) (tell : Path → Refusal) (F : Option Path → Type 0) → ((path : Path) → condition_of (tell path) ≡ condition) → IsOf condition (TellsPath tell F)
path_of condition tell F of refusal some = ap condition_of some.1 ∙ of some.0

catalog_of : (condition : Condition) (F : Cluster → Option Refusal → Type 0) → ((c : Cluster) → IsOf condition (F c)) → (reading : Result Cluster TextError) → IsOf condition (OfCatalog F reading)
catalog_of condition F each (Ok c) refusal some = each c refusal some
catalog_of condition F each (Err e) refusal some = absurd (cc some)

catalogs_of : (condition : Condition) (F : Cluster → Cluster → Option Refusal → Type 0) → ((old new : Cluster) → IsOf condition (F old new)) → (readings : Readings) → IsOf condition (OfCatalogs F readings)
catalogs_of condition F each readings = catalog_of condition (λ old. OfCatalog (F old) readings.new) (λ old. catalog_of condition (F old) (each old) readings.new) readings.old

link_of : (condition : Condition) (mode : Mode) (F : Option Refusal → Type 0) → IsOf condition F → IsOf condition (OfLink mode F)
link_of condition Link F of refusal some = of refusal some
link_of condition Copy F of refusal some = absurd (cc some)

text_of : (side : Side) (reading : Result Cluster TextError) → IsOf (CatalogTextIs side) (λ found. found ≡ catalog_text side reading)
text_of side (Ok c) refusal some = absurd (cc some)
text_of side (Err e) refusal some = (let same : refusal ≡ refusals.CatalogText side e.line (number_of e.cause) = cc some in ap condition_of same)

-- ---- those on control files

-- a finding about control files is of this condition, as one of all
abbrev IsLifted : Condition → Option ControlRefusal → Type 0
IsLifted condition finding = IsOf condition (λ found. found ≡ option_map lifted finding)

some_lifted : (condition : Condition) (told : ControlRefusal) → condition_of (lifted told) ≡ condition → IsLifted condition (Some told)
some_lifted condition told of refusal some = (let same : refusal ≡ lifted told = cc some in ap condition_of same ∙ of)

none_lifted : (condition : Condition) → IsLifted condition None
none_lifted condition refusal some = absurd (cc some)

else_lifted : (condition : Condition) (test : Bool) (told : ControlRefusal) → condition_of (lifted told) ≡ condition → IsLifted condition (if test then None else Some told)
else_lifted condition true told of = none_lifted condition
else_lifted condition false told of = some_lifted condition told of

then_lifted : (condition : Condition) (test : Bool) (told : ControlRefusal) → condition_of (lifted told) ≡ condition → IsLifted condition (if test then Some told else None)
then_lifted condition true told of = some_lifted condition told of
then_lifted condition false told of = none_lifted condition

version_missing : (side : Side) (file : Option (List ℕ)) → IsLifted (MissingVersionIs side) (missing_version side file)
version_missing side (Some bytes) = none_lifted (MissingVersionIs side)
version_missing side None = some_lifted (MissingVersionIs side) (control.MissingVersion side) refl

version_wrong : (side : Side) (file : Option (List ℕ)) → IsLifted (WrongVersionIs side) (wrong_version side file)
version_wrong side (Some bytes) = else_lifted (WrongVersionIs side) _ (control.WrongVersion side) refl
version_wrong side None = none_lifted (WrongVersionIs side)

control_missing : (side : Side) (reading : Reading) → IsLifted (NoControlIs side) (no_control side reading)
control_missing side (Some reading) = none_lifted (NoControlIs side)
control_missing side None = some_lifted (NoControlIs side) (control.NoControl side) refl

short : (side : Side) (reading : Reading) → IsLifted (ControlShortIs side) (control_short side reading)
short side (Some (Err cause.Short)) = some_lifted (ControlShortIs side) (control.ControlShort side) refl
short side (Some (Err cause.Crc)) = none_lifted (ControlShortIs side)
short side (Some (Err (cause.ControlVersion found))) = none_lifted (ControlShortIs side)
short side (Some (Err (cause.CatalogVersion found))) = none_lifted (ControlShortIs side)
short side (Some (Ok read)) = none_lifted (ControlShortIs side)
short side None = none_lifted (ControlShortIs side)

crc : (side : Side) (reading : Reading) → IsLifted (ControlCrcIs side) (control_crc side reading)
crc side (Some (Err cause.Short)) = none_lifted (ControlCrcIs side)
crc side (Some (Err cause.Crc)) = some_lifted (ControlCrcIs side) (control.ControlCrc side) refl
crc side (Some (Err (cause.ControlVersion found))) = none_lifted (ControlCrcIs side)
crc side (Some (Err (cause.CatalogVersion found))) = none_lifted (ControlCrcIs side)
crc side (Some (Ok read)) = none_lifted (ControlCrcIs side)
crc side None = none_lifted (ControlCrcIs side)

version : (side : Side) (reading : Reading) → IsLifted (ControlVersionIs side) (control_version side reading)
version side (Some (Err cause.Short)) = none_lifted (ControlVersionIs side)
version side (Some (Err cause.Crc)) = none_lifted (ControlVersionIs side)
version side (Some (Err (cause.ControlVersion found))) = some_lifted (ControlVersionIs side) (control.ControlVersion side found) refl
version side (Some (Err (cause.CatalogVersion found))) = none_lifted (ControlVersionIs side)
version side (Some (Ok read)) = none_lifted (ControlVersionIs side)
version side None = none_lifted (ControlVersionIs side)

catalog : (side : Side) (reading : Reading) → IsLifted (CatalogVersionIs side) (catalog_version side reading)
catalog side (Some (Err cause.Short)) = none_lifted (CatalogVersionIs side)
catalog side (Some (Err cause.Crc)) = none_lifted (CatalogVersionIs side)
catalog side (Some (Err (cause.ControlVersion found))) = none_lifted (CatalogVersionIs side)
catalog side (Some (Err (cause.CatalogVersion found))) = some_lifted (CatalogVersionIs side) (control.CatalogVersion side found) refl
catalog side (Some (Ok read)) = none_lifted (CatalogVersionIs side)
catalog side None = none_lifted (CatalogVersionIs side)

control_of : (condition : Condition) (test : Control → Option ControlRefusal) → ((c : Control) → IsLifted condition (test c)) → (reading : Reading) → IsLifted condition (of_control test reading)
control_of condition test each (Some (Ok c)) = each c
control_of condition test each (Some (Err e)) = none_lifted condition
control_of condition test each None = none_lifted condition

controls_of : (condition : Condition) (test : Control → Control → Option ControlRefusal) → ((a b : Control) → IsLifted condition (test a b)) → (one two : Reading) → IsLifted condition (of_controls test one two)
controls_of condition test each (Some (Ok a)) two = control_of condition (test a) (each a) two
controls_of condition test each (Some (Err e)) two = none_lifted condition
controls_of condition test each None two = none_lifted condition

map_lifted : {A : Type 0} (condition : Condition) (tell : A → ControlRefusal) (found : Option A) → ((a : A) → condition_of (lifted (tell a)) ≡ condition) → IsLifted condition (option_map tell found)
map_lifted condition tell (Some a) of = some_lifted condition (tell a) (of a)
map_lifted condition tell None of = none_lifted condition

-- ---- all

module _ (s : FsState) (job : Job) (readings : Readings) where
  pub own : (condition : Condition) → IsOf condition (Finds s job readings condition)
  own OverlapIs refusal some = then_lifted OverlapIs _ control.Overlap refl refusal some
  own (MissingDirIs side) refusal some = else_lifted (MissingDirIs side) _ (control.MissingDir side) refl refusal some
  own (MissingVersionIs side) refusal some = version_missing side _ refusal some
  own (WrongVersionIs side) refusal some = version_wrong side _ refusal some
  own (RunningIs side) refusal some = then_lifted (RunningIs side) _ (control.Running side) refl refusal some
  own OldDisabledIs refusal some = then_lifted OldDisabledIs _ control.OldDisabled refl refusal some
  own (NoControlIs side) refusal some = control_missing side _ refusal some
  own (ControlShortIs side) refusal some = short side (control_reading s job side) refusal some
  own (ControlCrcIs side) refusal some = crc side (control_reading s job side) refusal some
  own (ControlVersionIs side) refusal some = version side (control_reading s job side) refusal some
  own (CatalogVersionIs side) refusal some = catalog side (control_reading s job side) refusal some
  own (NotShutDownIs side) refusal some = control_of (NotShutDownIs side) (not_shut_down side) (λ c. else_lifted (NotShutDownIs side) _ (control.NotShutDown side c.state) refl) (control_reading s job side) refusal some
  own (BlockSizeIs side) refusal some = control_of (BlockSizeIs side) (block_size side) (λ c. else_lifted (BlockSizeIs side) _ (control.BlockSize side) refl) (control_reading s job side) refusal some
  own ControlDiffersIs refusal some = controls_of ControlDiffersIs control_differs (λ a b. map_lifted ControlDiffersIs told_pair _ (λ pair. refl)) (control_reading s job Old) (control_reading s job New) refusal some
  own (PreparedIs side) refusal some = if_of (PreparedIs side) _ (refusals.Prepared side) refl refusal some
  own (CatalogTextIs side) refusal some = text_of side (reading_of readings side) refusal some
  own TooManyIs refusal some = catalog_of TooManyIs _ (λ c. if_of TooManyIs _ refusals.TooMany refl) readings.old refusal some
  own InstallUserIs refusal some = catalogs_of InstallUserIs _ (λ old new. if_of InstallUserIs _ refusals.InstallUser refl) readings refusal some
  own NewRolesIs refusal some = catalog_of NewRolesIs _ (λ c. if_of NewRolesIs _ refusals.NewRoles refl) readings.new refusal some
  own ConnectFlagIs refusal some = catalog_of ConnectFlagIs _ (λ c. map_of ConnectFlagIs (λ d. refusals.ConnectFlag d) _ (λ d. refl)) readings.old refusal some
  own RegColumnIs refusal some = catalog_of RegColumnIs _ (λ c. map_of RegColumnIs (λ (place : ColumnPlace). refusals.RegColumn place.database place.table place.column) _ (λ d. refl)) readings.old refusal some
  own AclColumnIs refusal some = catalog_of AclColumnIs _ (λ c. map_of AclColumnIs (λ (place : ColumnPlace). refusals.AclColumn place.database place.table place.column) _ (λ d. refl)) readings.old refusal some
  own NewNotEmptyIs refusal some = catalog_of NewNotEmptyIs _ (λ c. unless_of NewNotEmptyIs (c ≡ started c.bootstrap) refusals.NewNotEmpty refl) readings.new refusal some
  own NewUsedIs refusal some = path_of NewUsedIs refusals.NewUsed (IsLeast (IsUsed s.names job.new)) (λ path. refl) refusal some
  own TablespaceDirIs refusal some = catalog_of TablespaceDirIs _ (λ c. path_of TablespaceDirIs refusals.TablespaceDir (IsTablespaceDir s job.old job.new c) (λ path. refl)) readings.old refusal some
  own MissingFileIs refusal some = catalog_of MissingFileIs _ (λ c. path_of MissingFileIs refusals.MissingFile (IsFirstOf (IsMissingDir s.names job.old job.new) (IsMissingFile s job.old c)) (λ path. refl)) readings.old refusal some
  own SharedInodeIs refusal some = path_of SharedInodeIs refusals.SharedInode (IsSharedInode s job.old job.new) (λ path. refl) refusal some
  own DeviceDiffersIs refusal some = link_of DeviceDiffersIs job.mode _ (catalog_of DeviceDiffersIs _ (λ c. path_of DeviceDiffersIs refusals.DeviceDiffers (IsDeviceDiffers s job.old job.new c) (λ path. refl)) readings.old) refusal some
  own ControlOldExistsIs refusal some = link_of ControlOldExistsIs job.mode _ (if_of ControlOldExistsIs _ refusals.ControlOldExists refl) refusal some
