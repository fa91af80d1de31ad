-- What the test of each condition of an upgrade finds in a state: a refusal with its numbers and paths, or nothing.
use Rattle.std.specs.Prelude.{◌≡◌, ℕ, Bool, not, bytes_eq, if◌then◌else◌, Option, Some, None, Result, Ok, Err, is_some}
use Rattle.std.specs.Option.{option_map}
use Rattle.std.specs.FinMap.{get}
use Rattle.fs_model.specs.Names.{Path}
use Rattle.fs_model.specs.State.{FsState}
use Rattle.crash_safety.specs.Places.{disabled_at}
use Rattle.control_file.specs.declared.job.Job.{Job}
use Rattle.control_file.specs.declared.modes.Mode.{Mode}
use Rattle.control_file.specs.declared.modes.Mode.TheVariants.{Copy, Link}
use Rattle.control_file.specs.declared.modes.Side.{Side}
use Rattle.control_file.specs.declared.modes.Side.TheVariants.{Old, New}
use Rattle.control_file.specs.declared.releases.Release.{Release}
use Rattle.catalog.specs.Cluster.{Cluster, started}
use Rattle.dump_grammar.specs.declared.error.TextError.{TextError}
use Rattle.dump_grammar.specs.declared.error.TextCause.{TextCause}
use Rattle.dump_grammar.specs.declared.error.TextCause.TheVariants as cause
use Rattle.catalog_server.specs.Profile.{Profile, profile_of}
use Rattle.control_checks.specs.Places.{root_of, release_of}
use Rattle.control_checks.specs.Findings.{finding, LieApart, HasDir, HasVersion, VersionIs, IsStopped, IsEnabled, HasControl, ControlIsWhole, ControlIsSound, ControlVersionIs as ControlVersionFits, CatalogVersionIs as CatalogVersionFits, IsShutDown, BlocksFit, FieldsAgree}
use Rattle.tree_checks.specs.Findings.{IsLeast, IsFirstOf}
use Rattle.tree_checks.specs.Prepared.{is_filled, twophase_at}
use Rattle.tree_checks.specs.NewDirs.{IsUsed}
use Rattle.tree_checks.specs.MissingDirs.{IsMissingDir}
use Rattle.catalog_checks.specs.Limits.{is_too_large}
use Rattle.catalog_checks.specs.Clusters.{has_more_roles, wrong_connections}
use Rattle.catalog_checks.specs.Columns.{first_reg_column, first_acl_column}
use Rattle.compat_checks.specs.declared.refusal.Refusal.{Refusal}
use Rattle.compat_checks.specs.declared.refusal.Refusal.TheVariants.{Prepared, CatalogText, TooMany, InstallUser, NewRoles, ConnectFlag, RegColumn, AclColumn, NewNotEmpty, NewUsed, TablespaceDir, MissingFile, SharedInode, DeviceDiffers, ControlOldExists}
use Rattle.compat_checks.specs.Order.{Condition, OverlapIs, MissingDirIs, MissingVersionIs, WrongVersionIs, RunningIs, OldDisabledIs, NoControlIs, ControlShortIs, ControlCrcIs, ControlVersionIs, CatalogVersionIs, NotShutDownIs, BlockSizeIs, ControlDiffersIs, PreparedIs, CatalogTextIs, TooManyIs, InstallUserIs, NewRolesIs, ConnectFlagIs, RegColumnIs, AclColumnIs, NewNotEmptyIs, NewUsedIs, TablespaceDirIs, MissingFileIs, SharedInodeIs, DeviceDiffersIs, ControlOldExistsIs}
use Rattle.compat_checks.specs.Controls.{lifted}
use Rattle.file_checks.specs.Tablespaces.{IsTablespaceDir}
use Rattle.file_checks.specs.RelationFiles.{IsMissingFile}
use Rattle.file_checks.specs.Devices.{IsDeviceDiffers}
use Rattle.shared_inodes.specs.SharedInodes.{IsSharedInode}

-- ---- what a server reads

-- what a catalog server reads of a cluster, by its profile
abbrev pub Reader : Type 0
Reader = Path → Release → Profile → Result Cluster TextError

-- what it reads of both clusters
pub record Readings : Type 0 where
  pub old : Result Cluster TextError
  pub new : Result Cluster TextError

abbrev pub reading_in : Reader → FsState → Job → Side → Result Cluster TextError
reading_in read s job side = read (root_of job side) (release_of side) (profile_of s (root_of job side))

abbrev pub readings_in : Reader → FsState → Job → Readings
readings_in read s job = record { old = reading_in read s job Old; new = reading_in read s job New }

abbrev pub reading_of : Readings → Side → Result Cluster TextError
reading_of readings Old = readings.old
reading_of readings New = readings.new

-- ---- findings

-- this refusal, where the test passes
abbrev pub refused_if : Bool → Refusal → Option Refusal
refused_if test refusal = if test then Some refusal else None

-- this refusal, unless P
abbrev pub RefusedUnless : Type 0 → Refusal → Option Refusal → Type 0
RefusedUnless P refusal None = P
RefusedUnless P refusal (Some found) = (found ≡ refusal) × (P → ⊥)

-- a refusal that tells the path that is found
abbrev pub TellsPath : (Path → Refusal) → (Option Path → Type 0) → Option Refusal → Type 0
TellsPath tell Finds None = Finds None
TellsPath tell Finds (Some refusal) = (path : Path) × (refusal ≡ tell path) × Finds (Some path)

-- a test of a catalog; of what is none nothing is found, since an earlier condition finds that
abbrev pub OfCatalog : (Cluster → Option Refusal → Type 0) → Result Cluster TextError → Option Refusal → Type 0
OfCatalog Test (Ok c) found = Test c found
OfCatalog Test (Err e) found = found ≡ None

abbrev pub OfCatalogs : (Cluster → Cluster → Option Refusal → Type 0) → Readings → Option Refusal → Type 0
OfCatalogs Test readings = OfCatalog (λ old. OfCatalog (Test old) readings.new) readings.old

-- a test for an upgrade by links; for one by copies nothing is found
abbrev pub OfLink : Mode → (Option Refusal → Type 0) → Option Refusal → Type 0
OfLink Link Test found = Test found
OfLink Copy Test found = found ≡ None

-- the number of a cause, as it is printed
abbrev pub number_of : TextCause → ℕ
number_of (cause.Lex kind) = 1
number_of cause.UnknownStatement = 2
number_of cause.MissingOid = 3
number_of (cause.Catalog error) = 4
number_of cause.NoCatalog = 5
number_of cause.OutOfMemory = 6

abbrev pub catalog_text : Side → Result Cluster TextError → Option Refusal
catalog_text side (Ok c) = None
catalog_text side (Err e) = Some (CatalogText side e.line (number_of e.cause))

abbrev pub install_user : Cluster → Cluster → Option Refusal
install_user old new = refused_if (not (bytes_eq old.bootstrap new.bootstrap)) InstallUser

abbrev pub connect_flag : Cluster → Option Refusal
connect_flag c = option_map (λ database. ConnectFlag database) (wrong_connections c)

abbrev pub reg_column : Cluster → Option Refusal
reg_column c = option_map (λ place. RegColumn place.database place.table place.column) (first_reg_column c)

abbrev pub acl_column : Cluster → Option Refusal
acl_column c = option_map (λ place. AclColumn place.database place.table place.column) (first_acl_column c)

-- ---- the conditions

-- In this state, with these readings, the condition's test finds this refusal, or nothing.
abbrev pub Finds : FsState → Job → Readings → Condition → Option Refusal → Type 0
Finds s job readings OverlapIs found = found ≡ option_map lifted (finding s job LieApart)
Finds s job readings (MissingDirIs side) found = found ≡ option_map lifted (finding s job (HasDir side))
Finds s job readings (MissingVersionIs side) found = found ≡ option_map lifted (finding s job (HasVersion side))
Finds s job readings (WrongVersionIs side) found = found ≡ option_map lifted (finding s job (VersionIs side))
Finds s job readings (RunningIs side) found = found ≡ option_map lifted (finding s job (IsStopped side))
Finds s job readings OldDisabledIs found = found ≡ option_map lifted (finding s job IsEnabled)
Finds s job readings (NoControlIs side) found = found ≡ option_map lifted (finding s job (HasControl side))
Finds s job readings (ControlShortIs side) found = found ≡ option_map lifted (finding s job (ControlIsWhole side))
Finds s job readings (ControlCrcIs side) found = found ≡ option_map lifted (finding s job (ControlIsSound side))
Finds s job readings (ControlVersionIs side) found = found ≡ option_map lifted (finding s job (ControlVersionFits side))
Finds s job readings (CatalogVersionIs side) found = found ≡ option_map lifted (finding s job (CatalogVersionFits side))
Finds s job readings (NotShutDownIs side) found = found ≡ option_map lifted (finding s job (IsShutDown side))
Finds s job readings (BlockSizeIs side) found = found ≡ option_map lifted (finding s job (BlocksFit side))
Finds s job readings ControlDiffersIs found = found ≡ option_map lifted (finding s job FieldsAgree)
-- `pg_twophase` stands and isn't an empty directory
Finds s job readings (PreparedIs side) found = found ≡ refused_if (is_filled s.names (twophase_at (root_of job side))) (Prepared side)
-- the server reads no catalog
Finds s job readings (CatalogTextIs side) found = found ≡ catalog_text side (reading_of readings side)
Finds s job readings TooManyIs found = OfCatalog (λ old found. found ≡ refused_if (is_too_large old) TooMany) readings.old found
Finds s job readings InstallUserIs found = OfCatalogs (λ old new found. found ≡ install_user old new) readings found
Finds s job readings NewRolesIs found = OfCatalog (λ new found. found ≡ refused_if (has_more_roles new) NewRoles) readings.new found
Finds s job readings ConnectFlagIs found = OfCatalog (λ old found. found ≡ connect_flag old) readings.old found
Finds s job readings RegColumnIs found = OfCatalog (λ old found. found ≡ reg_column old) readings.old found
Finds s job readings AclColumnIs found = OfCatalog (λ old found. found ≡ acl_column old) readings.old found
-- the new cluster's catalog is that which its bootstrap role starts with
Finds s job readings NewNotEmptyIs found = OfCatalog (λ new. RefusedUnless (new ≡ started new.bootstrap) NewNotEmpty) readings.new found
Finds s job readings NewUsedIs found = TellsPath NewUsed (IsLeast (IsUsed s.names job.new)) found
Finds s job readings TablespaceDirIs found = OfCatalog (λ old. TellsPath TablespaceDir (IsTablespaceDir s job.old job.new old)) readings.old found
-- a directory that both need, or a file of a relation
Finds s job readings MissingFileIs found = OfCatalog (λ old. TellsPath MissingFile (IsFirstOf (IsMissingDir s.names job.old job.new) (IsMissingFile s job.old old))) readings.old found
Finds s job readings SharedInodeIs found = TellsPath SharedInode (IsSharedInode s job.old job.new) found
Finds s job readings DeviceDiffersIs found = OfLink job.mode (OfCatalog (λ old. TellsPath DeviceDiffers (IsDeviceDiffers s job.old job.new old)) readings.old) found
Finds s job readings ControlOldExistsIs found = OfLink job.mode (λ found. found ≡ refused_if (is_some (get s.names (disabled_at job.old))) ControlOldExists) found
