-- When each error of a reader comes.
use Rattle.std.specs.Prelude.{◌≡◌, ℕ, List, [], Option, Some, None, option_map, Result, Ok, Err}
use Rattle.std.specs.Option.{unwrap_or}
use Rattle.std.specs.List.{find}
use Rattle.fs_model.specs.declared.error.FsError.{FsError}
use Rattle.fs_model.specs.declared.error.FsError.TheVariants as fs
use Rattle.fs_model.specs.Names.{Path}
use Rattle.fs_model.specs.State.{FsState}
use Rattle.fs_model.specs.Reading.{file_bytes}
use Rattle.fs_model.specs.Calls.{ReadsAt, refusal}
use Rattle.control_file.specs.declared.releases.Release.{Release}
use Rattle.control_file.specs.declared.records.Control.{Control}
use Rattle.control_file.specs.declared.records.ControlError.{ControlError}
use Rattle.control_file.specs.ControlRecord.{control_in}
use Rattle.catalog.specs.declared.relations.Table.{Table}
use Rattle.catalog.specs.Cluster as catalog
use Rattle.catalog.specs.Spaces.{database_has, table_has}
use Rattle.cluster_meaning.specs.Cluster.{control_path}
use Rattle.status_read.specs.Segments.{status_refusal}
use Rattle.cluster_read.specs.declared.error.ReadError.{ReadError}
use Rattle.cluster_read.specs.declared.error.ReadError.TheVariants.{Fs, NoSuch, Control as BadControl, OutOfMemory}

-- ---- an answer of a file system

abbrev pub read_as : {T : Type 0} → Result T FsError → Result T ReadError
read_as (Ok value) = Ok value
read_as (Err fs.OutOfMemory) = Err OutOfMemory
read_as (Err error) = Err (Fs error)

-- the error of the file system that an answer hands on
abbrev pub fault_of : {T : Type 0} → Result T ReadError → Option FsError
fault_of (Ok value) = None
fault_of (Err (Fs error)) = Some error
fault_of (Err error) = None

-- want of memory is an error of its own
abbrev pub WrapsNoLack : {T : Type 0} → Result T ReadError → Type 0
WrapsNoLack (Err (Fs fs.OutOfMemory)) = ⊥
WrapsNoLack answer = Unit {0}

-- no object is missing
abbrev pub FindsObjects : {T : Type 0} → Result T ReadError → Type 0
FindsObjects (Err (NoSuch oid)) = ⊥
FindsObjects answer = Unit {0}

-- ---- refusals

-- the first of two refusals
abbrev pub or_then : Option ReadError → Option ReadError → Option ReadError
or_then None later = later
or_then (Some error) later = Some error

-- what a refusal decides: Ok comes only where there is none, and another error than a failure or want of memory only
-- where it is that one
abbrev pub DecidedAs : {T : Type 0} → Option ReadError → Result T ReadError → Type 0
DecidedAs refused (Ok value) = refused ≡ None
DecidedAs refused (Err OutOfMemory) = Unit {0}
DecidedAs refused (Err (Fs fs.Failed)) = Unit {0}
DecidedAs refused (Err error) = refused ≡ Some error

abbrev pub missing_table : ℕ → Option Table → Option ℕ
missing_table oid None = Some oid
missing_table oid (Some table) = None

abbrev pub missing_in : ℕ → ℕ → Option catalog.DatabaseObjects → Option ℕ
missing_in database table None = Some database
missing_in database table (Some found) = missing_table table (find (table_has table) found.tables)

-- the OID that the catalog lacks: that of the database, or that of the table in it
abbrev pub missing_object : catalog.Cluster → ℕ → ℕ → Option ℕ
missing_object catalog database table = missing_in database table (find (database_has database) catalog.databases)

abbrev pub control_cause : Result Control ControlError → Option ReadError
control_cause (Ok control) = None
control_cause (Err error) = Some (BadControl error)

-- the refusal of the control file at a cluster's root: it isn't one of a file, or it isn't that of the release
abbrev pub control_refusal : FsState → Path → Release → Option ReadError
control_refusal s root release =
    or_then (option_map Fs (refusal s (ReadsAt (control_path root)))) (control_cause (control_in (unwrap_or (file_bytes s (control_path root)) []) release))

-- the first refusal of a cluster's control file and of its status files
abbrev pub cluster_refusal : FsState → Path → Release → Option ReadError
cluster_refusal s root release = or_then (control_refusal s root release) (option_map Fs (status_refusal s root))

-- the first refusal of a read: the catalog is asked first
abbrev pub read_refusal : FsState → Path → Release → catalog.Cluster → ℕ → ℕ → Option ReadError
read_refusal s root release catalog database table =
    or_then (option_map NoSuch (missing_object catalog database table)) (cluster_refusal s root release)
