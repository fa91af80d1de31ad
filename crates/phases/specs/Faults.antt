-- What the errors of the crates below are to a phase, and the counts behind each fault.
use Rattle.std.specs.Prelude.{◌≡◌, ◌≤◌, Bool, Option, Some, None, Result, Ok, Err}
use Rattle.fs_model.specs.Names.{Path}
use Rattle.fs_model.specs.declared.error.FsError.{FsError}
use Rattle.fs_model.specs.declared.error.FsError.TheVariants as files
use Rattle.fs_model.specs.Trail.{Counts, Rose, HasCause, unless_lack}
use Rattle.control_file.specs.declared.job.Job.{Job}
use Rattle.control_file.specs.declared.modes.Side.{Side}
use Rattle.control_file.specs.declared.modes.Side.TheVariants.{Old, New}
use Rattle.catalog_server.specs.Answers.{ServerCounts}
use Rattle.compat_checks.specs.declared.answer.Change.TheVariants.{Refused, Text, Differs}
use Rattle.restore.specs.declared.error.RestoreError.{RestoreError}
use Rattle.restore.specs.declared.error.RestoreError.TheVariants as restore
use Rattle.phases.specs.declared.error.PhaseError.{PhaseError}
use Rattle.phases.specs.declared.error.PhaseFault.{PhaseFault}
use Rattle.phases.specs.declared.error.PhaseFault.TheVariants.{Fs, Server, Changed, NoMemory}

-- an error of the file system; a refusal is a change of what was seen in the data directory
abbrev pub files_fault : Path → FsError → PhaseFault
files_fault root files.Failed = Fs
files_fault root files.OutOfMemory = NoMemory
files_fault root error = Changed root (Refused error)

-- the data directory of a side
abbrev pub root_of : Job → Side → Path
root_of job Old = job.old
root_of job New = job.new

-- an error of carrying the schema
abbrev pub restore_fault : Job → RestoreError → PhaseFault
restore_fault job restore.Server = Server
restore_fault job (restore.Fs side error) = files_fault (root_of job side) error
restore_fault job (restore.Text side line) = Changed (root_of job side) (Text line)
restore_fault job restore.Differs = Changed job.new Differs
restore_fault job restore.OutOfMemory = NoMemory

-- why a step ended early, if it did
abbrev pub fault_in : {T : Type 0} → Result T PhaseError → Option PhaseFault
fault_in (Ok value) = None
fault_in (Err error) = Some error.kind

-- the file system's error behind a fault
abbrev pub files_error : Option PhaseFault → Option FsError
files_error (Some Fs) = Some files.Failed
files_error (Some (Changed root (Refused error))) = Some error
files_error (Some NoMemory) = Some files.OutOfMemory
files_error _ = None

-- The fault is one of the file system or of memory, and what changed is in this data directory.
abbrev pub IsOfFiles : Path → PhaseFault → Type 0
IsOfFiles root Fs = Unit {0}
IsOfFiles root NoMemory = Unit {0}
IsOfFiles root (Changed path (Refused error)) = path ≡ root
IsOfFiles root _ = ⊥

-- What changed, if anything did, is in one of the two clusters.
abbrev pub IsInCluster : Job → PhaseFault → Type 0
IsInCluster job (Changed path change) = (side : Side) × (path ≡ root_of job side)
IsInCluster job _ = Unit {0}

-- nothing changed
abbrev pub IsNoChange : PhaseFault → Type 0
IsNoChange (Changed path change) = ⊥
IsNoChange _ = Unit {0}

-- the server's count of this fault rose
abbrev pub RoseForPhase : Option PhaseFault → ServerCounts → ServerCounts → Type 0
RoseForPhase (Some Server) before now = Rose before.faults now.faults
RoseForPhase (Some (Changed path (Text line))) before now = Rose before.texts now.texts × (now.last_line ≡ line)
RoseForPhase _ before now = Unit {0}

-- unless the fault is a failure of the server, none was counted
abbrev pub ServerFaultsStay : Option PhaseFault → ServerCounts → ServerCounts → Type 0
ServerFaultsStay (Some Server) before now = Unit {0}
ServerFaultsStay _ before now = now.faults ≡ before.faults

-- No count fell, each fault but want of memory has its cause, and no failure was kept quiet.
pub record HasPhaseCause (firm : Bool) (files_before files_now : Counts) (before now : ServerCounts) (fault : Option PhaseFault) : Type 0 where
  pub faults : before.faults ≤ now.faults
  pub texts : before.texts ≤ now.texts
  pub rose : RoseForPhase fault before now
  pub told : ServerFaultsStay fault before now
  pub files : HasCause firm files_before files_now (unless_lack (files_error fault))
