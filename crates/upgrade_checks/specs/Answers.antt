-- What the answer of a test says, and the counts behind it.
use Rattle.std.specs.Prelude.{◌≡◌, ◌≤◌, ◌⊎◌, ℕ, Bool, true, false, List, take, Option, Some, None, Result, Ok, Err}
use Rattle.fs_model.specs.declared.error.FsError.{FsError}
use Rattle.fs_model.specs.declared.error.FsError.TheVariants as error
use Rattle.fs_model.specs.Names.{Path}
use Rattle.fs_model.specs.State.{FsState}
use Rattle.fs_model.specs.Reading.{file_bytes}
use Rattle.fs_model.specs.Trail.{Rose, Unchanged, HasCause}
use Rattle.fs_model.specs.Observed.{Observed}
use Rattle.control_file.specs.declared.job.Job.{Job}
use Rattle.control_file.specs.declared.modes.Side.{Side}
use Rattle.control_file.specs.declared.modes.Side.TheVariants.{Old, New}
use Rattle.control_file.specs.declared.releases.Release.TheVariants.{V15}
use Rattle.control_file.specs.ControlRecord.{control_in}
use Rattle.control_checks.specs.Places.{control_path}
use Rattle.control_checks.specs.declared.stop.CheckStop.{CheckStop}
use Rattle.control_checks.specs.declared.stop.CheckStop.TheVariants as controls
use Rattle.catalog_server.specs.declared.error.ServerError.{ServerError}
use Rattle.catalog_server.specs.declared.error.ServerError.TheVariants as server
use Rattle.catalog_server.specs.Answers.{ServerCounts}
use Rattle.compat_checks.specs.declared.refusal.Refusal.{Refusal}
use Rattle.compat_checks.specs.declared.refusal.Refusal.TheVariants.{CatalogText, NewUsed, TablespaceDir, MissingFile, SharedInode, DeviceDiffers}
use Rattle.compat_checks.specs.declared.answer.Passed.{Passed}
use Rattle.compat_checks.specs.declared.answer.CheckError.{CheckError}
use Rattle.compat_checks.specs.declared.answer.CheckError.TheVariants as check
use Rattle.compat_checks.specs.declared.answer.Change.TheVariants as change
use Rattle.compat_checks.specs.Controls.{lifted}
use Rattle.compat_checks.specs.Order.{Condition}
use Rattle.upgrade_checks.specs.declared.stop.Stop.{Stop}
use Rattle.upgrade_checks.specs.declared.stop.Stop.TheVariants.{Refused, Failed, ServerFailed, Changed, OutOfMemory}
use Rattle.upgrade_checks.specs.declared.stop.PathCondition.{PathCondition}
use Rattle.upgrade_checks.specs.declared.stop.PathCondition.TheVariants as paths
use Rattle.upgrade_checks.specs.Findings.{Readings, number_of}
use Rattle.upgrade_checks.specs.Passing.{FindsFirst}

-- ---- what stops a test

-- the file system's error at a condition of this side
abbrev pub stop_for : Side → FsError → Stop
stop_for side error.Failed = Failed side
stop_for side error.OutOfMemory = OutOfMemory
stop_for side e = Changed side e

-- a server's error about this side
abbrev pub stop_by : Side → ServerError → Stop
stop_by side server.Failed = ServerFailed
stop_by side (server.Text line cause) = Refused (CatalogText side line (number_of cause))
stop_by side (server.Fs e) = stop_for side e
stop_by side server.OutOfMemory = OutOfMemory

-- the refusal of a condition that finds a path
abbrev pub tell_path : PathCondition → Path → Refusal
tell_path paths.NewUsed path = NewUsed path
tell_path paths.TablespaceDir path = TablespaceDir path
tell_path paths.MissingFile path = MissingFile path
tell_path paths.SharedInode path = SharedInode path
tell_path paths.DeviceDiffers path = DeviceDiffers path

-- the answer of a test that finds a path
abbrev pub judged_path : Side → PathCondition → Result (Option Path) FsError → Result (Unit {0}) Stop
judged_path side condition (Ok None) = Ok tt
judged_path side condition (Ok (Some path)) = Err (Refused (tell_path condition path))
judged_path side condition (Err e) = Err (stop_for side e)

-- the answer of a test that refuses where it passes
abbrev pub judged : Side → Refusal → Result Bool FsError → Result (Unit {0}) Stop
judged side refusal (Ok true) = Err (Refused refusal)
judged side refusal (Ok false) = Ok tt
judged side refusal (Err e) = Err (stop_for side e)

-- the answer of a server's reading
abbrev pub judged_reading : {T : Type 0} → Side → Result T ServerError → Result T Stop
judged_reading side (Ok value) = Ok value
judged_reading side (Err e) = Err (stop_by side e)

-- the answer of the test of control files
abbrev pub judged_controls : {T : Type 0} → Result T CheckStop → Result T Stop
judged_controls (Ok value) = Ok value
judged_controls (Err (controls.Refused refusal)) = Err (Refused (lifted refusal))
judged_controls (Err (controls.Failed side)) = Err (Failed side)
judged_controls (Err controls.OutOfMemory) = Err OutOfMemory

-- ---- what an answer says

-- the file system's error behind a stop: a refusal is none, and want of memory is free
abbrev pub stop_error : Stop → Option FsError
stop_error (Refused refusal) = None
stop_error (Failed side) = Some error.Failed
stop_error ServerFailed = None
stop_error (Changed side e) = Some e
stop_error OutOfMemory = None

abbrev pub stop_of : {T : Type 0} → Result T Stop → Option FsError
stop_of (Ok value) = None
stop_of (Err stop) = stop_error stop

abbrev pub is_server_stop : Stop → Bool
is_server_stop (Refused refusal) = false
is_server_stop (Failed side) = false
is_server_stop ServerFailed = true
is_server_stop (Changed side e) = false
is_server_stop OutOfMemory = false

-- whether the server failed
abbrev pub server_failed : {T : Type 0} → Result T Stop → Bool
server_failed (Ok value) = false
server_failed (Err stop) = is_server_stop stop

-- the refusal that is answered, if any
abbrev pub refused : {T : Type 0} → Result T Refusal → Option Refusal
refused (Ok value) = None
refused (Err refusal) = Some refusal

-- a refusal is answered only where it is what is found, and no change ever
abbrev pub Stops : (Option Refusal → Type 0) → Stop → Type 0
Stops Finds (Refused refusal) = Finds (Some refusal)
Stops Finds (Failed side) = Unit {0}
Stops Finds ServerFailed = Unit {0}
Stops Finds (Changed side e) = ⊥
Stops Finds OutOfMemory = Unit {0}

-- and Ok only where nothing is found
abbrev pub Tells : {T : Type 0} → (Option Refusal → Type 0) → Result T Stop → Type 0
Tells Finds (Ok value) = Finds None
Tells Finds (Err stop) = Stops Finds stop

-- The conditions were tested in their order, with a server or without: no state was changed, the answer has its cause, and it
-- is what they find first.
pub record Tested {T : Type 0} (served : Bool) (job : Job) (readings : Readings) (conditions : List Condition) (before after : Observed) (result : Result T Stop) : Type 0 where
  pub told : after.told ≡ before.told
  pub firm : after.firm ≡ before.firm
  pub unchanged : before.told ≡ true → Unchanged before.trail after.trail
  pub cause : HasCause before.firm before.counts after.counts (stop_of result)
  pub quiet : served ≡ false → server_failed result ≡ false
  pub tells : before.told ≡ true → Tells (FindsFirst before.trail.present job readings conditions) result

-- No count of the server fell, that of its failures rose where the answer is one, and no failure was kept quiet.
pub record HasServerPart (failed : Bool) (before now : ServerCounts) : Type 0 where
  pub faults : before.faults ≤ now.faults
  pub texts : before.texts ≤ now.texts
  pub rose : failed ≡ true → Rose before.faults now.faults
  pub told : failed ≡ false → now.faults ≡ before.faults

-- ---- what the whole check answers

-- What was read: the old cluster's control record, the first bytes of the new one's control file, and the old catalog.
pub record IsReadFrom (s : FsState) (job : Job) (readings : Readings) (passed : Passed) : Type 0 where
  pub old_bytes : List ℕ
  pub old_file : file_bytes s (control_path job.old) ≡ Some old_bytes
  pub old_control : control_in old_bytes V15 ≡ Ok passed.old_control
  pub new_bytes : List ℕ
  pub new_file : file_bytes s (control_path job.new) ≡ Some new_bytes
  pub new_record : passed.new_record ≡ take 296 new_bytes
  pub old_catalog : readings.old ≡ Ok passed.old_catalog

abbrev pub side_of : Path → Path → Side → Path
side_of old new Old = old
side_of old new New = new

-- what a stop is to the whole check
abbrev pub error_by : Path → Path → Stop → CheckError
error_by old new (Refused refusal) = check.Refused refusal
error_by old new (Failed side) = check.Fs (side_of old new side) error.Failed
error_by old new ServerFailed = check.Server
error_by old new (Changed side e) = check.Changed (side_of old new side) (change.Refused e)
error_by old new OutOfMemory = check.OutOfMemory

abbrev pub judged_all : {T : Type 0} → Path → Path → Result T Stop → Result T CheckError
judged_all old new (Ok value) = Ok value
judged_all old new (Err stop) = Err (error_by old new stop)

-- the file system's error behind the check's
abbrev pub files_error : {T : Type 0} → Result T CheckError → Option FsError
files_error (Err (check.Fs root e)) = Some e
files_error (Err (check.Changed root (change.Refused e))) = Some e
files_error _ = None

-- whether the server failed
abbrev pub is_server_fault : {T : Type 0} → Result T CheckError → Bool
is_server_fault (Err check.Server) = true
is_server_fault _ = false

-- where the check refuses, the refusal has P
abbrev pub IfRefused : {T : Type 0} → Result T CheckError → (Refusal → Type 0) → Type 0
IfRefused (Err (check.Refused refusal)) P = P refusal
IfRefused _ P = Unit {0}

-- nothing that was seen changed
abbrev pub IsNoChange : {T : Type 0} → Result T CheckError → Type 0
IsNoChange (Err (check.Changed root change)) = ⊥
IsNoChange _ = Unit {0}

-- one of the two data directories
abbrev pub IsRoot : Job → Path → Type 0
IsRoot job path = (path ≡ job.old) ⊎ (path ≡ job.new)

-- A failure of the file system is told with one of the two data directories, and so is a change, which is a refused call.
abbrev pub IsTold : {T : Type 0} → Job → Result T CheckError → Type 0
IsTold job (Err (check.Fs root e)) = IsRoot job root × (e ≡ error.Failed)
IsTold job (Err (check.Changed root (change.Refused e))) = IsRoot job root
IsTold job (Err (check.Changed root (change.Text line))) = ⊥
IsTold job (Err (check.Changed root change.Differs)) = ⊥
IsTold job _ = Unit {0}
