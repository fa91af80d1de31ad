-- What a server's answer is to the carrying of a schema, and the counts behind each error.
use Rattle.std.specs.Prelude.{◌≡◌, ◌≢◌, ◌≤◌, Bool, Option, Some, None, Result, Ok, Err}
use Rattle.fs_model.specs.declared.error.FsError.{FsError}
use Rattle.fs_model.specs.declared.error.FsError.TheVariants as error
use Rattle.fs_model.specs.Trail.{Counts, Rose, HasCause}
use Rattle.control_file.specs.declared.modes.Side.{Side}
use Rattle.catalog_server.specs.declared.error.ServerError.{ServerError}
use Rattle.catalog_server.specs.declared.error.ServerError.TheVariants as server
use Rattle.catalog_server.specs.Answers.{ServerCounts}
use Rattle.restore.specs.declared.error.RestoreError.{RestoreError}
use Rattle.restore.specs.declared.error.RestoreError.TheVariants.{Server, Fs, Text, Differs, OutOfMemory}

abbrev pub error_on : Side → ServerError → RestoreError
error_on side server.Failed = Server
error_on side (server.Text line cause) = Text side line
error_on side (server.Fs e) = Fs side e
error_on side server.OutOfMemory = OutOfMemory

abbrev pub on_side : {T : Type 0} → Side → Result T ServerError → Result T RestoreError
on_side side (Ok value) = Ok value
on_side side (Err e) = Err (error_on side e)

abbrev pub restore_error_of : {T : Type 0} → Result T RestoreError → Option RestoreError
restore_error_of (Ok value) = None
restore_error_of (Err e) = Some e

-- the file system's error behind it; want of memory is free
abbrev pub files_error : Option RestoreError → Option FsError
files_error (Some (Fs side e)) = Some e
files_error _ = None

-- the count of this answer rose
abbrev pub RoseForRestore : Option RestoreError → ServerCounts → ServerCounts → Type 0
RoseForRestore (Some Server) before now = Rose before.faults now.faults
RoseForRestore (Some (Text side line)) before now = Rose before.texts now.texts × (now.last_line ≡ line)
RoseForRestore (Some (Fs side e)) before now = e ≢ error.OutOfMemory
RoseForRestore _ before now = Unit {0}

-- unless the answer is a failure of the server, none was counted
abbrev pub RestoreFaultsStay : Option RestoreError → ServerCounts → ServerCounts → Type 0
RestoreFaultsStay (Some Server) before now = Unit {0}
RestoreFaultsStay _ before now = now.faults ≡ before.faults

-- No count fell, each error has its cause, and no failure was kept quiet.
pub record HasRestoreCause (firm : Bool) (files_before files_now : Counts) (before now : ServerCounts) (answer : Option RestoreError) : Type 0 where
  pub faults : before.faults ≤ now.faults
  pub texts : before.texts ≤ now.texts
  pub rose : RoseForRestore answer before now
  pub told : RestoreFaultsStay answer before now
  pub files : HasCause firm files_before files_now (files_error answer)

-- the answer isn't one of a cluster that changed since it was checked
abbrev pub IsNoChange : {T : Type 0} → Result T RestoreError → Type 0
IsNoChange (Err (Text side line)) = ⊥
IsNoChange (Err Differs) = ⊥
IsNoChange _ = Unit {0}

-- the file system refused no call
abbrev pub IsUnrefused : {T : Type 0} → Result T RestoreError → Type 0
IsUnrefused (Err (Fs side e)) = e ≡ error.Failed
IsUnrefused _ = Unit {0}
