-- What is said of a server's answer by its kind, and the counts that are behind an error.
use Rattle.std.specs.Prelude.{◌≡◌, ◌≢◌, ◌≤◌, ℕ, Bool, Option, Some, None, Result, Ok, Err}
use Rattle.fs_model.specs.declared.error.FsError.{FsError}
use Rattle.fs_model.specs.declared.error.FsError.TheVariants as error
use Rattle.fs_model.specs.Trail.{Counts, Rose, HasCause}
use Rattle.dump_grammar.specs.declared.error.TextError.{TextError}
use Rattle.dump_grammar.specs.declared.error.TextCause.{TextCause}
use Rattle.catalog_server.specs.declared.error.ServerError.{ServerError}
use Rattle.catalog_server.specs.declared.error.ServerError.TheVariants.{Failed, Text, Fs, OutOfMemory}

abbrev pub server_error_of : {T : Type 0} → Result T ServerError → Option ServerError
server_error_of (Ok value) = None
server_error_of (Err e) = Some e

-- where the answer is Text, its line and cause have P
abbrev pub IfText : {T : Type 0} → Result T ServerError → (TextError → Type 0) → Type 0
IfText (Ok value) P = Unit {0}
IfText (Err Failed) P = Unit {0}
IfText (Err (Text line cause)) P = P (record { line = line; cause = cause })
IfText (Err (Fs e)) P = Unit {0}
IfText (Err OutOfMemory) P = Unit {0}

-- where the answer is Text
abbrev pub OnText : {T : Type 0} → Result T ServerError → Type 0 → Type 0
OnText result P = IfText result (λ _. P)

-- the file system refused no call of the server's
abbrev pub IsUnrefused : {T : Type 0} → Result T ServerError → Type 0
IsUnrefused (Err (Fs e)) = e ≡ error.Failed
IsUnrefused _ = Unit {0}

-- how often a server failed, how often it answered Text, and the line of the last Text
pub record ServerCounts : Type 0 where
  pub faults : ℕ
  pub texts : ℕ
  pub last_line : ℕ

-- the file system's error behind a server's; want of memory is free
abbrev pub files_error : Option ServerError → Option FsError
files_error (Some (Fs e)) = Some e
files_error _ = None

-- the count of this answer rose
abbrev pub RoseForServer : Option ServerError → ServerCounts → ServerCounts → Type 0
RoseForServer (Some Failed) before now = Rose before.faults now.faults
RoseForServer (Some (Text line cause)) before now = Rose before.texts now.texts × (now.last_line ≡ line)
RoseForServer (Some (Fs e)) before now = e ≢ error.OutOfMemory
RoseForServer _ before now = Unit {0}

-- unless the answer is a failure, none was counted
abbrev pub ServerFaultsStay : Option ServerError → ServerCounts → ServerCounts → Type 0
ServerFaultsStay (Some Failed) before now = Unit {0}
ServerFaultsStay _ before now = now.faults ≡ before.faults

-- No count of the server fell, each error of its own has its cause, no failure was kept quiet, and all this holds of the
-- file system's error that it hands on.
pub record HasServerCause (firm : Bool) (files_before files_now : Counts) (before now : ServerCounts) (answer : Option ServerError) : Type 0 where
  pub faults : before.faults ≤ now.faults
  pub texts : before.texts ≤ now.texts
  pub rose : RoseForServer answer before now
  pub told : ServerFaultsStay answer before now
  pub files : HasCause firm files_before files_now (files_error answer)
