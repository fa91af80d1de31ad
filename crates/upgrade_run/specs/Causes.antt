-- What was counted where a run answers a fault, and the phases that may meet it.
use Rattle.std.specs.Prelude.{◌≡◌, ◌≢◌, ◌≤◌, ◌⊎◌, Bool, true, false, Option, Some, None}
use Rattle.fs_model.specs.declared.error.FsError.{FsError}
use Rattle.fs_model.specs.declared.error.FsError.TheVariants as files
use Rattle.fs_model.specs.Names.{Path}
use Rattle.fs_model.specs.Trail.{Counts, Rose}
use Rattle.control_file.specs.declared.job.Job.{Job}
use Rattle.control_file.specs.declared.modes.Mode.{Mode}
use Rattle.control_file.specs.declared.modes.Mode.TheVariants.{Link}
use Rattle.catalog_server.specs.Answers.{ServerCounts}
use Rattle.compat_checks.specs.declared.answer.Change.{Change}
use Rattle.compat_checks.specs.declared.answer.Change.TheVariants as change
use Rattle.accepted_words.specs.declared.line.Line.{Line}
use Rattle.accepted_words.specs.declared.line.Line.TheVariants.{Upgrade, Report, SelfTest}
use Rattle.phase_names.specs.declared.names.PhaseName.{PhaseName}
use Rattle.phase_names.specs.declared.names.PhaseName.TheVariants as phase
use Rattle.upgrade_answers.specs.declared.answer.Answer.{Answer}
use Rattle.upgrade_answers.specs.declared.answer.Answer.TheVariants.{Done, Checked, Reported, Tested, TestFailed, Refused, FsFault, ServerFault, Moved, NoMemory}

-- The phases behind the checks in which a file system may fail or memory may lack: the old cluster is disabled in link mode alone.
abbrev pub IsLater : Mode → PhaseName → Type 0
IsLater mode phase.Restore = Unit {0}
IsLater mode phase.Status = Unit {0}
IsLater mode phase.Disable = mode ≡ Link
IsLater mode phase.Transfer = Unit {0}
IsLater mode phase.Finish = Unit {0}
IsLater mode at = ⊥

-- those of an upgrade: where only a check is asked for, the checks alone
abbrev pub IsOfUpgrade : Mode → Bool → PhaseName → Type 0
IsOfUpgrade mode true at = at ≡ phase.Check
IsOfUpgrade mode false at = (at ≡ phase.Check) ⊎ IsLater mode at

-- those in which a server may fail
abbrev pub IsOfServer : Bool → PhaseName → Type 0
IsOfServer true at = at ≡ phase.Check
IsOfServer false at = (at ≡ phase.Check) ⊎ (at ≡ phase.Restore)

-- a change was met in one of the two data directories
abbrev pub IsRoot : Job → Path → Type 0
IsRoot job root = (root ≡ job.old) ⊎ (root ≡ job.new)

-- the error is a refusal of a call, and one was counted
abbrev pub WasRefused : FsError → Counts → Counts → Type 0
WasRefused error before now = (error ≢ files.Failed) × (error ≢ files.OutOfMemory) × Rose before.refusals now.refusals

-- A call was refused, or a text was read that is none, with its line.
abbrev pub ChangeRose : Change → Counts → Counts → ServerCounts → ServerCounts → Type 0
ChangeRose (change.Refused error) before now server_before server_now = WasRefused error before now
ChangeRose (change.Text line) before now server_before server_now = Rose server_before.texts server_now.texts × (server_now.last_line ≡ line)
ChangeRose change.Differs before now server_before server_now = Unit {0}

-- Disabling the old cluster and carrying files take no memory of their own: where it lacks there, the file system counted it.
abbrev pub LackRose : PhaseName → Counts → Counts → Type 0
LackRose phase.Disable before now = Rose before.lacks now.lacks
LackRose phase.Transfer before now = Rose before.lacks now.lacks
LackRose at before now = Unit {0}

-- Each fault of an upgrade was counted in this run, and comes in a phase that may meet it.
abbrev pub UpgradeHasCause : Job → Bool → Answer → Counts → Counts → ServerCounts → ServerCounts → Type 0
UpgradeHasCause job check (FsFault at) before now server_before server_now = IsOfUpgrade job.mode check at × Rose before.faults now.faults
UpgradeHasCause job check (ServerFault at) before now server_before server_now = IsOfServer check at × Rose server_before.faults server_now.faults
UpgradeHasCause job check (NoMemory at) before now server_before server_now = (at ≡ phase.Words) ⊎ (IsOfUpgrade job.mode check at × LackRose at before now)
UpgradeHasCause job check (Moved root change) before now server_before server_now = IsRoot job root × ChangeRose change before now server_before server_now
UpgradeHasCause job check (Done summary) before now server_before server_now = check ≡ false
UpgradeHasCause job check Checked before now server_before server_now = check ≡ true
UpgradeHasCause job check (Refused refusal) before now server_before server_now = Unit {0}
UpgradeHasCause job check answer before now server_before server_now = ⊥

-- the same for a report
abbrev pub ReportHasCause : Path → Answer → Counts → Counts → Type 0
ReportHasCause old (Reported verdict) before now = Unit {0}
ReportHasCause old (FsFault at) before now = (at ≡ phase.Report) × Rose before.faults now.faults
ReportHasCause old (NoMemory at) before now = (at ≡ phase.Words) ⊎ (at ≡ phase.Report)
ReportHasCause old (Moved root (change.Refused error)) before now = (root ≡ old) × WasRefused error before now
ReportHasCause old answer before now = ⊥

-- the same for a self-test: a phase of its own, or one of an upgrade
abbrev pub TestHasCause : Mode → Answer → Type 0
TestHasCause mode (Tested summary rows) = Unit {0}
TestHasCause mode TestFailed = Unit {0}
TestHasCause mode (NoMemory at) = (at ≡ phase.Words) ⊎ (at ≡ phase.Make) ⊎ (at ≡ phase.Count) ⊎ IsOfUpgrade mode false at
TestHasCause mode answer = ⊥

abbrev pub HasOwnCause : Line → Answer → Counts → Counts → ServerCounts → ServerCounts → Type 0
HasOwnCause (Upgrade job check) answer before now server_before server_now = UpgradeHasCause job check answer before now server_before server_now
HasOwnCause (Report old new) answer before now server_before server_now = ReportHasCause old answer before now
HasOwnCause (SelfTest tables mode) answer before now server_before server_now = TestHasCause mode answer

-- the failure of the file system that an answer tells
abbrev pub failure_in : Answer → Option FsError
failure_in (FsFault at) = Some files.Failed
failure_in answer = None

abbrev pub IsServerFault : Answer → Type 0
IsServerFault (ServerFault at) = Unit {0}
IsServerFault answer = ⊥

-- no count of the server fell, and none of its failures was kept quiet
pub record ServerCounted (before now : ServerCounts) (answer : Answer) : Type 0 where
  pub faults : before.faults ≤ now.faults
  pub texts : before.texts ≤ now.texts
  pub told : (IsServerFault answer → ⊥) → now.faults ≡ before.faults
