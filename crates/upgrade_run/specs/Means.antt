-- What each answer of a run says of the state that it began in.
use Rattle.std.specs.Prelude.{◌≡◌, Bool, true, false}
use Rattle.fs_model.specs.Names.{Path}
use Rattle.fs_model.specs.State.{FsState}
use Rattle.control_file.specs.declared.job.Job.{Job}
use Rattle.accepted_words.specs.declared.line.Line.{Line}
use Rattle.accepted_words.specs.declared.line.Line.TheVariants.{Upgrade, Report, SelfTest}
use Rattle.phase_names.specs.declared.summary.Summary.{Summary}
use Rattle.phase_names.specs.declared.names.PhaseName.{PhaseName}
use Rattle.phase_names.specs.declared.names.PhaseName.TheVariants as phase
use Rattle.verdicts.specs.declared.verdict.Verdict.{Verdict as Found}
use Rattle.verdicts.specs.Verdicts.{IsVerdict}
use Rattle.upgrade_checks.specs.Findings.{Reader, readings_in}
use Rattle.upgrade_checks.specs.Passing as checks
use Rattle.upgrade_answers.specs.declared.answer.Answer.{Answer}
use Rattle.upgrade_answers.specs.declared.answer.Answer.TheVariants.{Done, Checked, Reported, Tested, TestFailed, Usage, Refused, FsFault, ServerFault, Moved, NoMemory}
use Rattle.upgrade_run.specs.Answers.{verdict_as}

-- no refusal's condition holds, as the server reads both clusters
abbrev pub Passes : Reader → FsState → Job → Type 0
Passes read s job = checks.Passes s job (readings_in read s job)

-- the phases that change nothing
abbrev pub IsEarly : PhaseName → Type 0
IsEarly phase.Words = Unit {0}
IsEarly phase.Check = Unit {0}
IsEarly phase.Report = Unit {0}
IsEarly at = ⊥

-- the answers after which nothing was changed
abbrev pub LeavesAll : Answer → Type 0
LeavesAll (Done summary) = ⊥
LeavesAll Checked = Unit {0}
LeavesAll (Reported verdict) = Unit {0}
LeavesAll (Tested summary rows) = Unit {0}
LeavesAll TestFailed = Unit {0}
LeavesAll (Usage position) = Unit {0}
LeavesAll (Refused refusal) = Unit {0}
LeavesAll (FsFault at) = IsEarly at
LeavesAll (ServerFault at) = IsEarly at
LeavesAll (Moved root change) = ⊥
LeavesAll (NoMemory at) = IsEarly at

abbrev pub IsUsage : Answer → Type 0
IsUsage (Usage position) = Unit {0}
IsUsage answer = ⊥

abbrev pub IsFsFault : Answer → Type 0
IsFsFault (FsFault at) = Unit {0}
IsFsFault answer = ⊥

-- where the upgrade is done, its summary has P
abbrev pub IfDone : Answer → (Summary → Type 0) → Type 0
IfDone (Done summary) P = P summary
IfDone answer P = Unit {0}

-- the answers after which the words were read and what they ask for was begun
abbrev pub HasBegun : Answer → Type 0
HasBegun (Usage position) = ⊥
HasBegun (NoMemory phase.Words) = ⊥
HasBegun answer = Unit {0}

-- a phase behind the checks was begun only where all had passed
abbrev pub Reached : Reader → FsState → Job → PhaseName → Type 0
Reached read s job phase.Words = Unit {0}
Reached read s job phase.Check = Unit {0}
Reached read s job at = Passes read s job

-- what an answer says of the state s that an upgrade began in; nothing that the checks saw changes
abbrev pub UpgradeMeans : Reader → FsState → Job → Answer → Type 0
UpgradeMeans read s job (Done summary) = Passes read s job
UpgradeMeans read s job Checked = Passes read s job
UpgradeMeans read s job (Refused refusal) = checks.IsFirst s job (readings_in read s job) refusal
UpgradeMeans read s job (FsFault at) = Reached read s job at
UpgradeMeans read s job (ServerFault at) = Reached read s job at
UpgradeMeans read s job (NoMemory at) = Reached read s job at
UpgradeMeans read s job answer = ⊥

-- what an answer says of the state s that a report looked at
abbrev pub ReportMeans : FsState → Path → Path → Answer → Type 0
ReportMeans s old new (Reported verdict) = (found : Found) × (verdict ≡ verdict_as found) × IsVerdict s old new found
ReportMeans s old new (FsFault at) = Unit {0}
ReportMeans s old new (NoMemory at) = Unit {0}
ReportMeans s old new answer = ⊥

-- the answers of a self-test
abbrev pub TestMeans : Answer → Type 0
TestMeans (Tested summary rows) = Unit {0}
TestMeans TestFailed = Unit {0}
TestMeans (NoMemory at) = Unit {0}
TestMeans answer = ⊥

abbrev pub Means : Reader → FsState → Line → Answer → Type 0
Means read s (Upgrade job check) answer = UpgradeMeans read s job answer
Means read s (Report old new) answer = ReportMeans s old new answer
Means read s (SelfTest tables mode) answer = TestMeans answer

-- What an upgrade answers where nothing failed: the first condition that holds; where none does, that it is done, or with a check
-- alone that it passes; or want of memory.
abbrev pub UpgradeCompletes : Reader → FsState → Job → Bool → Answer → Type 0
UpgradeCompletes read s job check (Done summary) = (check ≡ false) × Passes read s job
UpgradeCompletes read s job check Checked = (check ≡ true) × Passes read s job
UpgradeCompletes read s job check (Refused refusal) = checks.IsFirst s job (readings_in read s job) refusal
UpgradeCompletes read s job check (NoMemory at) = Reached read s job at
UpgradeCompletes read s job check answer = ⊥

-- the same for a report: the verdict, or want of memory
abbrev pub ReportCompletes : FsState → Path → Path → Answer → Type 0
ReportCompletes s old new (Reported verdict) = ReportMeans s old new (Reported verdict)
ReportCompletes s old new (NoMemory at) = Unit {0}
ReportCompletes s old new answer = ⊥

abbrev pub Completes : Reader → FsState → Line → Answer → Type 0
Completes read s (Upgrade job check) answer = UpgradeCompletes read s job check answer
Completes read s (Report old new) answer = ReportCompletes s old new answer
Completes read s (SelfTest tables mode) answer = TestMeans answer
