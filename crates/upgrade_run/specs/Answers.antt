-- What the answers of the checks, the phases and the verdict are to a run.
use Rattle.std.specs.Prelude.{Result, Ok, Err}
use Rattle.fs_model.specs.declared.error.FsError.{FsError}
use Rattle.fs_model.specs.declared.error.FsError.TheVariants as files
use Rattle.fs_model.specs.Names.{Path}
use Rattle.compat_checks.specs.declared.answer.CheckError.{CheckError}
use Rattle.compat_checks.specs.declared.answer.CheckError.TheVariants as check
use Rattle.compat_checks.specs.declared.answer.Change.{Change}
use Rattle.compat_checks.specs.declared.answer.Change.TheVariants as change
use Rattle.phase_names.specs.declared.names.PhaseName.{PhaseName}
use Rattle.phase_names.specs.declared.names.PhaseName.TheVariants.{Check, Report}
use Rattle.phase_names.specs.declared.summary.Summary.{Summary}
use Rattle.phases.specs.declared.error.PhaseError.{PhaseError}
use Rattle.phases.specs.declared.error.PhaseFault.TheVariants as fault
use Rattle.phases.specs.declared.error.PhaseFault.{PhaseFault}
use Rattle.verdicts.specs.declared.verdict.Verdict.{Verdict as Found}
use Rattle.verdicts.specs.declared.verdict.Verdict.TheVariants as found
use Rattle.upgrade_answers.specs.declared.answer.Answer.{Answer}
use Rattle.upgrade_answers.specs.declared.answer.Answer.TheVariants.{Done, Reported, Refused, FsFault, ServerFault, Moved, NoMemory}
use Rattle.upgrade_answers.specs.declared.answer.Verdict.{Verdict}
use Rattle.upgrade_answers.specs.declared.answer.Verdict.TheVariants as verdict

-- an error of the file system in a phase; a refused call is a change of what was seen in the data directory
abbrev pub files_answer : PhaseName → Path → FsError → Answer
files_answer at root files.Failed = FsFault at
files_answer at root files.OutOfMemory = NoMemory at
files_answer at root error = Moved root (change.Refused error)

abbrev pub change_answer : PhaseName → Path → Change → Answer
change_answer at root (change.Refused error) = files_answer at root error
change_answer at root (change.Text line) = Moved root (change.Text line)
change_answer at root change.Differs = Moved root change.Differs

abbrev pub check_answer : CheckError → Answer
check_answer (check.Refused refusal) = Refused refusal
check_answer (check.Fs root error) = files_answer Check root error
check_answer check.Server = ServerFault Check
check_answer (check.Changed root change) = change_answer Check root change
check_answer check.OutOfMemory = NoMemory Check

abbrev pub fault_answer : PhaseName → PhaseFault → Answer
fault_answer at fault.Fs = FsFault at
fault_answer at fault.Server = ServerFault at
fault_answer at (fault.Changed root change) = change_answer at root change
fault_answer at fault.NoMemory = NoMemory at

abbrev pub phases_answer : Result Summary PhaseError → Answer
phases_answer (Ok summary) = Done summary
phases_answer (Err error) = fault_answer error.at error.kind

-- the verdict, as it is printed
abbrev pub verdict_as : Found → Verdict
verdict_as found.Finished = verdict.Finished
verdict_as found.Untouched = verdict.Untouched
verdict_as found.Disabled = verdict.Disabled
verdict_as (found.Linked paths) = verdict.Linked paths
verdict_as (found.Unsafe paths) = verdict.Unsafe paths
verdict_as found.NoControl = verdict.NoControl

abbrev pub report_answer : Path → Result Found FsError → Answer
report_answer root (Ok found) = Reported (verdict_as found)
report_answer root (Err error) = files_answer Report root error
