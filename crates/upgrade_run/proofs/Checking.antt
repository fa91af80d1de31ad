-- The answer where the checks don't pass.
use Rattle.std.proofs.Common.{Bool, true, false, Some, Result, Err, inl, inr, refl}
use Rattle.fs_model.specs.declared.error.FsError.TheVariants.{NotFound, Exists, NotDir, WrongKind, NotEmpty, CrossDevice, CrossDir, Failed, OutOfMemory}
use Rattle.fs_model.specs.State.{FsState}
use Rattle.fs_model.specs.Trail.{Counts, HasCause}
use Rattle.fs_model.proofs.Causes.{cause_unless_lack}
use Rattle.control_file.specs.declared.job.Job.{Job}
use Rattle.control_file.specs.declared.modes.Mode.{Mode}
use Rattle.catalog_server.specs.Answers.{ServerCounts}
use Rattle.compat_checks.specs.declared.answer.Passed.{Passed}
use Rattle.compat_checks.specs.declared.answer.CheckError.{CheckError}
use Rattle.compat_checks.specs.declared.answer.CheckError.TheVariants as check
use Rattle.compat_checks.specs.declared.answer.Change.TheVariants as change
use Rattle.phase_names.specs.declared.names.PhaseName.TheVariants.{Check}
use Rattle.upgrade_checks.specs.Findings.{Reader, readings_in}
use Rattle.upgrade_checks.specs.Passing.{IsFirst}
use Rattle.upgrade_checks.specs.Answers.{HasServerPart, is_server_fault, files_error, IfRefused, IsNoChange, IsTold}
use Rattle.upgrade_run.specs.Answers.{check_answer}
use Rattle.upgrade_run.specs.Causes.{UpgradeHasCause, IsOfUpgrade, IsOfServer, ServerCounted, failure_in}
use Rattle.upgrade_run.specs.Means.{LeavesAll, HasBegun, UpgradeMeans}
use Rattle.upgrade_run.proofs.Causing.{files_counts, files_begun, change_begun}

abbrev Fails : CheckError → Result Passed CheckError
Fails error = Err error

pub check_means : (read : Reader) (s : FsState) (job : Job) (error : CheckError) → IfRefused (Fails error) (IsFirst s job (readings_in read s job)) → IsNoChange (Fails error) → IsTold job (Fails error) → UpgradeMeans read s job (check_answer error)
check_means read s job (check.Refused refusal) first none told = first
check_means read s job (check.Fs root Failed) first none told = tt
check_means read s job (check.Fs root OutOfMemory) first none told = tt
check_means read s job (check.Fs root NotFound) first none told = absurd (cc (told.1))
check_means read s job (check.Fs root Exists) first none told = absurd (cc (told.1))
check_means read s job (check.Fs root NotDir) first none told = absurd (cc (told.1))
check_means read s job (check.Fs root WrongKind) first none told = absurd (cc (told.1))
check_means read s job (check.Fs root NotEmpty) first none told = absurd (cc (told.1))
check_means read s job (check.Fs root CrossDevice) first none told = absurd (cc (told.1))
check_means read s job (check.Fs root CrossDir) first none told = absurd (cc (told.1))
check_means read s job check.Server first none told = tt
check_means read s job (check.Changed root change) first none told = absurd none
check_means read s job check.OutOfMemory first none told = tt

pub check_leaves : (job : Job) (error : CheckError) → IsNoChange (Fails error) → IsTold job (Fails error) → LeavesAll (check_answer error)
check_leaves job (check.Refused refusal) none told = tt
check_leaves job (check.Fs root Failed) none told = tt
check_leaves job (check.Fs root OutOfMemory) none told = tt
check_leaves job (check.Fs root NotFound) none told = absurd (cc (told.1))
check_leaves job (check.Fs root Exists) none told = absurd (cc (told.1))
check_leaves job (check.Fs root NotDir) none told = absurd (cc (told.1))
check_leaves job (check.Fs root WrongKind) none told = absurd (cc (told.1))
check_leaves job (check.Fs root NotEmpty) none told = absurd (cc (told.1))
check_leaves job (check.Fs root CrossDevice) none told = absurd (cc (told.1))
check_leaves job (check.Fs root CrossDir) none told = absurd (cc (told.1))
check_leaves job check.Server none told = tt
check_leaves job (check.Changed root change) none told = absurd none
check_leaves job check.OutOfMemory none told = tt

at_check : (mode : Mode) (only : Bool) → IsOfUpgrade mode only Check
at_check mode true = refl
at_check mode false = inl refl

server_at_check : (only : Bool) → IsOfServer only Check
server_at_check true = refl
server_at_check false = inl refl

pub check_cause : (job : Job) (only : Bool) (error : CheckError) (firm : Bool) (before now : Counts) (server_before server_now : ServerCounts) → IsTold job (Fails error) → HasCause firm before now (files_error (Fails error)) → HasServerPart (is_server_fault (Fails error)) server_before server_now
    → UpgradeHasCause job only (check_answer error) before now server_before server_now
check_cause job only (check.Refused refusal) firm before now server_before server_now told cause part = tt
check_cause job only (check.Fs root Failed) firm before now server_before server_now told cause part = (at_check job.mode only, cause.rose)
check_cause job only (check.Fs root OutOfMemory) firm before now server_before server_now told cause part = inr (at_check job.mode only, tt)
check_cause job only (check.Fs root NotFound) firm before now server_before server_now told cause part = absurd (cc (told.1))
check_cause job only (check.Fs root Exists) firm before now server_before server_now told cause part = absurd (cc (told.1))
check_cause job only (check.Fs root NotDir) firm before now server_before server_now told cause part = absurd (cc (told.1))
check_cause job only (check.Fs root WrongKind) firm before now server_before server_now told cause part = absurd (cc (told.1))
check_cause job only (check.Fs root NotEmpty) firm before now server_before server_now told cause part = absurd (cc (told.1))
check_cause job only (check.Fs root CrossDevice) firm before now server_before server_now told cause part = absurd (cc (told.1))
check_cause job only (check.Fs root CrossDir) firm before now server_before server_now told cause part = absurd (cc (told.1))
check_cause job only check.Server firm before now server_before server_now told cause part = (server_at_check only, part.rose refl)
check_cause job only (check.Changed root (change.Refused Failed)) firm before now server_before server_now told cause part = (at_check job.mode only, cause.rose)
check_cause job only (check.Changed root (change.Refused OutOfMemory)) firm before now server_before server_now told cause part = inr (at_check job.mode only, tt)
check_cause job only (check.Changed root (change.Refused NotFound)) firm before now server_before server_now told cause part = (told, ((λ e. cc e), (λ e. cc e), cause.rose))
check_cause job only (check.Changed root (change.Refused Exists)) firm before now server_before server_now told cause part = (told, ((λ e. cc e), (λ e. cc e), cause.rose))
check_cause job only (check.Changed root (change.Refused NotDir)) firm before now server_before server_now told cause part = (told, ((λ e. cc e), (λ e. cc e), cause.rose))
check_cause job only (check.Changed root (change.Refused WrongKind)) firm before now server_before server_now told cause part = (told, ((λ e. cc e), (λ e. cc e), cause.rose))
check_cause job only (check.Changed root (change.Refused NotEmpty)) firm before now server_before server_now told cause part = (told, ((λ e. cc e), (λ e. cc e), cause.rose))
check_cause job only (check.Changed root (change.Refused CrossDevice)) firm before now server_before server_now told cause part = (told, ((λ e. cc e), (λ e. cc e), cause.rose))
check_cause job only (check.Changed root (change.Refused CrossDir)) firm before now server_before server_now told cause part = (told, ((λ e. cc e), (λ e. cc e), cause.rose))
check_cause job only (check.Changed root (change.Text line)) firm before now server_before server_now told cause part = absurd told
check_cause job only (check.Changed root change.Differs) firm before now server_before server_now told cause part = absurd told
check_cause job only check.OutOfMemory firm before now server_before server_now told cause part = inr (at_check job.mode only, tt)

pub check_counts : (error : CheckError) (firm : Bool) (before now : Counts) → HasCause firm before now (files_error (Fails error)) → HasCause firm before now (failure_in (check_answer error))
check_counts (check.Refused refusal) firm before now cause = cause
check_counts (check.Fs root error) firm before now cause = files_counts firm before now Check root error (cause_unless_lack firm before now (Some error) cause)
check_counts check.Server firm before now cause = cause
check_counts (check.Changed root (change.Refused error)) firm before now cause = files_counts firm before now Check root error (cause_unless_lack firm before now (Some error) cause)
check_counts (check.Changed root (change.Text line)) firm before now cause = cause
check_counts (check.Changed root change.Differs) firm before now cause = cause
check_counts check.OutOfMemory firm before now cause = cause

pub check_server : (error : CheckError) (before now : ServerCounts) → HasServerPart (is_server_fault (Fails error)) before now → ServerCounted before now (check_answer error)
check_server check.Server before now part = record { faults = part.faults; texts = part.texts; told = λ other. absurd (other tt) }
check_server (check.Refused refusal) before now part = record { faults = part.faults; texts = part.texts; told = λ other. part.told refl }
check_server (check.Fs root error) before now part = record { faults = part.faults; texts = part.texts; told = λ other. part.told refl }
check_server (check.Changed root change) before now part = record { faults = part.faults; texts = part.texts; told = λ other. part.told refl }
check_server check.OutOfMemory before now part = record { faults = part.faults; texts = part.texts; told = λ other. part.told refl }

pub check_begun : (error : CheckError) → HasBegun (check_answer error)
check_begun (check.Refused refusal) = tt
check_begun (check.Fs root error) = files_begun Check root error tt
check_begun check.Server = tt
check_begun (check.Changed root found) = change_begun Check root found tt
check_begun check.OutOfMemory = tt
