-- The answer to a report.
use Rattle.std.proofs.Common.{Bool, Result, Ok, Err, IfOk, inr, refl}
use Rattle.fs_model.specs.declared.error.FsError.{FsError}
use Rattle.fs_model.specs.declared.error.FsError.TheVariants.{NotFound, Exists, NotDir, WrongKind, NotEmpty, CrossDevice, CrossDir, Failed, OutOfMemory}
use Rattle.fs_model.specs.Names.{Path}
use Rattle.fs_model.specs.State.{FsState}
use Rattle.fs_model.specs.Trail.{Counts, HasCause, error_of, unless_lack}
use Rattle.tree_checks.specs.Looks.{IsNoRefusal}
use Rattle.phase_names.specs.declared.names.PhaseName.TheVariants.{Report}
use Rattle.verdicts.specs.declared.verdict.Verdict.{Verdict as Found}
use Rattle.verdicts.specs.Verdicts.{IsVerdict}
use Rattle.upgrade_run.specs.Answers.{report_answer}
use Rattle.upgrade_run.specs.Causes.{ReportHasCause, failure_in}
use Rattle.upgrade_run.specs.Means.{LeavesAll, HasBegun, ReportMeans}
use Rattle.upgrade_run.proofs.Causing.{files_counts, files_begun}

pub report_means : (s : FsState) (old new : Path) (verdict : Result Found FsError) → IfOk verdict (IsVerdict s old new) → IsNoRefusal verdict → ReportMeans s old new (report_answer old verdict)
report_means s old new (Ok found) is none = (found, refl, is)
report_means s old new (Err Failed) is none = tt
report_means s old new (Err OutOfMemory) is none = tt
report_means s old new (Err NotFound) is none = absurd (cc none)
report_means s old new (Err Exists) is none = absurd (cc none)
report_means s old new (Err NotDir) is none = absurd (cc none)
report_means s old new (Err WrongKind) is none = absurd (cc none)
report_means s old new (Err NotEmpty) is none = absurd (cc none)
report_means s old new (Err CrossDevice) is none = absurd (cc none)
report_means s old new (Err CrossDir) is none = absurd (cc none)

pub report_leaves : (old : Path) (verdict : Result Found FsError) → IsNoRefusal verdict → LeavesAll (report_answer old verdict)
report_leaves old (Ok found) none = tt
report_leaves old (Err Failed) none = tt
report_leaves old (Err OutOfMemory) none = tt
report_leaves old (Err NotFound) none = absurd (cc none)
report_leaves old (Err Exists) none = absurd (cc none)
report_leaves old (Err NotDir) none = absurd (cc none)
report_leaves old (Err WrongKind) none = absurd (cc none)
report_leaves old (Err NotEmpty) none = absurd (cc none)
report_leaves old (Err CrossDevice) none = absurd (cc none)
report_leaves old (Err CrossDir) none = absurd (cc none)

pub report_cause : (old : Path) (verdict : Result Found FsError) (firm : Bool) (before now : Counts) → HasCause firm before now (unless_lack (error_of verdict)) → ReportHasCause old (report_answer old verdict) before now
report_cause old (Ok found) firm before now cause = tt
report_cause old (Err Failed) firm before now cause = (refl, cause.rose)
report_cause old (Err OutOfMemory) firm before now cause = inr refl
report_cause old (Err NotFound) firm before now cause = (refl, ((λ e. cc e), (λ e. cc e), cause.rose))
report_cause old (Err Exists) firm before now cause = (refl, ((λ e. cc e), (λ e. cc e), cause.rose))
report_cause old (Err NotDir) firm before now cause = (refl, ((λ e. cc e), (λ e. cc e), cause.rose))
report_cause old (Err WrongKind) firm before now cause = (refl, ((λ e. cc e), (λ e. cc e), cause.rose))
report_cause old (Err NotEmpty) firm before now cause = (refl, ((λ e. cc e), (λ e. cc e), cause.rose))
report_cause old (Err CrossDevice) firm before now cause = (refl, ((λ e. cc e), (λ e. cc e), cause.rose))
report_cause old (Err CrossDir) firm before now cause = (refl, ((λ e. cc e), (λ e. cc e), cause.rose))

pub report_counts : (old : Path) (verdict : Result Found FsError) (firm : Bool) (before now : Counts) → HasCause firm before now (unless_lack (error_of verdict)) → HasCause firm before now (failure_in (report_answer old verdict))
report_counts old (Ok found) firm before now cause = cause
report_counts old (Err error) firm before now cause = files_counts firm before now Report old error cause

pub report_begun : (old : Path) (verdict : Result Found FsError) → HasBegun (report_answer old verdict)
report_begun old (Ok found) = tt
report_begun old (Err error) = files_begun Report old error tt
