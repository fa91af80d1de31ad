-- Counts behind the answers.
use Rattle.std.proofs.Common.{◌≡◌, Bool, true, Some, ◌⊎◌, inl, inr, refl, subst}
use Rattle.fs_model.specs.declared.error.FsError.{FsError}
use Rattle.fs_model.specs.declared.error.FsError.TheVariants.{NotFound, Exists, NotDir, WrongKind, NotEmpty, CrossDevice, CrossDir, Failed, OutOfMemory}
use Rattle.fs_model.specs.Names.{Path}
use Rattle.fs_model.specs.Trail.{Counts, HasCause, unless_lack}
use Rattle.fs_model.proofs.Causes.{cause_so_far}
use Rattle.phase_names.specs.declared.names.PhaseName.{PhaseName}
use Rattle.phase_names.specs.declared.names.PhaseName.TheVariants.{Words}
use Rattle.compat_checks.specs.declared.answer.Change.{Change}
use Rattle.compat_checks.specs.declared.answer.Change.TheVariants as change
use Rattle.upgrade_answers.specs.declared.answer.Answer.{Answer}
use Rattle.upgrade_answers.specs.declared.answer.Answer.TheVariants.{FsFault, NoMemory, Usage}
use Rattle.upgrade_run.specs.Answers.{files_answer, change_answer}
use Rattle.upgrade_run.specs.Causes.{failure_in}
use Rattle.upgrade_run.specs.Means.{IsFsFault, IsUsage, HasBegun}

-- the failure that an answer tells, by the error behind it
pub files_counts : (firm : Bool) (before now : Counts) (at : PhaseName) (root : Path) (error : FsError) → HasCause firm before now (unless_lack (Some error)) → HasCause firm before now (failure_in (files_answer at root error))
files_counts firm before now at root Failed cause = cause
files_counts firm before now at root OutOfMemory cause = cause
files_counts firm before now at root NotFound cause = cause_so_far firm before now (Some NotFound) tt cause
files_counts firm before now at root Exists cause = cause_so_far firm before now (Some Exists) tt cause
files_counts firm before now at root NotDir cause = cause_so_far firm before now (Some NotDir) tt cause
files_counts firm before now at root WrongKind cause = cause_so_far firm before now (Some WrongKind) tt cause
files_counts firm before now at root NotEmpty cause = cause_so_far firm before now (Some NotEmpty) tt cause
files_counts firm before now at root CrossDevice cause = cause_so_far firm before now (Some CrossDevice) tt cause
files_counts firm before now at root CrossDir cause = cause_so_far firm before now (Some CrossDir) tt cause

-- a firm file system doesn't fail
pub firm_answers : (firm : Bool) (before now : Counts) (answer : Answer) → HasCause firm before now (failure_in answer) → firm ≡ true → IsFsFault answer → ⊥
firm_answers firm before now (FsFault at) cause is fault = cause.firm_answer is refl
firm_answers firm before now answer cause is fault = absurd fault

-- an error behind the words isn't one of reading them
pub files_begun : (at : PhaseName) (root : Path) (error : FsError) → HasBegun (NoMemory at) → HasBegun (files_answer at root error)
files_begun at root Failed begun = tt
files_begun at root OutOfMemory begun = begun
files_begun at root NotFound begun = tt
files_begun at root Exists begun = tt
files_begun at root NotDir begun = tt
files_begun at root WrongKind begun = tt
files_begun at root NotEmpty begun = tt
files_begun at root CrossDevice begun = tt
files_begun at root CrossDir begun = tt

pub change_begun : (at : PhaseName) (root : Path) (found : Change) → HasBegun (NoMemory at) → HasBegun (change_answer at root found)
change_begun at root (change.Refused error) begun = files_begun at root error begun
change_begun at root (change.Text line) begun = tt
change_begun at root change.Differs begun = tt

pub not_begun : (answer : Answer) → HasBegun answer → IsUsage answer ⊎ (answer ≡ NoMemory Words) → ⊥
not_begun (Usage position) begun is = begun
not_begun answer begun (inl is) = absurd (other answer begun is)
  where
    other : (answer : Answer) → HasBegun answer → IsUsage answer → ⊥
    other (Usage position) begun is = begun
    other answer begun is = is
not_begun answer begun (inr is) = subst HasBegun is begun
