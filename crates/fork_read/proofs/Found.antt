-- What was found has the causes of the call.
use Rattle.std.proofs.Common.{◌≡◌, true, Bool, Option, Some, None, Result, Ok, Err, refl, sym, subst}
use Rattle.fs_model.specs.declared.error.FsError.{FsError}
use Rattle.fs_model.specs.declared.error.FsError.TheVariants.{NotFound, Exists, NotDir, WrongKind, NotEmpty, CrossDevice, CrossDir, Failed, OutOfMemory}
use Rattle.fs_model.specs.declared.node.Stat.{Stat}
use Rattle.fs_model.specs.Calls.{Call}
use Rattle.fs_model.specs.Trail.{Counts, DecidedBy, HasCause, Steps, error_of}
use Rattle.fs_model.specs.Observed.{Observed, OnlyReads}
use Rattle.fs_model.proofs.Runs.{IsReading}
use Rattle.fs_model.proofs.Observing.{one_reads}
use Rattle.fs_model.proofs.Causes.{cause_so_far}
use Rattle.fork_read.specs.Extents.{found_as, sized}

found_cause : {T : Type 0} (firm : Bool) (a b : Counts) (answer : Result T FsError) → HasCause firm a b (error_of answer) → HasCause firm a b (error_of (found_as answer))
found_cause firm a b (Ok value) cause = cause
found_cause firm a b (Err OutOfMemory) cause = cause
found_cause firm a b (Err Failed) cause = cause
found_cause firm a b (Err NotFound) cause = cause_so_far firm a b (Some NotFound) tt cause
found_cause firm a b (Err Exists) cause = cause_so_far firm a b (Some Exists) tt cause
found_cause firm a b (Err NotDir) cause = cause_so_far firm a b (Some NotDir) tt cause
found_cause firm a b (Err WrongKind) cause = cause_so_far firm a b (Some WrongKind) tt cause
found_cause firm a b (Err NotEmpty) cause = cause_so_far firm a b (Some NotEmpty) tt cause
found_cause firm a b (Err CrossDevice) cause = cause_so_far firm a b (Some CrossDevice) tt cause
found_cause firm a b (Err CrossDir) cause = cause_so_far firm a b (Some CrossDir) tt cause

with_cause : (before after : Observed) (first answer : Option FsError) → HasCause before.firm before.counts after.counts answer → OnlyReads before after first → OnlyReads before after answer
with_cause before after first answer cause reads = record { told = reads.told; firm = reads.firm; depth = reads.depth; unchanged = reads.unchanged; cause = cause }

pub found_reads : {T : Type 0} (before after : Observed) (call : Call) (answer : Result T FsError) (result : Result (Option T) FsError) → IsReading call → result ≡ found_as answer
    → after.told ≡ before.told → after.firm ≡ before.firm → after.depth ≡ before.depth → (before.told ≡ true → Steps call (error_of answer) before.trail after.trail)
    → HasCause before.firm before.counts after.counts (error_of answer) → OnlyReads before after (error_of result)
found_reads before after call answer result reading is told firm depth steps cause =
    subst (λ r. OnlyReads before after (error_of r)) (sym is)
    (with_cause before after (error_of answer) (error_of (found_as answer)) (found_cause before.firm before.counts after.counts answer cause)
    (one_reads before after call (error_of answer) reading told firm depth steps cause))

-- what was found was refused by nothing
pub found_free : (answer : Result Stat FsError) → DecidedBy None (sized (found_as answer))
found_free (Ok value) = refl
found_free (Err OutOfMemory) = tt
found_free (Err Failed) = tt
found_free (Err NotFound) = refl
found_free (Err Exists) = refl
found_free (Err NotDir) = refl
found_free (Err WrongKind) = refl
found_free (Err NotEmpty) = refl
found_free (Err CrossDevice) = refl
found_free (Err CrossDir) = refl

-- what decides an error decides it in an answer of another type
pub decided_as : (T U : Type 0) (refused : Option FsError) (error : FsError) → DecidedBy {T = T} refused (Err error) → DecidedBy {T = U} refused (Err error)
decided_as T U refused OutOfMemory decided = tt
decided_as T U refused Failed decided = tt
decided_as T U refused NotFound decided = decided
decided_as T U refused Exists decided = decided
decided_as T U refused NotDir decided = decided
decided_as T U refused WrongKind decided = decided
decided_as T U refused NotEmpty decided = decided
decided_as T U refused CrossDevice decided = decided
decided_as T U refused CrossDir decided = decided
