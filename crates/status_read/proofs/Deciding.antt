-- Which name of a directory is refused first.
use Rattle.std.proofs.Common.{◌≡◌, ◌∙◌, ◌∷◌, [], ℕ, List, Option, Some, None, Result, Ok, Err, refl, ap, sym, subst}
use Rattle.std.specs.Prelude.{IsErrAnd}
use Rattle.std.proofs.lemmas.Result.{err_from_is_err_and}
use Rattle.fs_model.specs.declared.error.FsError.{FsError}
use Rattle.fs_model.specs.declared.error.FsError.TheVariants.{NotFound, Exists, NotDir, WrongKind, NotEmpty, CrossDevice, CrossDir, Failed, OutOfMemory}
use Rattle.fs_model.specs.Trail.{DecidedBy, error_of, unless_lack}
use Rattle.fs_model.specs.Calls.{or_else}
use Rattle.fs_model.specs.Observed.{Observed, OnlyReads}
use Rattle.fs_model.proofs.Observing.{reads_then}
use Rattle.fs_tools.proofs.Answering.{decided_by, decides}

-- an error that the first refusal decides is decided by the first of two
pub decided_first : (T U : Type 0) (first later : Option FsError) (error : FsError) → DecidedBy {T = T} first (Err error) → DecidedBy {T = U} (or_else first later) (Err error)
decided_first T U first later OutOfMemory decided = tt
decided_first T U first later Failed decided = tt
decided_first T U first later NotFound decided = ap (λ r. or_else r later) decided
decided_first T U first later Exists decided = ap (λ r. or_else r later) decided
decided_first T U first later NotDir decided = ap (λ r. or_else r later) decided
decided_first T U first later WrongKind decided = ap (λ r. or_else r later) decided
decided_first T U first later NotEmpty decided = ap (λ r. or_else r later) decided
decided_first T U first later CrossDevice decided = ap (λ r. or_else r later) decided
decided_first T U first later CrossDir decided = ap (λ r. or_else r later) decided

-- where the first of two refuses nothing, the second decides
pub decided_later : {T : Type 0} (first later : Option FsError) (result : Result T FsError) → first ≡ None → DecidedBy later result → DecidedBy (or_else first later) result
decided_later first later result none decided = subst (λ r. DecidedBy (or_else r later) result) (sym none) decided

-- what decides an error decides it in an answer of another type
pub decided_as : (T U : Type 0) (refused : Option FsError) (error : FsError) → DecidedBy {T = T} refused (Err error) → DecidedBy {T = U} refused (Err error)
decided_as T U refused error decided = decided_by {T = U} refused (Err error) (decides {T = T} refused (Err error) decided)

pub lack_free : {T : Type 0} (refused : Option FsError) (result : Result T FsError) → IsErrAnd result (λ e. e ≡ OutOfMemory) → DecidedBy refused result
lack_free refused result is =
    let p = err_from_is_err_and result is in
    subst (DecidedBy refused) (sym (p.1 ∙ ap (λ e. Err e) p.2)) tt

-- a call that answered well, behind a run
pub reads_more : {T : Type 0} (a b c : Observed) (value : T) (answer : Result T FsError) → answer ≡ Ok value → OnlyReads a b None → OnlyReads b c (unless_lack (error_of answer)) → OnlyReads a c None
reads_more a b c value answer is front back = reads_then a b c None None tt front (subst (λ r. OnlyReads b c (unless_lack (error_of r))) is back)

-- a call whose error is given on, behind a run
pub reads_on : {T : Type 0} (a b c : Observed) (error : FsError) (answer : Result T FsError) → answer ≡ Err error → OnlyReads a b None → OnlyReads b c (unless_lack (error_of answer)) → OnlyReads a c (unless_lack (Some error))
reads_on a b c error answer is front back = reads_then a b c None (unless_lack (Some error)) tt front (subst (λ r. OnlyReads b c (unless_lack (error_of r))) is back)
