-- The answer that a function hands on from one that it called.
use Rattle.std.proofs.Common.{◌≡◌, Bool, Option, Some, None, Result, Ok, Err, sym, ◌∙◌, ap, subst}
use Rattle.std.specs.Prelude.{IsErrAnd, IfErr}
use Rattle.std.proofs.lemmas.Result.{err_from_is_err_and}
use Rattle.fs_model.specs.declared.error.FsError.{FsError}
use Rattle.fs_model.specs.declared.error.FsError.TheVariants.{NotFound, Exists, NotDir, WrongKind, NotEmpty, CrossDevice, CrossDir, Failed, OutOfMemory}
use Rattle.fs_model.specs.Calls.{Call, refusal, or_else}
use Rattle.fs_model.specs.Trail.{Trail, Steps, Counts, HasCause, DecidedBy, error_of, unless_lack}
use Rattle.fs_model.specs.Observed.{Observed, OnlyReads}

pub handed_on : {T : Type 0} (result : Result T FsError) (error : FsError) → IsErrAnd result (λ e. e ≡ error) → error_of result ≡ Some error
handed_on result error is =
    let p = err_from_is_err_and result is in
    ap error_of p.1 ∙ ap (λ e. Some e) p.2

pub reads_on : {T : Type 0} (before after : Observed) (result : Result T FsError) (error : FsError) → IsErrAnd result (λ e. e ≡ error) → OnlyReads before after (Some error) → OnlyReads before after (error_of result)
reads_on before after result error is reads = subst (OnlyReads before after) (sym (handed_on result error is)) reads

-- want of memory of the function's own
pub lacked : {T : Type 0} (before after : Observed) (result : Result T FsError) → IsErrAnd result (λ e. e ≡ OutOfMemory) → OnlyReads before after None → OnlyReads before after (unless_lack (error_of result))
lacked before after result is reads = subst (λ answer. OnlyReads before after (unless_lack answer)) (sym (handed_on result OutOfMemory is)) reads

pub reads_on_lack : {T : Type 0} (before after : Observed) (result : Result T FsError) (error : FsError) → IsErrAnd result (λ e. e ≡ error) → OnlyReads before after (unless_lack (Some error)) → OnlyReads before after (unless_lack (error_of result))
reads_on_lack before after result error is reads = subst (λ answer. OnlyReads before after (unless_lack answer)) (sym (handed_on result error is)) reads

pub cause_on_lack : {T : Type 0} (firm : Bool) (a b : Counts) (result : Result T FsError) (error : FsError) → IsErrAnd result (λ e. e ≡ error) → HasCause firm a b (unless_lack (Some error)) → HasCause firm a b (unless_lack (error_of result))
cause_on_lack firm a b result error is cause = subst (λ answer. HasCause firm a b (unless_lack answer)) (sym (handed_on result error is)) cause

pub lacked_if : {T : Type 0} (before after : Observed) (result : Result T FsError) → IfErr result (λ e. e ≡ OutOfMemory) → OnlyReads before after None → OnlyReads before after (unless_lack (error_of result))
lacked_if before after (Ok value) lack reads = reads
lacked_if before after (Err error) lack reads = subst (λ e. OnlyReads before after (unless_lack (Some e))) (sym lack) reads

-- what a refusal decides of an answer
abbrev pub Decides : Option FsError → Option FsError → Type 0
Decides refused None = refused ≡ None
Decides refused (Some Failed) = Unit {0}
Decides refused (Some OutOfMemory) = Unit {0}
Decides refused (Some error) = refused ≡ Some error

pub decided_by : {T : Type 0} (refused : Option FsError) (result : Result T FsError) → Decides refused (error_of result) → DecidedBy refused result
decided_by refused (Ok value) by = by
decided_by refused (Err Failed) by = tt
decided_by refused (Err OutOfMemory) by = tt
decided_by refused (Err NotFound) by = by
decided_by refused (Err Exists) by = by
decided_by refused (Err NotDir) by = by
decided_by refused (Err WrongKind) by = by
decided_by refused (Err NotEmpty) by = by
decided_by refused (Err CrossDevice) by = by
decided_by refused (Err CrossDir) by = by

pub decides : {T : Type 0} (refused : Option FsError) (result : Result T FsError) → DecidedBy refused result → Decides refused (error_of result)
decides refused (Ok value) by = by
decides refused (Err Failed) by = tt
decides refused (Err OutOfMemory) by = tt
decides refused (Err NotFound) by = by
decides refused (Err Exists) by = by
decides refused (Err NotDir) by = by
decides refused (Err WrongKind) by = by
decides refused (Err NotEmpty) by = by
decides refused (Err CrossDevice) by = by
decides refused (Err CrossDir) by = by

pub steps_decide : (call : Call) (answer : Option FsError) (old new : Trail) → Steps call answer old new → Decides (refusal old.present call) answer
steps_decide call None old new steps = steps.1.0
steps_decide call (Some Failed) old new steps = tt
steps_decide call (Some OutOfMemory) old new steps = tt
steps_decide call (Some NotFound) old new steps = steps.1.0
steps_decide call (Some Exists) old new steps = steps.1.0
steps_decide call (Some NotDir) old new steps = steps.1.0
steps_decide call (Some WrongKind) old new steps = steps.1.0
steps_decide call (Some NotEmpty) old new steps = steps.1.0
steps_decide call (Some CrossDevice) old new steps = steps.1.0
steps_decide call (Some CrossDir) old new steps = steps.1.0

-- where the call isn't refused, its error decides any refusal
pub decides_any : (refused other : Option FsError) (error : FsError) → refused ≡ None → Decides refused (Some error) → Decides other (Some error)
decides_any refused other Failed free by = tt
decides_any refused other OutOfMemory free by = tt
decides_any refused other NotFound free by = absurd (cc (free, by))
decides_any refused other Exists free by = absurd (cc (free, by))
decides_any refused other NotDir free by = absurd (cc (free, by))
decides_any refused other WrongKind free by = absurd (cc (free, by))
decides_any refused other NotEmpty free by = absurd (cc (free, by))
decides_any refused other CrossDevice free by = absurd (cc (free, by))
decides_any refused other CrossDir free by = absurd (cc (free, by))

-- of two refusals the first decides, where there is one
pub decides_first : (first later : Option FsError) (error : FsError) → Decides first (Some error) → Decides (or_else first later) (Some error)
decides_first first later Failed by = tt
decides_first first later OutOfMemory by = tt
decides_first first later NotFound by = ap (λ refused. or_else refused later) by
decides_first first later Exists by = ap (λ refused. or_else refused later) by
decides_first first later NotDir by = ap (λ refused. or_else refused later) by
decides_first first later WrongKind by = ap (λ refused. or_else refused later) by
decides_first first later NotEmpty by = ap (λ refused. or_else refused later) by
decides_first first later CrossDevice by = ap (λ refused. or_else refused later) by
decides_first first later CrossDir by = ap (λ refused. or_else refused later) by

pub decides_later : (first later answer : Option FsError) → first ≡ None → Decides later answer → Decides (or_else first later) answer
decides_later first later answer free by = subst (λ refused. Decides (or_else refused later) answer) (sym free) by

pub decided_on : {T : Type 0} (refused : Option FsError) (result : Result T FsError) (error : FsError) → IsErrAnd result (λ e. e ≡ error) → Decides refused (Some error) → DecidedBy refused result
decided_on refused result error is by = decided_by refused result (subst (Decides refused) (sym (handed_on result error is)) by)
