-- What functions that test conditions tell, after each other.
use Rattle.std.proofs.Common.{◌≡◌, ◌∙◌, Bool, true, Option, Some, None, Result, Ok, Err, refl, sym, ap, subst}
use Rattle.std.specs.Prelude.{IsErrAnd, IfErr}
use Rattle.std.proofs.lemmas.Result.{err_from_is_err_and}
use Rattle.fs_model.specs.declared.error.FsError.{FsError}
use Rattle.fs_model.specs.declared.error.FsError.TheVariants.{NotFound, Exists, NotDir, WrongKind, NotEmpty, CrossDevice, CrossDir, Failed as FsFailed, OutOfMemory as FsOutOfMemory}
use Rattle.fs_model.specs.Trail.{Counts, HasCause, error_of, unless_lack}
use Rattle.fs_model.specs.Observed.{Observed, OnlyReads}
use Rattle.fs_model.proofs.Causes.{cause_so_far}
use Rattle.control_file.specs.declared.modes.Side.{Side}
use Rattle.control_checks.specs.declared.refusal.ControlRefusal.{ControlRefusal}
use Rattle.control_checks.specs.declared.stop.CheckStop.{CheckStop}
use Rattle.control_checks.specs.declared.stop.CheckStop.TheVariants.{Refused, Failed, OutOfMemory}
use Rattle.control_checks.specs.Answers.{seen_as, stop_error, stop_of, Stops, Tells, refused}

-- ---- an answer that is handed on

pub handed_on : {T : Type 0} (result : Result T CheckStop) (stop : CheckStop) → IsErrAnd result (λ e. e ≡ stop) → result ≡ Err stop
handed_on result stop is =
    let p = err_from_is_err_and result is in
    p.1 ∙ ap (λ e. Err e) p.2

-- a stop of a call before which only was read
pub reads_on : {T : Type 0} (before after : Observed) (result : Result T CheckStop) (stop : CheckStop) → IsErrAnd result (λ e. e ≡ stop) → OnlyReads before after (stop_error stop) → OnlyReads before after (stop_of result)
reads_on before after result stop is reads = subst (λ r. OnlyReads before after (stop_of r)) (sym (handed_on result stop is)) reads

pub tells_on : {T : Type 0} (found : Option ControlRefusal) (result : Result T CheckStop) (stop : CheckStop) → IsErrAnd result (λ e. e ≡ stop) → Stops found stop → Tells found result
tells_on found result stop is stops = subst (Tells found) (sym (handed_on result stop is)) stops

-- ---- one call that reads

seen_cause : {T : Type 0} (firm : Bool) (a b : Counts) (side : Side) (answer : Result T FsError) → HasCause firm a b (unless_lack (error_of answer)) → HasCause firm a b (stop_of (seen_as side answer))
seen_cause firm a b side (Ok value) cause = cause
seen_cause firm a b side (Err FsFailed) cause = cause
seen_cause firm a b side (Err FsOutOfMemory) cause = cause
seen_cause firm a b side (Err NotFound) cause = cause_so_far firm a b (Some NotFound) tt cause
seen_cause firm a b side (Err Exists) cause = cause_so_far firm a b (Some Exists) tt cause
seen_cause firm a b side (Err NotDir) cause = cause_so_far firm a b (Some NotDir) tt cause
seen_cause firm a b side (Err WrongKind) cause = cause_so_far firm a b (Some WrongKind) tt cause
seen_cause firm a b side (Err NotEmpty) cause = cause_so_far firm a b (Some NotEmpty) tt cause
seen_cause firm a b side (Err CrossDevice) cause = cause_so_far firm a b (Some CrossDevice) tt cause
seen_cause firm a b side (Err CrossDir) cause = cause_so_far firm a b (Some CrossDir) tt cause

pub seen_reads : {T : Type 0} (before after : Observed) (side : Side) (answer : Result T FsError) → OnlyReads before after (unless_lack (error_of answer)) → OnlyReads before after (stop_of (seen_as side answer))
seen_reads before after side answer reads = record {
  told = reads.told;
  firm = reads.firm;
  depth = reads.depth;
  unchanged = reads.unchanged;
  cause = seen_cause before.firm before.counts after.counts side answer reads.cause;
}

pub seen_at : {T : Type 0} (before after : Observed) (side : Side) (answer : Result T FsError) (seen : Result (Option T) CheckStop) → seen ≡ seen_as side answer → OnlyReads before after (unless_lack (error_of answer)) → OnlyReads before after (stop_of seen)
seen_at before after side answer seen is reads = subst (λ r. OnlyReads before after (stop_of r)) (sym is) (seen_reads before after side answer reads)

-- a look refuses no condition
abbrev err_stops : {T : Type 0} → Option ControlRefusal → Result T CheckStop → Type 0
err_stops found (Ok value) = Unit {0}
err_stops found (Err stop) = Stops found stop

seen_stops : {T : Type 0} (found : Option ControlRefusal) (side : Side) (answer : Result T FsError) → err_stops found (seen_as side answer)
seen_stops found side (Ok value) = tt
seen_stops found side (Err FsFailed) = tt
seen_stops found side (Err FsOutOfMemory) = tt
seen_stops found side (Err NotFound) = tt
seen_stops found side (Err Exists) = tt
seen_stops found side (Err NotDir) = tt
seen_stops found side (Err WrongKind) = tt
seen_stops found side (Err NotEmpty) = tt
seen_stops found side (Err CrossDevice) = tt
seen_stops found side (Err CrossDir) = tt

pub seen_plain : {T U : Type 0} (found : Option ControlRefusal) (side : Side) (answer : Result T FsError) (result : Result U CheckStop) (stop : CheckStop) → IsErrAnd result (λ e. e ≡ stop) → Err stop ≡ seen_as side answer → IfErr result (λ e. Stops found e)
seen_plain found side answer result stop on is =
    let stops : Stops found stop = subst (λ r. err_stops found r) (sym is) (seen_stops found side answer) in
    subst (λ r. IfErr r (λ e. Stops found e)) (sym (handed_on result stop on)) stops

-- a refusal that is handed on
pub refused_on : {T : Type 0} (result : Result T ControlRefusal) (refusal : ControlRefusal) → IsErrAnd result (λ e. e ≡ refusal) → refused result ≡ Some refusal
refused_on result refusal is =
    let p = err_from_is_err_and result is in
    ap refused p.1 ∙ ap (λ e. Some e) p.2
