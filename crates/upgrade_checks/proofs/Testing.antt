-- Tests after each other: what they find first is what all of their conditions find first.
use Rattle.std.proofs.Common.{◌≡◌, ◌∙◌, inl, inr, Bool, true, false, List, [], ◌∷◌, ◌++◌, Option, Some, None, Result, Ok, Err, refl, sym, ap, subst}
use Rattle.std.specs.Prelude.{IsErrAnd, IfOk}
use Rattle.std.proofs.lemmas.Result.{err_from_is_err_and}
use Rattle.fs_model.specs.declared.error.FsError.{FsError}
use Rattle.fs_model.specs.declared.error.FsError.TheVariants as error
use Rattle.fs_model.specs.Names.{Path}
use Rattle.fs_model.specs.State.{FsState}
use Rattle.fs_model.specs.Trail.{Counts, HasCause, error_of, unless_lack}
use Rattle.fs_model.specs.Observed.{Observed, OnlyReads}
use Rattle.fs_model.proofs.Runs.{unchanged_then, none_since}
use Rattle.fs_model.proofs.Causes.{no_cause, cause_then}
use Rattle.control_file.specs.declared.job.Job.{Job}
use Rattle.control_file.specs.declared.modes.Side.{Side}
use Rattle.tree_checks.specs.Findings.{IsFirstOf}
use Rattle.tree_checks.specs.Looks.{IsNoRefusal}
use Rattle.compat_checks.specs.declared.refusal.Refusal.{Refusal}
use Rattle.compat_checks.specs.Order.{Condition}
use Rattle.upgrade_checks.specs.declared.stop.Stop.{Stop}
use Rattle.upgrade_checks.specs.declared.stop.Stop.TheVariants.{Refused, Failed, ServerFailed, Changed, OutOfMemory}
use Rattle.upgrade_checks.specs.declared.stop.PathCondition.{PathCondition}
use Rattle.upgrade_checks.specs.Findings.{Readings, Finds, refused_if}
use Rattle.upgrade_checks.specs.Passing.{FindsFirst}
use Rattle.upgrade_checks.specs.Answers.{stop_for, stop_error, stop_of, tell_path, judged_path, judged, is_server_stop, refused, Stops, Tells, Tested}

pub handed_on : {T : Type 0} (result : Result T Stop) (stop : Stop) → IsErrAnd result (λ e. e ≡ stop) → result ≡ Err stop
handed_on result stop is =
    let p = err_from_is_err_and result is in
    p.1 ∙ ap (λ e. Err e) p.2

module _ (job : Job) (readings : Readings) where
  -- ---- lists of conditions

  pub first_some : (s : FsState) (xs ys : List Condition) (refusal : Refusal) → FindsFirst s job readings xs (Some refusal) → FindsFirst s job readings (xs ++ ys) (Some refusal)
  first_some s [] ys refusal e = absurd (cc e)
  first_some s (c ∷ xs) ys refusal (inl here) = inl here
  first_some s (c ∷ xs) ys refusal (inr later) = inr (later.0, first_some s xs ys refusal later.1)

  pub first_later : (s : FsState) (xs ys : List Condition) (found : Option Refusal) → FindsFirst s job readings xs None → FindsFirst s job readings ys found → FindsFirst s job readings (xs ++ ys) found
  first_later s [] ys found none later = later
  first_later s (c ∷ xs) ys None none later = (none.0, first_later s xs ys None none.1 later)
  first_later s (c ∷ xs) ys (Some refusal) none later = inr (none.0, first_later s xs ys (Some refusal) none.1 later)

  stops_first : (s : FsState) (xs ys : List Condition) (stop : Stop) → Stops (FindsFirst s job readings xs) stop → Stops (FindsFirst s job readings (xs ++ ys)) stop
  stops_first s xs ys (Refused refusal) stops = first_some s xs ys refusal stops
  stops_first s xs ys (Failed side) stops = tt
  stops_first s xs ys ServerFailed stops = tt
  stops_first s xs ys (Changed side e) stops = absurd stops
  stops_first s xs ys OutOfMemory stops = tt

  tells_later : {T : Type 0} (s : FsState) (xs ys : List Condition) (result : Result T Stop) → FindsFirst s job readings xs None → Tells (FindsFirst s job readings ys) result → Tells (FindsFirst s job readings (xs ++ ys)) result
  tells_later s xs ys (Ok value) none tells = first_later s xs ys None none tells
  tells_later s xs ys (Err (Refused refusal)) none tells = first_later s xs ys (Some refusal) none tells
  tells_later s xs ys (Err (Failed side)) none tells = tt
  tells_later s xs ys (Err ServerFailed) none tells = tt
  tells_later s xs ys (Err (Changed side e)) none tells = absurd tells
  tells_later s xs ys (Err OutOfMemory) none tells = tt

module _ (served : Bool) (job : Job) (readings : Readings) where
  -- ---- tests after each other

  -- a stop that is handed on
  pub tested_on : {T : Type 0} (xs : List Condition) (before after : Observed) (result : Result T Stop) (stop : Stop) → IsErrAnd result (λ e. e ≡ stop) → Tested {T = T} served job readings xs before after (Err stop) → Tested served job readings xs before after result
  tested_on xs before after result stop is tested = subst (λ r. Tested served job readings xs before after r) (sym (handed_on result stop is)) tested

  -- the first test stops
  pub tested_first : {T U : Type 0} (xs ys : List Condition) (before after : Observed) (stop : Stop) → Tested {T = T} served job readings xs before after (Err stop) → Tested {T = U} served job readings (xs ++ ys) before after (Err stop)
  tested_first xs ys before after stop tested = record {
    told = tested.told;
    firm = tested.firm;
    unchanged = tested.unchanged;
    cause = tested.cause;
    quiet = tested.quiet;
    tells = λ told. stops_first job readings before.trail.present xs ys stop (tested.tells told);
  }

  -- the first finds nothing, and the other goes on
  pub tested_then : {T U : Type 0} (xs ys : List Condition) (a b c : Observed) (value : T) (result : Result U Stop) → Tested {T = T} served job readings xs a b (Ok value) → Tested served job readings ys b c result → Tested served job readings (xs ++ ys) a c result
  tested_then xs ys a b c value result front back = record {
    told = back.told ∙ front.told;
    firm = back.firm ∙ front.firm;
    unchanged = λ is. unchanged_then a.trail b.trail c.trail (front.unchanged is) (back.unchanged (front.told ∙ is));
    cause = cause_then a.firm b.firm a.counts b.counts c.counts None (stop_of result) tt front.firm front.cause back.cause;
    quiet = back.quiet;
    tells = λ is.
        let same : b.trail.present ≡ a.trail.present = (front.unchanged is).present in
        tells_later job readings a.trail.present xs ys result (front.tells is) (subst (λ s. Tells (FindsFirst s job readings ys) result) same (back.tells (front.told ∙ is)));
  }

  -- a stop has no value
  pub tested_stop : {T U : Type 0} (xs : List Condition) (before after : Observed) (stop : Stop) → Tested {T = T} served job readings xs before after (Err stop) → Tested {T = U} served job readings xs before after (Err stop)
  tested_stop xs before after stop tested = record { told = tested.told; firm = tested.firm; unchanged = tested.unchanged; cause = tested.cause; quiet = tested.quiet; tells = tested.tells }

  -- an answer's value is of no matter
  pub tested_as : {T U : Type 0} (xs : List Condition) (before after : Observed) (value : T) (other : U) → Tested {T = T} served job readings xs before after (Ok value) → Tested {T = U} served job readings xs before after (Ok other)
  tested_as xs before after value other tested = record { told = tested.told; firm = tested.firm; unchanged = tested.unchanged; cause = tested.cause; quiet = tested.quiet; tells = tested.tells }

  -- conditions that need no file system
  pub tested_refused : {T : Type 0} (xs ys : List Condition) (a : Observed) (refusal : Refusal) → ((s : FsState) → FindsFirst s job readings xs (Some refusal)) → Tested {T = T} served job readings (xs ++ ys) a a (Err (Refused refusal))
  tested_refused xs ys a refusal found = record {
    told = refl;
    firm = refl;
    unchanged = λ is. none_since (λ s. s ≡ a.trail.present) a.trail refl;
    cause = no_cause a.firm a.counts;
    quiet = λ _. refl;
    tells = λ is. first_some job readings a.trail.present xs ys refusal (found a.trail.present);
  }

  pub tested_behind : {T : Type 0} (xs ys : List Condition) (a b : Observed) (result : Result T Stop) → ((s : FsState) → FindsFirst s job readings xs None) → Tested served job readings ys a b result → Tested served job readings (xs ++ ys) a b result
  tested_behind xs ys a b result none tested = record {
    told = tested.told;
    firm = tested.firm;
    unchanged = tested.unchanged;
    cause = tested.cause;
    quiet = tested.quiet;
    tells = λ is. tells_later job readings a.trail.present xs ys result (none a.trail.present) (tested.tells is);
  }

  -- no test at all
  pub tested_none : {T : Type 0} (xs : List Condition) (a : Observed) (value : T) → ((s : FsState) → FindsFirst s job readings xs None) → Tested {T = T} served job readings xs a a (Ok value)
  tested_none xs a value none = record {
    told = refl;
    firm = refl;
    unchanged = λ is. none_since (λ s. s ≡ a.trail.present) a.trail refl;
    cause = no_cause a.firm a.counts;
    quiet = λ _. refl;
    tells = λ is. none a.trail.present;
  }

-- what is tested without a server
pub tested_served : {T : Type 0} (job : Job) (readings : Readings) (xs : List Condition) (before after : Observed) (result : Result T Stop) → Tested false job readings xs before after result → Tested true job readings xs before after result
tested_served job readings xs before after result tested = record { told = tested.told; firm = tested.firm; unchanged = tested.unchanged; cause = tested.cause; quiet = λ e. absurd (cc e); tells = tested.tells }

-- the same with other readings, where they are known to be these
pub tested_with : {T : Type 0} (served : Bool) (job : Job) (readings others : Readings) (xs : List Condition) (before after : Observed) (result : Result T Stop) → (before.told ≡ true → readings ≡ others) → Tested served job readings xs before after result → Tested served job others xs before after result
tested_with served job readings others xs before after result same tested = record {
  told = tested.told;
  firm = tested.firm;
  unchanged = tested.unchanged;
  cause = tested.cause;
  quiet = tested.quiet;
  tells = λ is. subst (λ r. Tells (FindsFirst before.trail.present job r xs) result) (same is) (tested.tells is);
}

-- ---- one test

failed_cause : (firm : Bool) (a b : Counts) (side : Side) (e : FsError) → HasCause firm a b (unless_lack (Some e)) → HasCause firm a b (stop_error (stop_for side e))
failed_cause firm a b side error.Failed cause = cause
failed_cause firm a b side error.OutOfMemory cause = cause
failed_cause firm a b side error.NotFound cause = cause
failed_cause firm a b side error.Exists cause = cause
failed_cause firm a b side error.NotDir cause = cause
failed_cause firm a b side error.WrongKind cause = cause
failed_cause firm a b side error.NotEmpty cause = cause
failed_cause firm a b side error.CrossDevice cause = cause
failed_cause firm a b side error.CrossDir cause = cause

failed_quiet : (side : Side) (e : FsError) → is_server_stop (stop_for side e) ≡ false
failed_quiet side error.Failed = refl
failed_quiet side error.OutOfMemory = refl
failed_quiet side error.NotFound = refl
failed_quiet side error.Exists = refl
failed_quiet side error.NotDir = refl
failed_quiet side error.WrongKind = refl
failed_quiet side error.NotEmpty = refl
failed_quiet side error.CrossDevice = refl
failed_quiet side error.CrossDir = refl

failed_stops : (T : Type 0) (F : Option Refusal → Type 0) (side : Side) (e : FsError) → IsNoRefusal {T = T} (Err e) → Stops F (stop_for side e)
failed_stops T F side error.Failed never = tt
failed_stops T F side error.OutOfMemory never = tt
failed_stops T F side error.NotFound never = absurd (cc never)
failed_stops T F side error.Exists never = absurd (cc never)
failed_stops T F side error.NotDir never = absurd (cc never)
failed_stops T F side error.WrongKind never = absurd (cc never)
failed_stops T F side error.NotEmpty never = absurd (cc never)
failed_stops T F side error.CrossDevice never = absurd (cc never)
failed_stops T F side error.CrossDir never = absurd (cc never)

module _ (job : Job) (readings : Readings) (condition : Condition) (before after : Observed) (side : Side) where
  -- one that finds a path
  pub path_tested : (F : FsState → Option Path → Type 0) (told_by : PathCondition) (answer : Result (Option Path) FsError) (result : Result (Unit {0}) Stop)
      → ((s : FsState) → F s None → Finds s job readings condition None) → ((s : FsState) (path : Path) → F s (Some path) → Finds s job readings condition (Some (tell_path told_by path)))
      → OnlyReads before after (unless_lack (error_of answer)) → (before.told ≡ true → IsNoRefusal answer) → (before.told ≡ true → IfOk answer (F before.trail.present))
      → result ≡ judged_path side told_by answer → Tested false job readings (condition ∷ []) before after result
  path_tested F told_by answer result none some reads never finds is = subst (λ r. Tested false job readings (condition ∷ []) before after r) (sym is) (of answer reads never finds)
    where
      of : (answer : Result (Option Path) FsError) → OnlyReads before after (unless_lack (error_of answer)) → (before.told ≡ true → IsNoRefusal answer) → (before.told ≡ true → IfOk answer (F before.trail.present))
          → Tested false job readings (condition ∷ []) before after (judged_path side told_by answer)
      of (Ok None) reads never finds = record { told = reads.told; firm = reads.firm; unchanged = reads.unchanged; cause = reads.cause; quiet = λ _. refl; tells = λ is. (none before.trail.present (finds is), refl) }
      of (Ok (Some path)) reads never finds = record { told = reads.told; firm = reads.firm; unchanged = reads.unchanged; cause = reads.cause; quiet = λ _. refl; tells = λ is. inl (some before.trail.present path (finds is)) }
      of (Err e) reads never finds = record {
        told = reads.told;
        firm = reads.firm;
        unchanged = reads.unchanged;
        cause = failed_cause before.firm before.counts after.counts side e reads.cause;
        quiet = λ _. failed_quiet side e;
        tells = λ is. failed_stops (Option Path) (FindsFirst before.trail.present job readings (condition ∷ [])) side e (never is);
      }

  -- one that refuses where it passes
  pub flag_tested : (test : FsState → Bool) (refusal : Refusal) (answer : Result Bool FsError) (result : Result (Unit {0}) Stop)
      → ((s : FsState) (found : Option Refusal) → found ≡ refused_if (test s) refusal → Finds s job readings condition found)
      → OnlyReads before after (unless_lack (error_of answer)) → IsNoRefusal answer → (before.told ≡ true → IfOk answer (λ found. found ≡ test before.trail.present))
      → result ≡ judged side refusal answer → Tested false job readings (condition ∷ []) before after result
  flag_tested test refusal answer result means reads never finds is = subst (λ r. Tested false job readings (condition ∷ []) before after r) (sym is) (of answer reads never finds)
    where
      of : (answer : Result Bool FsError) → OnlyReads before after (unless_lack (error_of answer)) → IsNoRefusal answer → (before.told ≡ true → IfOk answer (λ found. found ≡ test before.trail.present))
          → Tested false job readings (condition ∷ []) before after (judged side refusal answer)
      of (Ok true) reads never finds = record {
        told = reads.told;
        firm = reads.firm;
        unchanged = reads.unchanged;
        cause = reads.cause;
        quiet = λ _. refl;
        tells = λ is. inl (means before.trail.present (Some refusal) (ap (λ b. refused_if b refusal) (finds is)));
      }
      of (Ok false) reads never finds = record {
        told = reads.told;
        firm = reads.firm;
        unchanged = reads.unchanged;
        cause = reads.cause;
        quiet = λ _. refl;
        tells = λ is. (means before.trail.present None (ap (λ b. refused_if b refusal) (finds is)), refl);
      }
      of (Err e) reads never finds = record {
        told = reads.told;
        firm = reads.firm;
        unchanged = reads.unchanged;
        cause = failed_cause before.firm before.counts after.counts side e reads.cause;
        quiet = λ _. failed_quiet side e;
        tells = λ is. failed_stops Bool (FindsFirst before.trail.present job readings (condition ∷ [])) side e never;
      }

-- ---- two searches

pub found_then : (F G : Option Path → Type 0) (answer : Result (Option Path) FsError) → F None → IfOk answer G → IfOk answer (IsFirstOf F G)
found_then F G (Ok None) none finds = (none, finds)
found_then F G (Ok (Some path)) none finds = inr (none, finds)
found_then F G (Err e) none finds = tt

-- ---- other answers

-- a refusal that is handed on
pub refused_on : {T : Type 0} (result : Result T Refusal) (refusal : Refusal) → IsErrAnd result (λ e. e ≡ refusal) → refused result ≡ Some refusal
refused_on result refusal is =
    let p = err_from_is_err_and result is in
    ap refused p.1 ∙ ap (λ e. Some e) p.2
