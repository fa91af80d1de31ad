-- The first refusal of two lists of conditions, one after the other.
use Rattle.std.proofs.Common.{◌≡◌, ◌∙◌, List, [], ◌∷◌, ◌++◌, Option, Some, None, Result, Ok, Err, refl, ap, sym, subst}
use Rattle.fs_model.specs.State.{FsState}
use Rattle.control_file.specs.declared.job.Job.{Job}
use Rattle.control_checks.specs.declared.refusal.ControlRefusal.{ControlRefusal}
use Rattle.control_checks.specs.declared.stop.CheckStop.{CheckStop}
use Rattle.control_checks.specs.declared.stop.CheckStop.TheVariants.{Refused, Failed, OutOfMemory}
use Rattle.control_checks.specs.Answers.{Stops, Tells, refused}
use Rattle.control_checks.specs.Findings.{ControlCondition, finding, first_of, or_first}

pub or_first_assoc : (a b c : Option ControlRefusal) → or_first (or_first a b) c ≡ or_first a (or_first b c)
or_first_assoc None b c = refl
or_first_assoc (Some refusal) b c = refl

pub or_first_none : (a : Option ControlRefusal) → or_first a None ≡ a
or_first_none None = refl
or_first_none (Some refusal) = refl

pub first_of-append : (s : FsState) (job : Job) (xs ys : List ControlCondition) → first_of s job (xs ++ ys) ≡ or_first (first_of s job xs) (first_of s job ys)
first_of-append s job [] ys = refl
first_of-append s job (condition ∷ xs) ys = ap (or_first (finding s job condition)) (first_of-append s job xs ys) ∙ sym (or_first_assoc (finding s job condition) (first_of s job xs) (first_of s job ys))

-- ---- a test, and then another

-- the first one stops
pub stops_first : (first later : Option ControlRefusal) (stop : CheckStop) → Stops first stop → Stops (or_first first later) stop
stops_first first later (Refused refusal) stops = ap (λ f. or_first f later) stops
stops_first first later (Failed side) stops = tt
stops_first first later OutOfMemory stops = tt

-- the first one finds nothing
pub stops_later : (first later : Option ControlRefusal) (stop : CheckStop) → first ≡ None → Stops later stop → Stops (or_first first later) stop
stops_later first later (Refused refusal) none stops = ap (λ f. or_first f later) none ∙ stops
stops_later first later (Failed side) none stops = tt
stops_later first later OutOfMemory none stops = tt

pub tells_later : {T : Type 0} (first later : Option ControlRefusal) (result : Result T CheckStop) → first ≡ None → Tells later result → Tells (or_first first later) result
tells_later first later (Ok value) none tells = ap (λ f. or_first f later) none ∙ tells
tells_later first later (Err stop) none tells = stops_later first later stop none tells

-- ---- lists of conditions

pub tells_last : {T : Type 0} (found : Option ControlRefusal) (result : Result T CheckStop) → Tells found result → Tells (or_first found None) result
tells_last found result tells = subst (λ f. Tells f result) (sym (or_first_none found)) tells

pub stops_last : (found : Option ControlRefusal) (stop : CheckStop) → Stops found stop → Stops (or_first found None) stop
stops_last found stop stops = subst (λ f. Stops f stop) (sym (or_first_none found)) stops

module _ (s : FsState) (job : Job) (xs ys : List ControlCondition) where
  -- a test of the first ones stops
  pub joined_stops : (stop : CheckStop) → Stops (first_of s job xs) stop → Stops (first_of s job (xs ++ ys)) stop
  joined_stops stop stops = subst (λ f. Stops f stop) (sym (first_of-append s job xs ys)) (stops_first (first_of s job xs) (first_of s job ys) stop stops)

  -- they find nothing, and the others stop in the same state
  pub later_stops : (t : FsState) (stop : CheckStop) → t ≡ s → first_of s job xs ≡ None → Stops (first_of t job ys) stop → Stops (first_of s job (xs ++ ys)) stop
  later_stops t stop same none stops =
      subst (λ f. Stops f stop) (sym (first_of-append s job xs ys))
      (stops_later (first_of s job xs) (first_of s job ys) stop none (subst (λ u. Stops (first_of u job ys) stop) same stops))

  pub joined_tells : {T : Type 0} (t : FsState) (result : Result T CheckStop) → t ≡ s → first_of s job xs ≡ None → Tells (first_of t job ys) result → Tells (first_of s job (xs ++ ys)) result
  joined_tells t result same none tells =
      subst (λ f. Tells f result) (sym (first_of-append s job xs ys))
      (tells_later (first_of s job xs) (first_of s job ys) result none (subst (λ u. Tells (first_of u job ys) result) same tells))
