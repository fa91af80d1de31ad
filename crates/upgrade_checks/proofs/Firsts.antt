-- The first refusal that the tests find is the first that holds.
use Rattle.std.proofs.Common.{◌≡◌, ◌<◌, ◌∙◌, inl, inr, ℕ, zero, suc, List, [], ◌∷◌, Some, None, refl, sym, ap, subst, arith}
use Rattle.std.specs.Prelude.{slice_get}
use Rattle.fs_model.specs.State.{FsState}
use Rattle.control_file.specs.declared.job.Job.{Job}
use Rattle.compat_checks.specs.declared.refusal.Refusal.{Refusal}
use Rattle.compat_checks.specs.Order.{Condition, condition_of, order, place_of, rank}
use Rattle.compat_checks.proofs.Places.{at_place, place_at}
use Rattle.upgrade_checks.specs.Findings.{Readings, Finds}
use Rattle.upgrade_checks.specs.Passing.{IsFirst, Passes, FindsNothing, FindsFirst}
use Rattle.upgrade_checks.proofs.Excluding.{excludes}
use Rattle.upgrade_checks.proofs.Owning.{own}

module _ (s : FsState) (job : Job) (readings : Readings) where
  none_found : (conditions : List Condition) (n : ℕ) (condition : Condition) → FindsFirst s job readings conditions None → slice_get conditions n ≡ Some condition → Finds s job readings condition None
  none_found [] n condition none at = absurd (cc at)
  none_found (c ∷ conditions) zero condition none at = (let same : c ≡ condition = cc at in subst (λ d. Finds s job readings d None) same none.0)
  none_found (c ∷ conditions) (suc n) condition none at = none_found conditions n condition none.1 at

  -- what is found stands at some place, and nothing is found before it
  record FoundAt (conditions : List Condition) (refusal : Refusal) : Type 0 where
    place : ℕ
    condition : Condition
    at : slice_get conditions place ≡ Some condition
    finds : Finds s job readings condition (Some refusal)
    before : (n : ℕ) (earlier : Condition) → n < place → slice_get conditions n ≡ Some earlier → Finds s job readings earlier None

  found_behind : (c : Condition) (conditions : List Condition) (refusal : Refusal) → Finds s job readings c None → FoundAt conditions refusal → FoundAt (c ∷ conditions) refusal
  found_behind c conditions refusal none later = record {
    place = suc later.place;
    condition = later.condition;
    at = later.at;
    finds = later.finds;
    before = before;
  }
    where
      before : (n : ℕ) (earlier : Condition) → n < suc later.place → slice_get (c ∷ conditions) n ≡ Some earlier → Finds s job readings earlier None
      before zero earlier below at = (let same : c ≡ earlier = cc at in subst (λ d. Finds s job readings d None) same none)
      before (suc n) earlier below at = later.before n earlier (omega arith) at

  found_at : (conditions : List Condition) (refusal : Refusal) → FindsFirst s job readings conditions (Some refusal) → FoundAt conditions refusal
  found_at [] refusal e = absurd (cc e)
  found_at (c ∷ conditions) refusal (inl here) = record { place = 0; condition = c; at = refl; finds = here; before = λ n earlier below _. absurd (omega arith) }
  found_at (c ∷ conditions) refusal (inr later) = found_behind c conditions refusal later.0 (found_at conditions refusal later.1)

  -- ---- the laws

  pub first_found : (refusal : Refusal) → FindsFirst s job readings order (Some refusal) → IsFirst s job readings refusal
  first_found refusal found =
      let at = found_at order refusal found in
      let same : condition_of refusal ≡ at.condition = own s job readings at.condition refusal at.finds in
      let place : at.place ≡ rank refusal = sym (place_at at.place at.condition at.at) ∙ ap place_of (sym same) in
      record {
        holds = subst (λ c. Finds s job readings c (Some refusal)) (sym same) at.finds;
        earlier = λ other below holds.
            let nothing = at.before (rank other) (condition_of other) (subst (λ n. rank other < n) (sym place) below) (at_place (condition_of other)) in
            excludes s job readings (condition_of other) other nothing holds;
      }

  pub nothing_found : FindsFirst s job readings order None → FindsNothing s job readings
  nothing_found none condition = none_found order (place_of condition) condition none (at_place condition)

  pub nothing_passes : FindsNothing s job readings → Passes s job readings
  nothing_passes nothing refusal holds = excludes s job readings (condition_of refusal) refusal (nothing (condition_of refusal)) holds
