-- The first refusal that the tests find is the first that holds.
use Rattle.std.proofs.Common.{◌≡◌, ◌<◌, ◌∙◌, ℕ, zero, suc, List, [], ◌∷◌, Option, Some, None, refl, sym, ap, subst, arith}
use Rattle.std.specs.Prelude.{slice_get}
use Rattle.compat_checks.specs.declared.refusal.Refusal.{Refusal}
use Rattle.compat_checks.specs.Order.{Condition, condition_of, order, place_of, rank}
use Rattle.compat_checks.specs.First.{Findings, AreOwn, Holds, IsFirst, Passes, or_first, first_of}
use Rattle.compat_checks.proofs.Places.{at_place, place_at, one_at_place}

front : (a b : Option Refusal) → or_first a b ≡ None → a ≡ None
front None b e = refl
front (Some r) b e = absurd (cc e)

back : (a b : Option Refusal) → or_first a b ≡ None → b ≡ None
back None b e = e
back (Some r) b e = absurd (cc e)

module _ (found : Findings) where
  -- nothing is found, so no test finds anything
  none_found : (conditions : List Condition) (n : ℕ) (condition : Condition) → first_of found conditions ≡ None → slice_get conditions n ≡ Some condition → found condition ≡ None
  none_found [] n condition none at = absurd (cc at)
  none_found (c ∷ conditions) zero condition none at = (let same : c ≡ condition = cc at in ap found (sym same)) ∙ front (found c) (first_of found conditions) none
  none_found (c ∷ conditions) (suc n) condition none at = none_found conditions n condition (back (found c) (first_of found conditions) none) at

  -- what is found stands at some place, and nothing is found before it
  record FoundAt (conditions : List Condition) (refusal : Refusal) : Type 0 where
    place : ℕ
    condition : Condition
    at : slice_get conditions place ≡ Some condition
    finds : found condition ≡ Some refusal
    before : (n : ℕ) (earlier : Condition) → n < place → slice_get conditions n ≡ Some earlier → found earlier ≡ None

  found_behind : (c : Condition) (conditions : List Condition) (refusal : Refusal) → found c ≡ None → FoundAt conditions refusal → FoundAt (c ∷ conditions) refusal
  found_behind c conditions refusal is later = record {
    place = suc later.place;
    condition = later.condition;
    at = later.at;
    finds = later.finds;
    before = before;
  }
    where
      before : (n : ℕ) (earlier : Condition) → n < suc later.place → slice_get (c ∷ conditions) n ≡ Some earlier → found earlier ≡ None
      before zero earlier below at = (let same : c ≡ earlier = cc at in ap found (sym same)) ∙ is
      before (suc n) earlier below at = later.before n earlier (omega arith) at

  found_at : (conditions : List Condition) (refusal : Refusal) → first_of found conditions ≡ Some refusal → FoundAt conditions refusal
  found_at [] refusal e = absurd (cc e)
  found_at (c ∷ conditions) refusal e =
      elim (found c) as (λ f. found c ≡ f → or_first f (first_of found conditions) ≡ Some refusal → FoundAt (c ∷ conditions) refusal) [
        | Some r ↦ λ is same. record { place = 0; condition = c; at = refl; finds = is ∙ same; before = λ n earlier below _. absurd (omega arith) }
        | None ↦ λ is same. found_behind c conditions refusal is (found_at conditions refusal same)
      ] refl e

  -- ---- the laws

  pub none_passes : first_of found order ≡ None → Passes found
  none_passes none refusal holds =
      let nothing = none_found order (rank refusal) (condition_of refusal) none (at_place (condition_of refusal)) in
      cc (nothing, holds)

  pub found_first : AreOwn found → (refusal : Refusal) → first_of found order ≡ Some refusal → IsFirst found refusal
  found_first own refusal e =
      let at = found_at order refusal e in
      let same : condition_of refusal ≡ at.condition = own at.condition refusal at.finds in
      let place : at.place ≡ rank refusal = sym (place_at at.place at.condition at.at) ∙ ap place_of (sym same) in
      record {
        holds = ap found same ∙ at.finds;
        earlier = λ other below holds.
            let nothing = at.before (rank other) (condition_of other) (subst (λ n. rank other < n) (sym place) below) (at_place (condition_of other)) in
            cc (nothing, holds);
      }

  pub passes_none : AreOwn found → Passes found → first_of found order ≡ None
  passes_none own passes =
      elim (first_of found order) as (λ f. first_of found order ≡ f → f ≡ None) [ None ↦ λ _. refl | Some refusal ↦ λ e. absurd (passes refusal (found_first own refusal e).holds) ] refl

  -- two refusals that both come first are one
  pub one_first : (a b : Refusal) → IsFirst found a → IsFirst found b → a ≡ b
  one_first a b first other =
      let ranks : rank a ≡ rank b = equal (rank a) (rank b) (λ below. other.earlier a below first.holds) (λ below. first.earlier b below other.holds) in
      let conditions : condition_of a ≡ condition_of b = one_at_place (condition_of a) (condition_of b) ranks in
      let same : Some a ≡ Some b = sym first.holds ∙ ap found conditions ∙ other.holds in
      cc same
    where
      equal : (x y : ℕ) → (x < y → ⊥) → (y < x → ⊥) → x ≡ y
      equal x y not_below not_above = omega arith

  pub first_found : AreOwn found → (refusal : Refusal) → IsFirst found refusal → first_of found order ≡ Some refusal
  first_found own refusal first =
      elim (first_of found order) as (λ f. first_of found order ≡ f → f ≡ Some refusal) [
        | None ↦ λ e. absurd (none_passes e refusal first.holds)
        | Some other ↦ λ e. ap (λ r. Some r) (one_first other refusal (found_first own other e) first)
      ] refl
