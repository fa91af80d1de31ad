-- A search through a list, place by place.
use Rattle.std.proofs.Common.{◌≡◌, ◌∙◌, ℕ, zero, suc, ◌+◌, ◌≤◌, Bool, true, false, ◌&&◌, ◌||◌, List, [], ◌∷◌, length, drop, Option, Some, None, cond, refl, sym, ap, arith}
use Rattle.std.specs.Prelude.{slice_get}
use Rattle.std.specs.Option.{option_map}
use Rattle.std.specs.List.{list_any, list_all, find}
use Rattle.std.proofs.lemmas.List.{drop_more}
use Rattle.std.proofs.lemmas.Option.{slice_get_within, get_or_from_slice_get, slice_get_past}

module _ {A : Type 0} where
  -- what is at a place, and what stands behind it
  pub at_place : (xs : List A) (i : ℕ) (x : A) → slice_get xs i ≡ Some x → drop i xs ≡ x ∷ drop (i + 1) xs
  at_place xs i x h = drop_more xs i x (slice_get_within xs i x h) ∙ ap (λ y. y ∷ drop (i + 1) xs) (get_or_from_slice_get xs i x x h)

  -- nothing stands behind the end
  pub past : (xs : List A) (i : ℕ) → slice_get xs i ≡ None → drop i xs ≡ []
  past [] zero none = refl
  past [] (suc i) none = refl
  past (x ∷ xs) zero none = absurd (cc none)
  past (x ∷ xs) (suc i) none = past xs i none

  pub at_end : (xs : List A) (i : ℕ) → length xs ≤ i → drop i xs ≡ []
  at_end xs i le = past xs i (slice_get_past xs i le)

  pub all_at : (p : A → Bool) (xs : List A) (i : ℕ) (x : A) → list_all p xs ≡ true → slice_get xs i ≡ Some x → p x ≡ true
  all_at p [] zero x all at = absurd (cc at)
  all_at p [] (suc i) x all at = absurd (cc at)
  all_at p (y ∷ ys) zero x all at = (let same : y ≡ x = cc at in ap p (sym same)) ∙ front (p y) (list_all p ys) all
    where
      front : (a b : Bool) → (a && b) ≡ true → a ≡ true
      front true b e = refl
      front false b e = e
  all_at p (y ∷ ys) (suc i) x all at = all_at p ys i x (back (p y) (list_all p ys) all) at
    where
      back : (a b : Bool) → (a && b) ≡ true → b ≡ true
      back true b e = e
      back false b e = absurd (cc e)

  -- ---- whether one passes
  pub any_more : (p : A → Bool) (xs : List A) (i : ℕ) (x : A) (total : Bool) → slice_get xs i ≡ Some x → p x ≡ false → list_any p (drop i xs) ≡ total → list_any p (drop (i + 1) xs) ≡ total
  any_more p xs i x total at fails so_far = sym (ap (λ b. b || list_any p (drop (i + 1) xs)) fails) ∙ ap (list_any p) (sym (at_place xs i x at)) ∙ so_far

  pub any_here : (p : A → Bool) (xs : List A) (i : ℕ) (x : A) (total : Bool) → slice_get xs i ≡ Some x → p x ≡ true → list_any p (drop i xs) ≡ total → true ≡ total
  any_here p xs i x total at here so_far = sym (ap (λ b. b || list_any p (drop (i + 1) xs)) here) ∙ ap (list_any p) (sym (at_place xs i x at)) ∙ so_far

  -- ---- the first that passes
  module _ {B : Type 0} (f : A → B) (p : A → Bool) where
    pub first_more : (xs : List A) (i : ℕ) (x : A) (total : Option B) → slice_get xs i ≡ Some x → p x ≡ false → option_map f (find p (drop i xs)) ≡ total → option_map f (find p (drop (i + 1) xs)) ≡ total
    first_more xs i x total at fails so_far = sym (ap (λ b. option_map f (cond b (Some x) (find p (drop (i + 1) xs)))) fails) ∙ ap (λ l. option_map f (find p l)) (sym (at_place xs i x at)) ∙ so_far

    pub first_here : (xs : List A) (i : ℕ) (x : A) (total : Option B) → slice_get xs i ≡ Some x → p x ≡ true → option_map f (find p (drop i xs)) ≡ total → Some (f x) ≡ total
    first_here xs i x total at here so_far = sym (ap (λ b. option_map f (cond b (Some x) (find p (drop (i + 1) xs)))) here) ∙ ap (λ l. option_map f (find p l)) (sym (at_place xs i x at)) ∙ so_far
