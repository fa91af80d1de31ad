-- Lists that are gone through place by place.
use Rattle.std.proofs.Common.{◌≡◌, ◌∙◌, ℕ, ◌+◌, ◌<◌, Bool, true, false, cond, ◌||◌, List, [], ◌∷◌, ◌++◌, map, drop, take, length, Option, Some, None, refl, sym, ap, append_assoc, nat_eq}
use Rattle.std.specs.Prelude.{slice_get}
use Rattle.std.specs.List.{find, flat_map, list_any}
use Rattle.std.proofs.lemmas.List.{drop_more, take-append-drop}
use Rattle.std.proofs.lemmas.Option.{slice_get_within, get_or_from_slice_get}
use Rattle.std.proofs.lemmas.Bool.{eqb-true, eq-eqb, false≢true}

-- the item at a place, and those behind it
pub split_at : {A : Type 0} (xs : List A) (i : ℕ) (x : A) → slice_get xs i ≡ Some x → drop i xs ≡ x ∷ drop (i + 1) xs
split_at xs i x h = drop_more xs i x (slice_get_within xs i x h) ∙ ap (λ y. y ∷ drop (i + 1) xs) (get_or_from_slice_get xs i x x h)

-- the whole list by a place
pub whole_at : {A : Type 0} (xs : List A) (i : ℕ) (x : A) → slice_get xs i ≡ Some x → xs ≡ take i xs ++ x ∷ drop (i + 1) xs
whole_at xs i x h = sym (take-append-drop i xs) ∙ ap (λ l. take i xs ++ l) (split_at xs i x h)

module _ {A B : Type 0} (f : A → List B) where
  -- one more object
  pub adding : (xs : List A) (i : ℕ) (x : A) (out next total : List B) → slice_get xs i ≡ Some x → next ≡ out ++ f x → out ++ flat_map f (drop i xs) ≡ total → next ++ flat_map f (drop (i + 1) xs) ≡ total
  adding xs i x out next total h e so_far =
      ap (λ (l : List B). l ++ flat_map f (drop (i + 1) xs)) e ∙ append_assoc out (f x) (flat_map f (drop (i + 1) xs)) ∙ ap (λ l. out ++ flat_map f l) (sym (split_at xs i x h)) ∙ so_far

-- one more object, of which one thing is added
pub adding_one : {A B : Type 0} (f : A → B) (xs : List A) (i : ℕ) (x : A) (out next total : List B) → slice_get xs i ≡ Some x → next ≡ out ++ f x ∷ [] → out ++ map f (drop i xs) ≡ total → next ++ map f (drop (i + 1) xs) ≡ total
adding_one f xs i x out next total h e so_far =
    ap (λ l. l ++ map f (drop (i + 1) xs)) e ∙ append_assoc out (f x ∷ []) (map f (drop (i + 1) xs)) ∙ ap (λ l. out ++ map f l) (sym (split_at xs i x h)) ∙ so_far

-- what is found is there, and passes
module _ {A : Type 0} (p : A → Bool) where
  pub found_any : (xs : List A) (x : A) → find p xs ≡ Some x → list_any p xs ≡ true
  found_any [] x e = absurd (cc e)
  found_any (y ∷ ys) x e = by (p y) (found_any ys x) e
    where
      by : (b : Bool) → (find p ys ≡ Some x → list_any p ys ≡ true) → cond b (Some y) (find p ys) ≡ Some x → (b || list_any p ys) ≡ true
      by true later e = refl
      by false later e = later e

  pub found_passes : (xs : List A) (x : A) → find p xs ≡ Some x → p x ≡ true
  found_passes [] x e = absurd (cc e)
  found_passes (y ∷ ys) x e = by (p y) refl (found_passes ys x) e
    where
      by : (b : Bool) → p y ≡ b → (find p ys ≡ Some x → p x ≡ true) → cond b (Some y) (find p ys) ≡ Some x → p x ≡ true
      by true is later e = let same : y ≡ x = cc e in ap p (sym same) ∙ is
      by false is later e = later e

-- the same numbers
pub number_same : (k : ℕ) → nat_eq k k ≡ true
number_same k = eq-eqb k k refl
