-- Lists that are gone through place by place.
use Rattle.std.proofs.Common.{◌≡◌, ◌∙◌, ℕ, ◌+◌, ◌<◌, Bool, true, false, cond, List, [], ◌∷◌, ◌++◌, map, drop, take, length, get_or, Some, None, refl, sym, ap, append_assoc, add-one}
use Rattle.std.specs.Prelude.{slice_get}
use Rattle.std.specs.List.{find, flat_map}
use Rattle.std.proofs.Math.Seq.{take-suc}
use Rattle.std.proofs.lemmas.List.{drop_more}
use Rattle.std.proofs.lemmas.Option.{slice_get_within, get_or_from_slice_get, slice_get-get_or}

-- the item at a place, and those behind it
pub split_at : {A : Type 0} (xs : List A) (i : ℕ) (x : A) → slice_get xs i ≡ Some x → drop i xs ≡ x ∷ drop (i + 1) xs
split_at xs i x h = drop_more xs i x (slice_get_within xs i x h) ∙ ap (λ y. y ∷ drop (i + 1) xs) (get_or_from_slice_get xs i x x h)

-- those up to a place, itself included
pub taken_at : {A : Type 0} (xs : List A) (i : ℕ) (x : A) → slice_get xs i ≡ Some x → take (i + 1) xs ≡ take i xs ++ x ∷ []
taken_at xs i x h =
    ap (λ n. take n xs) (add-one i) ∙ take-suc xs i x (slice_get_within xs i x h) ∙ ap (λ y. take i xs ++ y ∷ []) (get_or_from_slice_get xs i x x h)

pub taken_to : {A : Type 0} (xs : List A) (i : ℕ) (x : A) → i < length xs → x ≡ get_or xs i x → take (i + 1) xs ≡ take i xs ++ x ∷ []
taken_to xs i x below is = ap (λ n. take n xs) (add-one i) ∙ take-suc xs i x below ∙ ap (λ y. take i xs ++ y ∷ []) (sym is)

-- what a loop reads at a place
pub item_at : {A : Type 0} (xs : List A) (i : ℕ) (d : A) → i < length xs → get_or xs i d ≡ get_or xs i (get_or xs i d)
item_at xs i d below = sym (get_or_from_slice_get xs i (get_or xs i d) (get_or xs i d) (slice_get-get_or xs i d below))

module _ {A B : Type 0} (f : A → List B) where
  -- one more object
  pub adding : (xs : List A) (i : ℕ) (x : A) (out next total : List B) → slice_get xs i ≡ Some x → next ≡ out ++ f x → out ++ flat_map f (drop i xs) ≡ total → next ++ flat_map f (drop (i + 1) xs) ≡ total
  adding xs i x out next total h e so_far =
      ap (λ (l : List B). l ++ flat_map f (drop (i + 1) xs)) e ∙ append_assoc out (f x) (flat_map f (drop (i + 1) xs)) ∙ ap (λ l. out ++ flat_map f l) (sym (split_at xs i x h)) ∙ so_far

-- one more object, of which one thing is added
pub adding_one : {A B : Type 0} (f : A → B) (xs : List A) (i : ℕ) (x : A) (out next total : List B) → slice_get xs i ≡ Some x → next ≡ out ++ f x ∷ [] → out ++ map f (drop i xs) ≡ total → next ++ map f (drop (i + 1) xs) ≡ total
adding_one f xs i x out next total h e so_far =
    ap (λ l. l ++ map f (drop (i + 1) xs)) e ∙ append_assoc out (f x ∷ []) (map f (drop (i + 1) xs)) ∙ ap (λ l. out ++ map f l) (sym (split_at xs i x h)) ∙ so_far

pub map_append : {A B : Type 0} (f : A → B) (xs ys : List A) → map f (xs ++ ys) ≡ map f xs ++ map f ys
map_append f [] ys = refl
map_append f (x ∷ xs) ys = ap (λ l. f x ∷ l) (map_append f xs ys)

pub map_flat : {A B C : Type 0} (f : B → C) (g : A → List B) (xs : List A) → map f (flat_map g xs) ≡ flat_map (λ x. map f (g x)) xs
map_flat f g [] = refl
map_flat f g (x ∷ xs) = map_append f (g x) (flat_map g xs) ∙ ap (λ l. map f (g x) ++ l) (map_flat f g xs)

pub map_map : {A B C : Type 0} (f : B → C) (g : A → B) (xs : List A) → map f (map g xs) ≡ map (λ x. f (g x)) xs
map_map f g [] = refl
map_map f g (x ∷ xs) = ap (λ l. f (g x) ∷ l) (map_map f g xs)

-- what is found first among these and one more
module _ {A : Type 0} (test : A → Bool) (x : A) where
  pub found_later : (xs : List A) → find test xs ≡ None → find test (xs ++ x ∷ []) ≡ cond (test x) (Some x) None
  found_later [] none = refl
  found_later (z ∷ zs) none = by (test z) (found_later zs) none
    where
      by : (b : Bool) → (find test zs ≡ None → find test (zs ++ x ∷ []) ≡ cond (test x) (Some x) None) → cond b (Some z) (find test zs) ≡ None → cond b (Some z) (find test (zs ++ x ∷ [])) ≡ cond (test x) (Some x) None
      by true later none = absurd (cc none)
      by false later none = later none

  pub found_before : (xs : List A) (y : A) → find test xs ≡ Some y → find test (xs ++ x ∷ []) ≡ Some y
  found_before [] y is = absurd (cc is)
  found_before (z ∷ zs) y is = by (test z) (found_before zs y) is
    where
      by : (b : Bool) → (find test zs ≡ Some y → find test (zs ++ x ∷ []) ≡ Some y) → cond b (Some z) (find test zs) ≡ Some y → cond b (Some z) (find test (zs ++ x ∷ [])) ≡ Some y
      by true before is = is
      by false before is = before is
