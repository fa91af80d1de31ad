-- The first column of columns that stand one after another.
use Rattle.std.proofs.Common.{◌≡◌, ◌∙◌, ℕ, ◌+◌, Bool, true, false, List, [], ◌∷◌, ◌++◌, drop, Option, Some, None, cond, flat_map, refl, sym, ap}
use Rattle.std.specs.Prelude.{slice_get}
use Rattle.std.specs.Option.{option_map, option_or}
use Rattle.std.specs.List.{find}
use Rattle.catalog_checks.specs.declared.columns.ColumnPlace.{ColumnPlace}
use Rattle.catalog_checks.specs.declared.columns.TypeTest.{TypeTest}
use Rattle.catalog_checks.specs.Columns.{PlacedColumn, is_refused, place_of, first_place}
use Rattle.catalog_checks.proofs.Searching.{at_place}

first_place-append : (test : TypeTest) (xs ys : List PlacedColumn) → first_place test (xs ++ ys) ≡ option_or (first_place test xs) (first_place test ys)
first_place-append test [] ys = refl
first_place-append test (x ∷ xs) ys = by (is_refused test x) (first_place-append test xs ys)
  where
    by : (b : Bool) → first_place test (xs ++ ys) ≡ option_or (first_place test xs) (first_place test ys)
        → option_map place_of (cond b (Some x) (find (is_refused test) (xs ++ ys))) ≡ option_or (option_map place_of (cond b (Some x) (find (is_refused test) xs))) (first_place test ys)
    by true rest = refl
    by false rest = rest

module _ {A : Type 0} (test : TypeTest) (f : A → List PlacedColumn) where
  split_here : (xs : List A) (i : ℕ) (x : A) → slice_get xs i ≡ Some x → first_place test (flat_map f (drop i xs)) ≡ option_or (first_place test (f x)) (first_place test (flat_map f (drop (i + 1) xs)))
  split_here xs i x at = ap (λ l. first_place test (flat_map f l)) (at_place xs i x at) ∙ first_place-append test (f x) (flat_map f (drop (i + 1) xs))

  -- the columns of one more object have none
  pub place_more : (xs : List A) (i : ℕ) (x : A) (total : Option ColumnPlace) → slice_get xs i ≡ Some x → None ≡ first_place test (f x) → first_place test (flat_map f (drop i xs)) ≡ total → first_place test (flat_map f (drop (i + 1) xs)) ≡ total
  place_more xs i x total at none so_far = ap (λ o. option_or o (first_place test (flat_map f (drop (i + 1) xs)))) none ∙ sym (split_here xs i x at) ∙ so_far

  -- they have one
  pub place_here : (xs : List A) (i : ℕ) (x : A) (place : ColumnPlace) (total : Option ColumnPlace) → slice_get xs i ≡ Some x → Some place ≡ first_place test (f x) → first_place test (flat_map f (drop i xs)) ≡ total → Some place ≡ total
  place_here xs i x place total at found so_far = ap (λ o. option_or o (first_place test (flat_map f (drop (i + 1) xs)))) found ∙ sym (split_here xs i x at) ∙ so_far
