-- Numbers of rows, summed up one by one.
use Rattle.std.proofs.Common.{◌≡◌, ◌∙◌, ℕ, ◌+◌, ◌≤◌, ◌∷◌, min, List, drop, length, Some, sym, ap, arith}
use Rattle.std.specs.Prelude.{slice_get}
use Rattle.std.specs.List.{sum_by}
use Rattle.std.proofs.Math.ListN.{drop_of_length-le}
use Rattle.std.proofs.lemmas.List.{drop_more}
use Rattle.std.proofs.lemmas.List.Sums.{sum_by-cons}
use Rattle.std.proofs.lemmas.Option.{slice_get_within, get_or_from_slice_get}

-- the item at a place, and those behind it
split_at : {X : Type 0} (xs : List X) (i : ℕ) (x : X) → slice_get xs i ≡ Some x → drop i xs ≡ x ∷ drop (i + 1) xs
split_at xs i x is = drop_more xs i x (slice_get_within xs i x is) ∙ ap (λ y. y ∷ drop (i + 1) xs) (get_or_from_slice_get xs i x x is)

saturated : (t x r most : ℕ) → min (min (t + x) most + r) most ≡ min (t + (x + r)) most
saturated t x r most = omega arith

-- a number that stands still at its end is added as the number itself
pub capped : (t x found next most : ℕ) → found ≡ min x most → next ≡ min (t + found) most → next ≡ min (t + x) most
capped t x found next most is more = omega arith

-- none yet
pub none_added : {X : Type 0} (f : X → ℕ) (xs : List X) (most : ℕ) → min (0 + sum_by f (drop 0 xs)) most ≡ min (sum_by f xs) most
none_added f xs most = ap (λ n. min n most) (let none : 0 + sum_by f xs ≡ sum_by f xs = omega arith in none)

-- one more
pub adding : {X : Type 0} (f : X → ℕ) (xs : List X) (i : ℕ) (x : X) (total next whole most : ℕ) → slice_get xs i ≡ Some x → next ≡ min (total + f x) most
    → min (total + sum_by f (drop i xs)) most ≡ whole → min (next + sum_by f (drop (i + 1) xs)) most ≡ whole
adding f xs i x total next whole most at_i more so_far =
    ap (λ n. min (n + sum_by f (drop (i + 1) xs)) most) more ∙ saturated total (f x) (sum_by f (drop (i + 1) xs)) most
    ∙ ap (λ n. min (total + n) most) (sym (sum_by-cons f x (drop (i + 1) xs))) ∙ ap (λ left. min (total + sum_by f left) most) (sym (split_at xs i x at_i)) ∙ so_far

-- all of them
pub added_all : {X : Type 0} (f : X → ℕ) (xs : List X) (i total whole most : ℕ) → length xs ≤ i → total ≤ most → min (total + sum_by f (drop i xs)) most ≡ whole → total ≡ whole
added_all f xs i total whole most past small so_far =
    let all : total ≡ min (total + 0) most = omega arith in
    all ∙ ap (λ left. min (total + sum_by f left) most) (sym (drop_of_length-le xs past)) ∙ so_far
