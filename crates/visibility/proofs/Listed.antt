-- What a binary search says of ascending numbers.
use Rattle.std.proofs.Common.{◌≡◌, ◌+◌, ◌-◌, ◌<◌, ◌≤◌, ℕ, zero, suc, eqb, eq-eqb, ne_eqb, List, length, get_or, Result, Ok, Err, is_ok, inl, inr, sym, arith}
use Rattle.std.specs.Prelude.{MatchResult}
use Rattle.std.specs.List.{list_any}
use Rattle.std.specs.List.Sorted.{IsStrictlyIncreasing}
use Rattle.std.proofs.lemmas.Bool.{cases_lt}
use Rattle.std.proofs.lemmas.Grind.{get_or_default_zero}
use Rattle.std.proofs.lemmas.List.Folds.{list_any_at, list_any_none}

-- a number is no greater than those behind it
rises_by : (xs : List ℕ) → IsStrictlyIncreasing xs → (i n : ℕ) → i + n < length xs → get_or xs i 0 ≤ get_or xs (i + n) 0
rises_by xs rises i zero h = let same : i + 0 ≡ i = omega arith in rw same (omega arith)
rises_by xs rises i (suc n) h =
    let next : i + suc n ≡ (i + n) + 1 = omega arith in
    rw next (omega (arith, rises_by xs rises i n (omega arith), rises (i + n) (omega arith)))

pub rises_to : (xs : List ℕ) → IsStrictlyIncreasing xs → (i j : ℕ) → i ≤ j → j < length xs → get_or xs i 0 ≤ get_or xs j 0
rises_to xs rises i j le within =
    let whole : i + (j - i) ≡ j = omega arith in
    rw whole at (rises_by xs rises i (j - i) (omega arith))

pub listed : (xs : List ℕ) (x : ℕ) (r : Result ℕ ℕ) → MatchResult r (λ i. (i < length xs) × (get_or xs i 0 ≡ x)) (λ i. (i ≤ length xs) × ((k : ℕ) → k < i → get_or xs k 0 < x) × ((k : ℕ) → i ≤ k → k < length xs → x < get_or xs k 0)) → is_ok r ≡ list_any (λ each. eqb each x) xs
listed xs x (Ok i) found = sym (list_any_at (λ each. eqb each x) xs i 0 found.0 (eq-eqb _ _ found.1))
listed xs x (Err i) between = sym (list_any_none (λ each. eqb each x) xs (λ k d within.
    let same = get_or_default_zero xs k d within in
    ne_eqb (get_or xs k d) x (λ is. elim (cases_lt k i) [ inl before ↦ absurd (omega (arith, same, between.1 k before)) | inr after ↦ absurd (omega (arith, same, between.2 k after within)) ])))
