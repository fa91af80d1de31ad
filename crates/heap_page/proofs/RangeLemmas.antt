-- A test of each number of a range.
use Rattle.std.proofs.Common.{◌≡◌, ℕ, zero, suc, ◌+◌, ◌<◌, ◌≤◌, Bool, true, false, ◌&&◌, refl, inl, inr, arith}
use Rattle.std.proofs.lemmas.Bool.{cases_eq}
use Rattle.std.specs.List.{list_all, range_with_len}

pub both : (x y : Bool) → (x && y) ≡ true → (x ≡ true) × (y ≡ true)
both true y h = (refl, h)
both false y h = cc

neither : (x y : Bool) → y ≡ false → (x && y) ≡ false
neither true y h = h
neither false y h = refl

-- all pass: each number of the range does
pub list_all-range_at : (test : ℕ → Bool) (a n k : ℕ) → list_all test (range_with_len a n) ≡ true → a ≤ k → k < a + n → test k ≡ true
list_all-range_at test a zero k all low high = absurd (omega arith)
list_all-range_at test a (suc n) k all low high =
    let parts = both (test a) (list_all test (range_with_len (a + 1) n)) all in
    elim (cases_eq a k) [
      | inl same ↦ rw (← same) parts.0
      | inr other ↦ list_all-range_at test (a + 1) n k parts.1 (omega arith) (omega arith)
    ]

-- each number of the range passes: all do
pub list_all-range_all : (test : ℕ → Bool) (a n : ℕ) → ((k : ℕ) → a ≤ k → k < a + n → test k ≡ true) → list_all test (range_with_len a n) ≡ true
list_all-range_all test a zero each = refl
list_all-range_all test a (suc n) each =
    let first : test a ≡ true = each a (omega arith) (omega arith) in
    rw first (list_all-range_all test (a + 1) n (λ k low high. each k (omega arith) (omega arith)))

-- one number of the range doesn't pass
pub list_all-range_not : (test : ℕ → Bool) (a n k : ℕ) → a ≤ k → k < a + n → test k ≡ false → list_all test (range_with_len a n) ≡ false
list_all-range_not test a zero k low high fails = absurd (omega arith)
list_all-range_not test a (suc n) k low high fails =
    elim (cases_eq a k) [
      | inl same ↦ rw (same, fails) refl
      | inr other ↦ neither (test a) _ (list_all-range_not test (a + 1) n k (omega arith) (omega arith) fails)
    ]
