-- The loop that reads a number.
use Rattle.std.proofs.Common.{◌≡◌, ℕ, ◌+◌, ◌*◌, ◌-◌, ◌<◌, ◌≤◌, Bool, true, false, cond, List, [], ◌∷◌, length, get_or, Some, None, refl, arith}
use Rattle.std.specs.Prelude.{nat_le, not, ◌||◌}
use Rattle.std.proofs.lemmas.Bool.{lt-leb}
use Rattle.dump_lex.specs.Value.{value_after, has_leading_zero, number_of}

-- more digits write no smaller number
pub value_after-grows : (n : ℕ) (ds : List ℕ) → n ≤ value_after n ds
value_after-grows n [] = omega arith
value_after-grows n (d ∷ ds) = omega (arith, value_after-grows (10 * n + (d - 48)) ds)

large : (m n : ℕ) (b : Bool) → m ≤ n → 4294967295 < m → cond (b || not (nat_le n 4294967295)) None (Some n) ≡ None
large m n true le lt = refl
large m n false le lt = let h : nat_le n 4294967295 ≡ false = lt-leb _ _ (omega arith) in rw h refl

-- once the digits that are read are too large, all of them are
pub too_large : (digits rest : List ℕ) (n m : ℕ) → 0 < length rest → m ≡ 10 * n + (get_or rest 0 0 - 48) → value_after n rest ≡ value_after 0 digits → 4294967295 < m → number_of digits ≡ None
too_large digits [] n m h is same big = absurd (omega arith)
too_large digits (d ∷ ds) n m h is same big = large m (value_after 0 digits) (has_leading_zero digits) (rw (is, ← same) (value_after-grows (10 * n + (d - 48)) ds)) big
