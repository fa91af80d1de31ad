-- The least number that passes a test, found by one after another.
use Rattle.std.proofs.Common.{◌≡◌, ◌∙◌, ℕ, suc, ◌+◌, ◌-◌, ◌<◌, ◌≤◌, Bool, true, false, cond, List, ◌∷◌, Some, None, find, flat_map, ◌++◌, append_assoc, ap, sym, arith}
use Rattle.std.proofs.lemmas.List.{append-nil}
use Rattle.std.specs.List.{range_with_len}

range_first : (n end : ℕ) → n < end → range_with_len n (end - n) ≡ n ∷ range_with_len (n + 1) (end - (n + 1))
range_first n end lt =
    let more : end - n ≡ suc (end - (n + 1)) = omega arith in
    ap (range_with_len n) more

pub least_here : (passes : ℕ → Bool) (n end : ℕ) → n < end → passes n ≡ true → find passes (range_with_len n (end - n)) ≡ Some n
least_here passes n end lt is = ap (find passes) (range_first n end lt) ∙ ap (λ b. cond b (Some n) (find passes (range_with_len (n + 1) (end - (n + 1))))) is

pub least_next : (passes : ℕ → Bool) (n end : ℕ) → n < end → passes n ≡ false → find passes (range_with_len (n + 1) (end - (n + 1))) ≡ find passes (range_with_len n (end - n))
least_next passes n end lt is = sym (ap (find passes) (range_first n end lt) ∙ ap (λ b. cond b (Some n) (find passes (range_with_len (n + 1) (end - (n + 1))))) is)

pub least_none : (passes : ℕ → Bool) (n end : ℕ) → end ≤ n → find passes (range_with_len n (end - n)) ≡ None
least_none passes n end le =
    let none : end - n ≡ 0 = omega arith in
    ap (λ k. find passes (range_with_len n k)) none

-- what each number of a range gives, in order
pub joined_next : (f : ℕ → List ℕ) (before all : List ℕ) (n end : ℕ) → n < end → before ++ flat_map f (range_with_len n (end - n)) ≡ all → (before ++ f n) ++ flat_map f (range_with_len (n + 1) (end - (n + 1))) ≡ all
joined_next f before all n end lt so_far =
    append_assoc before (f n) (flat_map f (range_with_len (n + 1) (end - (n + 1)))) ∙ ap (λ l. before ++ l) (sym (ap (flat_map f) (range_first n end lt))) ∙ so_far

pub joined_none : (f : ℕ → List ℕ) (before all : List ℕ) (n end : ℕ) → end ≤ n → before ++ flat_map f (range_with_len n (end - n)) ≡ all → before ≡ all
joined_none f before all n end le so_far =
    let none : end - n ≡ 0 = omega arith in
    sym (ap (λ k. before ++ flat_map f (range_with_len n k)) none ∙ append-nil before) ∙ so_far
