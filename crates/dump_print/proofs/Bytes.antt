-- The bytes of a slice are below 256.
use Rattle.std.proofs.Common.{◌≡◌, ℕ, suc, ◌<◌, true, List, [], ◌∷◌, get_or, Fits, w8, refl, rules, arith}
use Rattle.dump_lex.specs.Written.{are_bytes as all_bytes}

pub are_bytes : (items : List ℕ) → ((i : ℕ) → Fits w8 (get_or items i 0)) → all_bytes items ≡ true
are_bytes [] fit = refl
are_bytes (b ∷ bs) fit =
    let first : b < 256 = search (rules, fit 0) in
    let more : all_bytes bs ≡ true = are_bytes bs (λ i. fit (suc i)) in
    grind (arith, first, more)
