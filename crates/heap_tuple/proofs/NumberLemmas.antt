-- A number in a part of the bytes is the number at the place that it has in the whole.
use Rattle.std.proofs.Common.{◌≡◌, ◌≤◌, ℕ, zero, suc, ◌+◌, ◌-◌, List, length, take, drop, refl, ap, ◌∙◌, arith}
use Rattle.std.proofs.lemmas.List.{get_or-drop}
use Rattle.byteorder.specs.Endian.{little_from}
use Rattle.byteorder.specs.Numbers.{little_from-take}

pub little_from-drop : (i n place : ℕ) (bytes : List ℕ) → little_from i n (drop place bytes) ≡ little_from (place + i) n bytes
little_from-drop i zero place bytes = refl
little_from-drop i (suc n) place bytes =
    let rest : little_from (suc i) n (drop place bytes) ≡ little_from (place + suc i) n bytes = little_from-drop (suc i) n place bytes in
    let next : place + suc i ≡ suc (place + i) = omega arith in
    rw (get_or-drop place bytes i 0, rest, next) refl

-- the number of n bytes that `&bytes[place..]` begins with
pub little_from-tail : (n place : ℕ) (bytes : List ℕ) → place + n ≤ length bytes → little_from 0 n (take (length bytes - place) (drop place bytes)) ≡ little_from place n bytes
little_from-tail n place bytes inside =
    little_from-take 0 n (length bytes - place) (drop place bytes) (omega arith) ∙ little_from-drop 0 n place bytes ∙ ap (λ (p : ℕ). little_from p n bytes) (omega arith)
