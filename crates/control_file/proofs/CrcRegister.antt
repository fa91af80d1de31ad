-- The register of CRC-32C: one step is linear, and eight steps are one look-up.
use Rattle.std.proofs.Common.{◌≡◌, ℕ, zero, suc, ◌+◌, ◌*◌, ◌/◌, ◌%◌, ◌^◌, ◌<◌, List, [], ◌∷◌, ◌++◌, get_or, length, drop, ◌≤◌, drop-cons, add-one, refl, sym, ap, ◌∙◌, arith}
use Rattle.std.proofs.Math.Nat.{pow-suc, mul_assoc}
use Rattle.std.proofs.lemmas.List.{drop_all}
use Rattle.std.specs.Int.Bits.{bit_and, and_mask, bit_xor, xor_zero_r, xor_self, xor_assoc, xor_comm, xor_shr, xor_mod, xor_shifted}
use Rattle.control_file.specs.Crc.{bits, message_bits, reflected_generator, times_x, register_after}
use Rattle.control_file.specs.declared.crc_table.TheConstants.{REMAINDERS}

-- the order of four summands
pub xor-pairs : (a b c d : ℕ) → bit_xor (bit_xor a b) (bit_xor c d) ≡ bit_xor (bit_xor a c) (bit_xor b d)
xor-pairs a b c d =
    xor_assoc a b (bit_xor c d)
    ∙ ap (bit_xor a) (sym (xor_assoc b c d) ∙ ap (λ v. bit_xor v d) (xor_comm b c) ∙ xor_assoc c b d)
    ∙ sym (xor_assoc a c (bit_xor b d))

-- a sum of two coefficients times p
pub xor-coefficients : (x y p : ℕ) → x < 2 → y < 2 → bit_xor x y * p ≡ bit_xor (x * p) (y * p)
xor-coefficients zero y p hx hy =
    let e : zero * p ≡ zero = omega arith in ap (λ v. bit_xor v (y * p)) (sym e)
xor-coefficients (suc zero) zero p hx hy =
    let e : zero * p ≡ zero = omega arith in sym (xor_zero_r (1 * p)) ∙ ap (bit_xor (1 * p)) (sym e)
xor-coefficients (suc zero) (suc zero) p hx hy =
    let e : zero * p ≡ zero = omega arith in e ∙ sym (xor_self (1 * p))
xor-coefficients (suc zero) (suc (suc y)) p hx hy = absurd (omega arith)
xor-coefficients (suc (suc x)) y p hx hy = absurd (omega arith)

pub times_x-xor : (a b : ℕ) → times_x (bit_xor a b) ≡ bit_xor (times_x a) (times_x b)
unfolding times_x
times_x-xor a b =
    let la : a % 2 < 2 = omega arith in
    let lb : b % 2 < 2 = omega arith in
    ap (λ v. bit_xor v (bit_xor a b % 2 * reflected_generator)) (xor_shr a b 1)
    ∙ ap (λ v. bit_xor (bit_xor (a / 2) (b / 2)) (v * reflected_generator)) (xor_mod a b 1)
    ∙ ap (bit_xor (bit_xor (a / 2) (b / 2))) (xor-coefficients (a % 2) (b % 2) reflected_generator la lb)
    ∙ xor-pairs (a / 2) (b / 2) (a % 2 * reflected_generator) (b % 2 * reflected_generator)

pub times_x-even : (m : ℕ) → times_x (m * 2) ≡ m
unfolding times_x
times_x-even m =
    let half : m * 2 / 2 ≡ m = omega arith in
    let low : m * 2 % 2 * reflected_generator ≡ 0 = omega arith in
    ap (λ v. bit_xor v (m * 2 % 2 * reflected_generator)) half ∙ ap (bit_xor m) low ∙ xor_zero_r m

-- n steps with no message
unfoldable pub steps : ℕ → ℕ → ℕ
steps zero r = r
steps (suc n) r = steps n (times_x r)

pub steps-xor : (n a b : ℕ) → steps n (bit_xor a b) ≡ bit_xor (steps n a) (steps n b)
unfolding steps
steps-xor zero a b = refl
steps-xor (suc n) a b = ap (steps n) (times_x-xor a b) ∙ steps-xor n (times_x a) (times_x b)

pub steps-high : (n m : ℕ) → steps n (m * 2 ^ n) ≡ m
unfolding steps
steps-high zero m = omega arith
steps-high (suc n) m =
    let e : m * 2 ^ suc n ≡ m * 2 ^ n * 2 = ap (λ v. m * v) (pow-suc 2 n) ∙ sym (mul_assoc m (2 ^ n) 2) in
    ap (λ v. steps n (times_x v)) e ∙ ap (steps n) (times_x-even (m * 2 ^ n)) ∙ steps-high n m

-- n bits at once
pub register_after-bits : (n r x : ℕ) → x < 2 ^ n → register_after r (bits n x) ≡ steps n (bit_xor r x)
unfolding register_after bits steps
register_after-bits zero r x h =
    let e : x ≡ 0 = omega arith in sym (xor_zero_r r) ∙ ap (bit_xor r) (sym e)
register_after-bits (suc n) r x h =
    let low : x % 2 < 2 = omega arith in
    let twice : x % 2 % 2 ≡ x % 2 = omega arith in
    let double : 2 ^ suc n ≡ 2 ^ n * 2 = pow-suc 2 n in
    let below : x / 2 < 2 ^ n = omega arith in
    let whole : x / 2 * 2 + x % 2 ≡ x = omega arith in
    let split : x ≡ bit_xor (x % 2) (x / 2 * 2) = sym whole ∙ sym (xor_shifted (x / 2) 1 (x % 2) low) ∙ xor_comm (x / 2 * 2) (x % 2) in
    let step : times_x (bit_xor r x) ≡ bit_xor (times_x (bit_xor r (x % 2))) (x / 2) =
    ap (λ v. times_x (bit_xor r v)) split
    ∙ ap times_x (sym (xor_assoc r (x % 2) (x / 2 * 2)))
    ∙ times_x-xor (bit_xor r (x % 2)) (x / 2 * 2)
    ∙ ap (bit_xor (times_x (bit_xor r (x % 2)))) (times_x-even (x / 2)) in
    ap (λ v. register_after (times_x (bit_xor r v)) (bits n (x / 2))) twice
    ∙ register_after-bits n (times_x (bit_xor r (x % 2))) (x / 2) below
    ∙ ap (steps n) (sym step)

-- eight steps leave the higher bits as they are, and turn the lowest eight into their entry
pub steps-byte : (r : ℕ) → steps 8 r ≡ bit_xor (steps 8 (r % 256)) (r / 256)
steps-byte r =
    let low : r % 256 < 2 ^ 8 = omega arith in
    let whole : r / 256 * 2 ^ 8 + r % 256 ≡ r = omega arith in
    ap (steps 8) (sym whole ∙ sym (xor_shifted (r / 256) 8 (r % 256) low) ∙ xor_comm (r / 256 * 2 ^ 8) (r % 256))
    ∙ steps-xor 8 (r % 256) (r / 256 * 2 ^ 8)
    ∙ ap (bit_xor (steps 8 (r % 256))) (steps-high 8 (r / 256))

pub register_after-byte : (r b : ℕ) → b < 256 → register_after r (bits 8 b) ≡ bit_xor (steps 8 (bit_xor r b % 256)) (r / 256)
register_after-byte r b h =
    let none : b / 256 ≡ 0 = omega arith in
    register_after-bits 8 r b h
    ∙ steps-byte (bit_xor r b)
    ∙ ap (bit_xor (steps 8 (bit_xor r b % 256))) (xor_shr r b 8 ∙ ap (bit_xor (r / 256)) none ∙ xor_zero_r (r / 256))

-- the entries of the table from the i-th on
unfoldable entries : ℕ → ℕ → List ℕ
entries i zero = []
entries i (suc n) = steps 8 i ∷ entries (suc i) n

entries-at : (i n k : ℕ) → k < n → get_or (entries i n) k 0 ≡ steps 8 (i + k)
unfolding entries
entries-at i zero k h = absurd (omega arith)
entries-at i (suc n) zero h = let e : i ≡ i + zero = omega arith in ap (steps 8) e
entries-at i (suc n) (suc k) h =
    let e : suc i + k ≡ i + suc k = omega arith in
    let below : k < n = omega arith in
    entries-at (suc i) n k below ∙ ap (steps 8) e

-- the literal table is what the definition computes
REMAINDERS-entries : REMAINDERS ≡ entries 0 256
unfolding entries steps times_x
REMAINDERS-entries = refl

pub REMAINDERS-at : (k : ℕ) → k < 256 → get_or REMAINDERS k 0 ≡ steps 8 k
REMAINDERS-at k h =
    let e : 0 + k ≡ k = omega arith in
    ap (λ (xs : List ℕ). get_or xs k 0) REMAINDERS-entries ∙ entries-at 0 256 k h ∙ ap (steps 8) e

-- what the look-up gives is the register after the byte
pub register_after-looked_up : (r b low entry : ℕ) → b < 256 → low ≡ bit_and (bit_xor r b) 255 → entry ≡ get_or REMAINDERS low 0 → bit_xor entry (r / 256) ≡ register_after r (bits 8 b)
register_after-looked_up r b low entry h low_is entry_is =
    let small : bit_xor r b % 256 < 256 = omega arith in
    let place : low ≡ bit_xor r b % 256 = low_is ∙ and_mask (bit_xor r b) 8 in
    ap (λ v. bit_xor v (r / 256))
    (entry_is ∙ ap (λ v. get_or REMAINDERS v 0) place ∙ REMAINDERS-at (bit_xor r b % 256) small)
    ∙ sym (register_after-byte r b h)

-- the register after one list of bits and then another
pub register_after-append : (r : ℕ) (xs ys : List ℕ) → register_after r (xs ++ ys) ≡ register_after (register_after r xs) ys
unfolding register_after
register_after-append r [] ys = refl
register_after-append r (x ∷ xs) ys = register_after-append (times_x (bit_xor r (x % 2))) xs ys

-- the register after one byte more
pub register_after-first : (r b : ℕ) (bytes : List ℕ) → register_after r (message_bits (b ∷ bytes)) ≡ register_after (register_after r (bits 8 b)) (message_bits bytes)
unfolding message_bits
register_after-first r b bytes = register_after-append r (bits 8 b) (message_bits bytes)

-- one byte of the message fewer to come
pub register_after-more : (register next i target : ℕ) (bytes : List ℕ) → i < length bytes
    → next ≡ register_after register (bits 8 (get_or bytes i 0))
    → register_after register (message_bits (drop i bytes)) ≡ target
    → register_after next (message_bits (drop (i + 1) bytes)) ≡ target
register_after-more register next i target bytes h next_is so_far =
    let first : drop i bytes ≡ get_or bytes i 0 ∷ drop (suc i) bytes = drop-cons bytes i 0 h in
    ap (λ v. register_after next (message_bits (drop v bytes))) (add-one i)
    ∙ ap (λ v. register_after v (message_bits (drop (suc i) bytes))) next_is
    ∙ sym (register_after-first register (get_or bytes i 0) (drop (suc i) bytes))
    ∙ ap (λ v. register_after register (message_bits v)) (sym first)
    ∙ so_far

-- no byte of the message is to come
pub register_after-done : (register i target : ℕ) (bytes : List ℕ) → length bytes ≤ i
    → register_after register (message_bits (drop i bytes)) ≡ target → register ≡ target
unfolding register_after message_bits
register_after-done register i target bytes h so_far =
    let none : drop i bytes ≡ [] = drop_all i bytes h in
    ap (λ v. register_after register (message_bits v)) (sym none) ∙ so_far
