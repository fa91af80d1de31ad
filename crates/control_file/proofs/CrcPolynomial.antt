-- The register of CRC-32C is the remainder of a division of polynomials, and no other number is.
use Rattle.std.proofs.Common.{◌≡◌, ℕ, zero, suc, ◌+◌, ◌*◌, ◌/◌, ◌%◌, ◌^◌, ◌<◌, ◌≤◌, ◌↔◌, ◌⊎◌, inl, inr, List, [], ◌∷◌, length, refl, sym, ap, ◌∙◌, subst, arith}
use Rattle.std.proofs.Math.Nat.{pow-suc, mul_assoc, mul_comm}
use Rattle.std.proofs.lemmas.Nat.{pow-add, pow_pos}
use Rattle.std.proofs.lemmas.Bool.{cases_lt}
use Rattle.std.specs.Int.Bits.{bit_xor, xor_zero_r, xor_self, xor_assoc, xor_comm, xor_shr, xor_mod, xor_lt, xor_block, xor_shifted}
use Rattle.control_file.specs.Crc.{IsCrc, IsRemainder, all_ones, crc_of, dividend, generator, message_bits, mirrored, polynomial, product, reflected_generator, register_after, times_x}
use Rattle.control_file.proofs.CrcRegister.{xor-coefficients, xor-pairs}

-- ---- sums

-- a summand that stands twice
pub xor-twice : (a b : ℕ) → bit_xor a (bit_xor a b) ≡ b
xor-twice a b = sym (xor_assoc a a b) ∙ ap (λ v. bit_xor v b) (xor_self a)

pub xor-twice_last : (a b : ℕ) → bit_xor (bit_xor a b) b ≡ a
xor-twice_last a b = xor_assoc a b b ∙ ap (bit_xor a) (xor_self b) ∙ xor_zero_r a

-- a sum times a power of x
pub xor-shl : (a b k : ℕ) → bit_xor a b * 2 ^ k ≡ bit_xor (a * 2 ^ k) (b * 2 ^ k)
xor-shl a b k =
    let positive : 0 < 2 ^ k = pow_pos k in
    let ea : a * 2 ^ k + 0 ≡ a * 2 ^ k = omega arith in
    let eb : b * 2 ^ k + 0 ≡ b * 2 ^ k = omega arith in
    let e : bit_xor a b * 2 ^ k + 0 ≡ bit_xor a b * 2 ^ k = omega arith in
    sym e ∙ sym (xor_block k a b 0 0 positive positive) ∙ ap (λ v. bit_xor v (b * 2 ^ k + 0)) ea ∙ ap (bit_xor (a * 2 ^ k)) eb

-- a coefficient is 0 or 1
coefficient-cases : (c : ℕ) → c < 2 → (c ≡ 0) ⊎ (c ≡ 1)
coefficient-cases zero h = inl refl
coefficient-cases (suc zero) h = inr refl
coefficient-cases (suc (suc c)) h = absurd (omega arith)

-- ---- the register's bits in the other order

pub mirrored-lt : (n x : ℕ) → mirrored n x < 2 ^ n
unfolding mirrored
mirrored-lt zero x = omega arith
mirrored-lt (suc n) x =
    let double : 2 ^ suc n ≡ 2 ^ n * 2 = pow-suc 2 n in
    let below : mirrored n (x / 2) < 2 ^ n = mirrored-lt n (x / 2) in
    elim (coefficient-cases (x % 2) (omega arith)) [
      | inl e ↦ (let p : x % 2 * 2 ^ n ≡ 0 = ap (λ v. v * 2 ^ n) e ∙ omega arith in omega arith)
      | inr e ↦ (let p : x % 2 * 2 ^ n ≡ 2 ^ n = ap (λ v. v * 2 ^ n) e ∙ omega arith in omega arith)
    ]

pub mirrored-xor : (n a b : ℕ) → mirrored n (bit_xor a b) ≡ bit_xor (mirrored n a) (mirrored n b)
unfolding mirrored
mirrored-xor zero a b = refl
mirrored-xor (suc n) a b =
    ap (λ v. v * 2 ^ n + mirrored n (bit_xor a b / 2)) (xor_mod a b 1)
    ∙ ap (λ v. bit_xor (a % 2) (b % 2) * 2 ^ n + mirrored n v) (xor_shr a b 1)
    ∙ ap (λ v. bit_xor (a % 2) (b % 2) * 2 ^ n + v) (mirrored-xor n (a / 2) (b / 2))
    ∙ sym (xor_block n (a % 2) (b % 2) (mirrored n (a / 2)) (mirrored n (b / 2)) (mirrored-lt n (a / 2)) (mirrored-lt n (b / 2)))

-- one more place in front is a power more
pub mirrored-wider : (n x : ℕ) → x < 2 ^ n → mirrored (suc n) x ≡ mirrored n x * 2
unfolding mirrored
mirrored-wider zero x h =
    let none : x ≡ 0 = omega arith in ap (mirrored 1) none
mirrored-wider (suc n) x h =
    let double : 2 ^ suc n ≡ 2 ^ n * 2 = pow-suc 2 n in
    let below : x / 2 < 2 ^ n = omega arith in
    let rest : mirrored (suc n) (x / 2) ≡ mirrored n (x / 2) * 2 = mirrored-wider n (x / 2) below in
    let first : x % 2 * 2 ^ suc n ≡ x % 2 * 2 ^ n * 2 = ap (λ v. x % 2 * v) double ∙ sym (mul_assoc (x % 2) (2 ^ n) 2) in
    omega (arith, rest, first)

-- only zero has no bit
pub mirrored-zero : (n x : ℕ) → x < 2 ^ n → mirrored n x ≡ 0 → x ≡ 0
unfolding mirrored
mirrored-zero zero x h e = omega arith
mirrored-zero (suc n) x h e =
    let double : 2 ^ suc n ≡ 2 ^ n * 2 = pow-suc 2 n in
    let below : x / 2 < 2 ^ n = omega arith in
    let rest : mirrored n (x / 2) ≡ 0 = omega arith in
    let half : x / 2 ≡ 0 = mirrored-zero n (x / 2) below rest in
    let positive : 0 < 2 ^ n = pow_pos n in
    elim (coefficient-cases (x % 2) (omega arith)) [
      | inl low ↦ omega arith
      | inr low ↦ (let p : x % 2 * 2 ^ n ≡ 2 ^ n = ap (λ v. v * 2 ^ n) low ∙ omega arith in absurd (omega arith))
    ]

-- ---- one step

-- a coefficient of the register's lowest bit, mirrored
mirrored-coefficient : (c : ℕ) → c < 2 → mirrored 32 (c * reflected_generator) ≡ c * 0x1EDC_6F41
unfolding mirrored
mirrored-coefficient zero h = refl
mirrored-coefficient (suc zero) h = refl
mirrored-coefficient (suc (suc c)) h = absurd (omega arith)

mirrored-bit : (c : ℕ) → c < 2 → mirrored 32 c ≡ c * 2 ^ 31
unfolding mirrored
mirrored-bit zero h = refl
mirrored-bit (suc zero) h = refl
mirrored-bit (suc (suc c)) h = absurd (omega arith)

generator-split : (c : ℕ) → c < 2 → c * generator ≡ bit_xor (c * 2 ^ 32) (c * 0x1EDC_6F41)
generator-split zero h = refl
generator-split (suc zero) h = refl
generator-split (suc (suc c)) h = absurd (omega arith)

-- x times the register is a multiple of the generator and the next register
pub mirrored-times_x : (s : ℕ) → s < 2 ^ 32 → bit_xor (s % 2 * generator) (mirrored 32 (times_x s)) ≡ mirrored 32 s * 2
unfolding times_x mirrored
mirrored-times_x s h =
    let low : s % 2 < 2 = omega arith in
    let half : s / 2 < 2 ^ 31 = omega arith in
    let wider : mirrored 32 (s / 2) ≡ mirrored 31 (s / 2) * 2 = mirrored-wider 31 (s / 2) half in
    let below : mirrored 32 (s / 2) < 2 ^ 32 = mirrored-lt 32 (s / 2) in
    let next : mirrored 32 (times_x s) ≡ bit_xor (mirrored 32 (s / 2)) (s % 2 * 0x1EDC_6F41) =
    mirrored-xor 32 (s / 2) (s % 2 * reflected_generator) ∙ ap (bit_xor (mirrored 32 (s / 2))) (mirrored-coefficient (s % 2) low) in
    let double : mirrored 32 s * 2 ≡ s % 2 * 2 ^ 32 + mirrored 32 (s / 2) = omega arith in
    ap (bit_xor (s % 2 * generator)) next
    ∙ ap (λ v. bit_xor v (bit_xor (mirrored 32 (s / 2)) (s % 2 * 0x1EDC_6F41))) (generator-split (s % 2) low)
    ∙ xor-pairs (s % 2 * 2 ^ 32) (s % 2 * 0x1EDC_6F41) (mirrored 32 (s / 2)) (s % 2 * 0x1EDC_6F41)
    ∙ ap (bit_xor (bit_xor (s % 2 * 2 ^ 32) (mirrored 32 (s / 2)))) (xor_self (s % 2 * 0x1EDC_6F41))
    ∙ xor_zero_r (bit_xor (s % 2 * 2 ^ 32) (mirrored 32 (s / 2)))
    ∙ xor_shifted (s % 2) 32 (mirrored 32 (s / 2)) below
    ∙ sym double

-- ---- a whole message

pub times_x-lt : (s : ℕ) → s < 2 ^ 32 → times_x s < 2 ^ 32
unfolding times_x
times_x-lt s h =
    let half : s / 2 < 2 ^ 32 = omega arith in
    let low : s % 2 * reflected_generator < 2 ^ 32 = omega arith in
    xor_lt 32 (s / 2) (s % 2 * reflected_generator) half low

taken-lt : (r bit : ℕ) → r < 2 ^ 32 → bit_xor r (bit % 2) < 2 ^ 32
taken-lt r bit h = let low : bit % 2 < 2 ^ 32 = omega arith in xor_lt 32 r (bit % 2) h low

pub register_after-lt : (r : ℕ) (bits : List ℕ) → r < 2 ^ 32 → register_after r bits < 2 ^ 32
unfolding register_after
register_after-lt r [] h = h
register_after-lt r (bit ∷ bits) h =
    register_after-lt (times_x (bit_xor r (bit % 2))) bits (times_x-lt (bit_xor r (bit % 2)) (taken-lt r bit h))

-- the quotient's coefficients: the lowest bit of the register before each step
unfoldable pub quotient_of : ℕ → List ℕ → List ℕ
quotient_of r [] = []
quotient_of r (bit ∷ bits) = bit_xor r (bit % 2) ∷ quotient_of (times_x (bit_xor r (bit % 2))) bits

length-quotient_of : (r : ℕ) (bits : List ℕ) → length (quotient_of r bits) ≡ length bits
unfolding quotient_of
length-quotient_of r [] = refl
length-quotient_of r (bit ∷ bits) = ap suc (length-quotient_of (times_x (bit_xor r (bit % 2))) bits)

-- x times the register with a bit is x times the register, and the bit times x ^ 32
mirrored-taken : (r bit : ℕ) → mirrored 32 (bit_xor r (bit % 2)) * 2 ≡ bit_xor (mirrored 32 r * 2) (bit % 2 * 2 ^ 32)
mirrored-taken r bit =
    let low : bit % 2 < 2 = omega arith in
    let e : bit % 2 * 2 ^ 31 * 2 ≡ bit % 2 * 2 ^ 32 = omega arith in
    ap (λ v. v * 2) (mirrored-xor 32 r (bit % 2) ∙ ap (bit_xor (mirrored 32 r)) (mirrored-bit (bit % 2) low))
    ∙ xor-shl (mirrored 32 r) (bit % 2 * 2 ^ 31) 1
    ∙ ap (bit_xor (mirrored 32 r * 2)) e

-- the message after the register's polynomial is a multiple of the generator, and the register at the end
pub register_after-divides : (r : ℕ) (bits : List ℕ) → r < 2 ^ 32
    → bit_xor (mirrored 32 r * 2 ^ length bits) (product bits 1 * 2 ^ 32)
    ≡ bit_xor (product (quotient_of r bits) generator) (mirrored 32 (register_after r bits))
unfolding register_after quotient_of product
register_after-divides r [] h =
    let e : mirrored 32 r * 1 ≡ mirrored 32 r = omega arith in
    xor_zero_r (mirrored 32 r * 1) ∙ e
register_after-divides r (bit ∷ bits) h =
    let s : ℕ = bit_xor r (bit % 2) in
    let n : ℕ = length bits in
    let q : List ℕ = quotient_of (times_x s) bits in
    let small : s < 2 ^ 32 = taken-lt r bit h in
    let rest : bit_xor (mirrored 32 (times_x s) * 2 ^ n) (product bits 1 * 2 ^ 32) ≡ bit_xor (product q generator) (mirrored 32 (register_after (times_x s) bits)) =
    register_after-divides (times_x s) bits (times_x-lt s small) in
    let shift : mirrored 32 r * 2 ^ suc n ≡ mirrored 32 r * 2 * 2 ^ n =
    ap (λ v. mirrored 32 r * v) (pow-suc 2 n ∙ mul_comm (2 ^ n) 2) ∙ sym (mul_assoc (mirrored 32 r) 2 (2 ^ n)) in
    let front : bit % 2 * (2 ^ n * 1) * 2 ^ 32 ≡ bit % 2 * 2 ^ 32 * 2 ^ n = omega arith in
    let top : s % 2 * (2 ^ length q * generator) ≡ s % 2 * generator * 2 ^ n =
    ap (λ v. s % 2 * (2 ^ v * generator)) (length-quotient_of (times_x s) bits) ∙ omega arith in
    -- the left side, by powers
    ap (λ v. bit_xor v (bit_xor (bit % 2 * (2 ^ n * 1)) (product bits 1) * 2 ^ 32)) shift
    ∙ ap (bit_xor (mirrored 32 r * 2 * 2 ^ n)) (xor-shl (bit % 2 * (2 ^ n * 1)) (product bits 1) 32 ∙ ap (λ v. bit_xor v (product bits 1 * 2 ^ 32)) front)
    ∙ sym (xor_assoc (mirrored 32 r * 2 * 2 ^ n) (bit % 2 * 2 ^ 32 * 2 ^ n) (product bits 1 * 2 ^ 32))
    ∙ ap (λ v. bit_xor v (product bits 1 * 2 ^ 32)) (sym (xor-shl (mirrored 32 r * 2) (bit % 2 * 2 ^ 32) n) ∙ ap (λ v. v * 2 ^ n) (sym (mirrored-taken r bit) ∙ sym (mirrored-times_x s small)) ∙ xor-shl (s % 2 * generator) (mirrored 32 (times_x s)) n)
    ∙ xor_assoc (s % 2 * generator * 2 ^ n) (mirrored 32 (times_x s) * 2 ^ n) (product bits 1 * 2 ^ 32)
    ∙ ap (bit_xor (s % 2 * generator * 2 ^ n)) rest
    ∙ sym (xor_assoc (s % 2 * generator * 2 ^ n) (product q generator) (mirrored 32 (register_after (times_x s) bits)))
    ∙ ap (λ v. bit_xor (bit_xor v (product q generator)) (mirrored 32 (register_after (times_x s) bits))) (sym top)

mirrored-all_ones : mirrored 32 all_ones ≡ all_ones
unfolding mirrored
mirrored-all_ones = refl

-- what the register computes is the CRC
pub crc_of-IsCrc : (bytes : List ℕ) → IsCrc bytes (crc_of bytes)
unfolding crc_of dividend polynomial
crc_of-IsCrc bytes =
    let bits : List ℕ = message_bits bytes in
    let end : ℕ = register_after all_ones bits in
    let ones_fit : all_ones < 2 ^ 32 = omega arith in
    let small : end < 2 ^ 32 = register_after-lt all_ones bits ones_fit in
    let back : bit_xor (bit_xor end all_ones) all_ones ≡ end = xor-twice_last end all_ones in
    let divided : bit_xor (mirrored 32 all_ones * 2 ^ length bits) (product bits 1 * 2 ^ 32) ≡ bit_xor (product (quotient_of all_ones bits) generator) (mirrored 32 end) =
    register_after-divides all_ones bits ones_fit in
    record {
      fits = xor_lt 32 end all_ones small ones_fit;
      remainder = record {
        below = mirrored-lt 32 (bit_xor (bit_xor end all_ones) all_ones);
        quotient = quotient_of all_ones bits;
        sum =
            xor_comm (product bits 1 * 2 ^ 32) (all_ones * 2 ^ length bits)
            ∙ ap (λ v. bit_xor (v * 2 ^ length bits) (product bits 1 * 2 ^ 32)) (sym mirrored-all_ones)
            ∙ divided
            ∙ ap (λ v. bit_xor (product (quotient_of all_ones bits) generator) (mirrored 32 v)) (sym back);
      };
    }

-- ---- there is one remainder

-- two polynomials whose sum is zero
xor-same : (a b : ℕ) → bit_xor a b ≡ 0 → a ≡ b
xor-same a b e = sym (xor_zero_r a) ∙ ap (bit_xor a) (sym e) ∙ xor-twice a b

product-lt : (cs : List ℕ) → product cs generator < 2 ^ (length cs + 32)
unfolding product
product-lt [] = omega arith
product-lt (c ∷ cs) =
    let n : ℕ = length cs in
    let wide : 2 ^ (suc n + 32) ≡ 2 ^ (n + 32) * 2 = ap (λ v. 2 ^ v) (omega arith) ∙ pow-suc 2 (n + 32) in
    let same : 2 ^ (n + 32) ≡ 2 ^ n * 2 ^ 32 = pow-add 2 n 32 in
    let rest : product cs generator < 2 ^ (n + 32) = product-lt cs in
    let rest_fits : product cs generator < 2 ^ (suc n + 32) = omega arith in
    let first_fits : c % 2 * (2 ^ n * generator) < 2 ^ (suc n + 32) =
    elim (coefficient-cases (c % 2) (omega arith)) [
      | inl e ↦ (let p : c % 2 * (2 ^ n * generator) ≡ 0 = ap (λ v. v * (2 ^ n * generator)) e ∙ omega arith in omega arith)
      | inr e ↦ (let p : c % 2 * (2 ^ n * generator) ≡ 2 ^ n * generator = ap (λ v. v * (2 ^ n * generator)) e ∙ omega arith in omega arith)
    ] in
    xor_lt (suc n + 32) (c % 2 * (2 ^ n * generator)) (product cs generator) first_fits rest_fits

product-size : (cs : List ℕ) → (product cs generator ≡ 0) ⊎ (2 ^ 32 ≤ product cs generator)
unfolding product
product-size [] = inl refl
product-size (c ∷ cs) =
    let n : ℕ = length cs in
    let t : ℕ = product cs generator in
    let u : ℕ = c % 2 * (2 ^ n * generator) in
    let below : t < 2 ^ (n + 32) = product-lt cs in
    let same : 2 ^ (n + 32) ≡ 2 ^ n * 2 ^ 32 = pow-add 2 n 32 in
    let positive : 0 < 2 ^ n = pow_pos n in
    elim (coefficient-cases (c % 2) (omega arith)) as (λ _. (bit_xor u t ≡ 0) ⊎ (2 ^ 32 ≤ bit_xor u t)) [
      | inl e ↦ (let none : u ≡ 0 = ap (λ v. v * (2 ^ n * generator)) e ∙ omega arith in
          let gone : bit_xor u t ≡ t = ap (λ v. bit_xor v t) none in
          subst (λ v. (v ≡ 0) ⊎ (2 ^ 32 ≤ v)) (sym gone) (product-size cs))
      | inr e ↦ (let once : u ≡ 2 ^ n * generator = ap (λ v. v * (2 ^ n * generator)) e ∙ omega arith in
          elim (cases_lt (bit_xor u t) (2 ^ (n + 32))) as (λ _. (bit_xor u t ≡ 0) ⊎ (2 ^ 32 ≤ bit_xor u t)) [
            | inl low ↦ (let u_low : bit_xor (bit_xor u t) t < 2 ^ (n + 32) = xor_lt (n + 32) (bit_xor u t) t low below in
                let u_is : bit_xor (bit_xor u t) t ≡ u = xor-twice_last u t in
                absurd (omega arith))
            | inr high ↦ inr (omega arith)
          ])
    ]

-- the sum of two polynomials of one length
unfoldable summed : List ℕ → List ℕ → List ℕ
summed [] ys = []
summed (x ∷ xs) [] = []
summed (x ∷ xs) (y ∷ ys) = bit_xor x y ∷ summed xs ys

length-summed : (xs ys : List ℕ) → length xs ≡ length ys → length (summed xs ys) ≡ length xs
unfolding summed
length-summed [] ys h = refl
length-summed (x ∷ xs) [] h = absurd (cc h)
length-summed (x ∷ xs) (y ∷ ys) h = let same : length xs ≡ length ys = omega arith in ap suc (length-summed xs ys same)

product-summed : (xs ys : List ℕ) (g : ℕ) → length xs ≡ length ys → product (summed xs ys) g ≡ bit_xor (product xs g) (product ys g)
unfolding summed product
product-summed [] [] g h = refl
product-summed [] (y ∷ ys) g h = absurd (cc h)
product-summed (x ∷ xs) [] g h = absurd (cc h)
product-summed (x ∷ xs) (y ∷ ys) g h =
    let same : length xs ≡ length ys = omega arith in
    let lx : x % 2 < 2 = omega arith in
    let ly : y % 2 < 2 = omega arith in
    let front : bit_xor x y % 2 * (2 ^ length (summed xs ys) * g) ≡ bit_xor (x % 2 * (2 ^ length xs * g)) (y % 2 * (2 ^ length ys * g)) =
    ap (λ v. bit_xor x y % 2 * (2 ^ v * g)) (length-summed xs ys same)
    ∙ ap (λ v. v * (2 ^ length xs * g)) (xor_mod x y 1)
    ∙ xor-coefficients (x % 2) (y % 2) (2 ^ length xs * g) lx ly
    ∙ ap (λ v. bit_xor (x % 2 * (2 ^ length xs * g)) (y % 2 * (2 ^ v * g))) same in
    ap (λ v. bit_xor v (product (summed xs ys) g)) front
    ∙ ap (bit_xor (bit_xor (x % 2 * (2 ^ length xs * g)) (y % 2 * (2 ^ length ys * g)))) (product-summed xs ys g same)
    ∙ xor-pairs (x % 2 * (2 ^ length xs * g)) (y % 2 * (2 ^ length ys * g)) (product xs g) (product ys g)

-- a polynomial with zeros in front
unfoldable padded_by : ℕ → List ℕ → List ℕ
padded_by zero xs = xs
padded_by (suc n) xs = 0 ∷ padded_by n xs

length-padded_by : (n : ℕ) (xs : List ℕ) → length (padded_by n xs) ≡ n + length xs
unfolding padded_by
length-padded_by zero xs = omega arith
length-padded_by (suc n) xs = let e : length (padded_by n xs) ≡ n + length xs = length-padded_by n xs in omega (arith, e)

product-padded_by : (n : ℕ) (xs : List ℕ) (g : ℕ) → product (padded_by n xs) g ≡ product xs g
unfolding padded_by product
product-padded_by zero xs g = refl
product-padded_by (suc n) xs g =
    let none : 0 * (2 ^ length (padded_by n xs) * g) ≡ 0 = omega arith in
    ap (λ v. bit_xor v (product (padded_by n xs) g)) none ∙ product-padded_by n xs g

remainder-unique : (p r s : ℕ) → IsRemainder p r → IsRemainder p s → r ≡ s
remainder-unique p r s first second =
    let xs : List ℕ = first.quotient in
    let ys : List ℕ = second.quotient in
    let wide_x : List ℕ = padded_by (length ys) xs in
    let wide_y : List ℕ = padded_by (length xs) ys in
    let lengths : length wide_x ≡ length wide_y =
    length-padded_by (length ys) xs ∙ omega arith ∙ sym (length-padded_by (length xs) ys) in
    let both : bit_xor (bit_xor (product xs generator) r) (bit_xor (product ys generator) s) ≡ 0 =
    ap (λ v. bit_xor v (bit_xor (product ys generator) s)) (sym first.sum ∙ second.sum) ∙ xor_self (bit_xor (product ys generator) s) in
    let multiple : bit_xor r s ≡ product (summed wide_x wide_y) generator =
    sym (xor-same (bit_xor (product xs generator) (product ys generator)) (bit_xor r s)
    (xor-pairs (product xs generator) (product ys generator) r s ∙ both))
    ∙ ap (λ v. bit_xor v (product ys generator)) (sym (product-padded_by (length ys) xs generator))
    ∙ ap (bit_xor (product wide_x generator)) (sym (product-padded_by (length xs) ys generator))
    ∙ sym (product-summed wide_x wide_y generator lengths) in
    let small : bit_xor r s < 2 ^ 32 = xor_lt 32 r s first.below second.below in
    elim (product-size (summed wide_x wide_y)) as (λ _. r ≡ s) [
      | inl none ↦ xor-same r s (multiple ∙ none)
      | inr high ↦ absurd (omega arith)
    ]

-- no other number is the CRC
pub IsCrc-unique : (bytes : List ℕ) (c d : ℕ) → IsCrc bytes c → IsCrc bytes d → c ≡ d
IsCrc-unique bytes c d first second =
    let ones_fit : all_ones < 2 ^ 32 = omega arith in
    let x : ℕ = bit_xor c all_ones in
    let y : ℕ = bit_xor d all_ones in
    let x_fits : x < 2 ^ 32 = xor_lt 32 c all_ones first.fits ones_fit in
    let y_fits : y < 2 ^ 32 = xor_lt 32 d all_ones second.fits ones_fit in
    let same : mirrored 32 x ≡ mirrored 32 y =
    remainder-unique (dividend (message_bits bytes)) (mirrored 32 x) (mirrored 32 y) first.remainder second.remainder in
    let apart : mirrored 32 (bit_xor x y) ≡ 0 =
    mirrored-xor 32 x y ∙ ap (λ v. bit_xor v (mirrored 32 y)) same ∙ xor_self (mirrored 32 y) in
    let equal : x ≡ y = xor-same x y (mirrored-zero 32 (bit_xor x y) (xor_lt 32 x y x_fits y_fits) apart) in
    sym (xor-twice_last c all_ones) ∙ ap (λ v. bit_xor v all_ones) equal ∙ xor-twice_last d all_ones

-- the definition by polynomials and the register mean the same
pub IsCrc-crc_of : (bytes : List ℕ) (c : ℕ) → IsCrc bytes c ↔ (c ≡ crc_of bytes)
IsCrc-crc_of bytes c = (
  λ is_crc. IsCrc-unique bytes c (crc_of bytes) is_crc (crc_of-IsCrc bytes),
  λ e. subst (λ v. IsCrc bytes v) (sym e) (crc_of-IsCrc bytes),
)
