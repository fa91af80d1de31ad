-- CRC-32C, as the remainder of a division of polynomials whose coefficients are numbers modulo 2. A polynomial is a
-- natural number: its bit i is the coefficient of x ^ i. So `bit_xor` adds two polynomials, and 2 ^ k is x ^ k.
use Rattle.std.specs.Prelude.{◌≡◌, ℕ, zero, suc, ◌+◌, ◌*◌, ◌^◌, ◌/◌, ◌%◌, ◌<◌, List, [], ◌∷◌, ◌++◌, length, bit_xor}

-- ---- the definition

-- the generator of CRC-32C, of degree 32
abbrev pub generator : ℕ
generator = 0x1_1EDC_6F41

-- 32 ones: what the register begins with, and what the CRC is changed by at the end
abbrev pub all_ones : ℕ
all_ones = 0xFFFF_FFFF

-- the n lowest bits of a number, the lowest first
unfoldable pub bits : ℕ → ℕ → List ℕ
bits zero x = []
bits (suc n) x = x % 2 ∷ bits n (x / 2)

-- the bits of a message, each byte's lowest first, as a serial line sends them
unfoldable pub message_bits : List ℕ → List ℕ
message_bits [] = []
message_bits (byte ∷ bytes) = bits 8 byte ++ message_bits bytes

-- the product of g and the polynomial with these coefficients modulo 2, of which the highest power's comes first
unfoldable pub product : List ℕ → ℕ → ℕ
product [] g = 0
product (c ∷ cs) g = bit_xor (c % 2 * (2 ^ length cs * g)) (product cs g)

-- the polynomial with these coefficients
unfoldable pub polynomial : List ℕ → ℕ
polynomial cs = product cs 1

-- r is the remainder of the polynomial p divided by the generator: p is a multiple of the generator plus r, and the
-- degree of r is below 32
pub record IsRemainder (p r : ℕ) : Type 0 where
  pub below : r < 2 ^ 32
  pub quotient : List ℕ
  pub sum : p ≡ bit_xor (product quotient generator) r

-- the polynomial that is divided: the message's bits and then 32 zeros, the first 32 of all these bits changed
unfoldable pub dividend : List ℕ → ℕ
dividend bits = bit_xor (polynomial bits * 2 ^ 32) (all_ones * 2 ^ length bits)

-- the n lowest bits of a number in the other order
unfoldable pub mirrored : ℕ → ℕ → ℕ
mirrored zero x = 0
mirrored (suc n) x = x % 2 * 2 ^ n + mirrored n (x / 2)

-- c is the CRC-32C of the bytes: the remainder's 32 bits in the other order, each of them changed
pub record IsCrc (bytes : List ℕ) (c : ℕ) : Type 0 where
  pub fits : c < 2 ^ 32
  pub remainder : IsRemainder (dividend (message_bits bytes)) (mirrored 32 (bit_xor c all_ones))

-- ---- the same by a register of 32 bits, whose lowest bit is the coefficient of x ^ 31

-- the generator's 32 lower coefficients, in the register's order
abbrev pub reflected_generator : ℕ
reflected_generator = 0x82F6_3B78

-- the register's polynomial times x, modulo the generator
unfoldable pub times_x : ℕ → ℕ
times_x r = bit_xor (r / 2) (r % 2 * reflected_generator)

-- the register after some bits of a message, of which each is a number modulo 2
unfoldable pub register_after : ℕ → List ℕ → ℕ
register_after r [] = r
register_after r (bit ∷ bits) = register_after (times_x (bit_xor r (bit % 2))) bits

-- the CRC-32C of the bytes, which is the only number of which `IsCrc` holds
unfoldable pub crc_of : List ℕ → ℕ
crc_of bytes = bit_xor (register_after all_ones (message_bits bytes)) all_ones
