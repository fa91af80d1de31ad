-- Numbers in the bytes of a file, the low byte first.
use Rattle.std.specs.Prelude.{ℕ, List}
use Rattle.byteorder.specs.Endian.{little_from}

-- the number of two bytes at a place
unfoldable pub u16_at : List ℕ → ℕ → ℕ
u16_at bytes place = little_from place 2 bytes

-- the number of four bytes at a place
unfoldable pub u32_at : List ℕ → ℕ → ℕ
u32_at bytes place = little_from place 4 bytes
