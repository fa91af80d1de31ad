-- Numbers in files, the lowest byte first, and zeros.
use Rattle.std.specs.Prelude.{ℕ, List, replicate}
use Rattle.std.specs.Int.{w16, w32, w64, to_le_bytes}

abbrev pub two_bytes : ℕ → List ℕ
two_bytes n = to_le_bytes w16 n

abbrev pub four_bytes : ℕ → List ℕ
four_bytes n = to_le_bytes w32 n

abbrev pub eight_bytes : ℕ → List ℕ
eight_bytes n = to_le_bytes w64 n

-- so many zeros
unfoldable pub zeros : ℕ → List ℕ
zeros n = replicate n 0
