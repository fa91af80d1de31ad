-- Numbers of four bytes in segment files, the low byte first.
use Rattle.std.specs.Prelude.{ℕ, ◌+◌, nat_le, length, List, if◌then◌else◌, Option, Some, None, option_and_then}
use Rattle.byteorder.specs.Endian.{little_from}
use Rattle.xact_status.specs.Files.{SegmentFiles}

-- the number at a place, where the bytes go on for four
abbrev pub number_in : List ℕ → ℕ → Option ℕ
number_in bytes byte = if nat_le (byte + 4) (length bytes) then Some (little_from byte 4 bytes) else None

-- the number at a place of a segment, where its bytes are there
abbrev pub number_at : SegmentFiles → ℕ → ℕ → Option ℕ
number_at files segment byte = option_and_then (λ bytes. number_in bytes byte) (files segment)
