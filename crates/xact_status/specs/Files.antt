-- The segment files of a log, as a function from their numbers: None where there is no such file.
use Rattle.std.specs.Prelude.{ℕ, List, Option, option_and_then, slice_get}

-- what each number's file holds
abbrev pub SegmentFiles : Type 0
SegmentFiles = ℕ → Option (List ℕ)

-- the byte at a place of a segment, where the segment is there and is long enough
abbrev pub byte_at : SegmentFiles → ℕ → ℕ → Option ℕ
byte_at files segment byte = option_and_then (λ bytes. slice_get bytes byte) (files segment)
