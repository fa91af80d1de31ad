-- Which files of a fork are carried: its segments up to the first that is missing or empty. The first segment of the main
-- fork may be empty, as that of a table without rows is.
use Rattle.std.specs.Prelude.{ℕ, ◌+◌, ◌==◌, ◌||◌, not, Bool, false, if◌then◌else◌, List, length, Option, Some, None}
use Rattle.std.specs.List.{list_all, range_with_len}
use Rattle.xact_status.specs.Files.{SegmentFiles}
use Rattle.relation_files.specs.declared.relation.Fork.{Fork}
use Rattle.relation_files.specs.declared.relation.Fork.TheVariants.{Main, FreeSpace, Visibility}

-- whether a segment may be empty and yet not end its fork: the first of the main fork alone
abbrev pub may_be_empty : Fork → ℕ → Bool
may_be_empty Main segment = segment == 0
may_be_empty FreeSpace segment = false
may_be_empty Visibility segment = false

-- whether a segment that has this file belongs to its fork
abbrev pub belongs : Fork → ℕ → Option (List ℕ) → Bool
belongs fork segment None = false
belongs fork segment (Some bytes) = may_be_empty fork segment || not (length bytes == 0)

-- whether each segment before this one belongs to the fork
abbrev pub is_reached : Fork → SegmentFiles → ℕ → Bool
is_reached fork files segment = list_all (λ n. belongs fork n (files n)) (range_with_len 0 segment)

-- the carried files of a fork: its segments up to the first that is missing or empty
unfoldable pub carried : Fork → SegmentFiles → SegmentFiles
carried fork files segment = if is_reached fork files (segment + 1) then files segment else None
