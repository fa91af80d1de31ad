-- The blocks of a fork (`src/backend/storage/smgr/md.c`): those of its segments, as far as these are full.
use Rattle.std.specs.Prelude.{ℕ, zero, suc, ◌+◌, ◌-◌, ◌*◌, ◌/◌, ◌^◌, ◌==◌, Bool, if◌then◌else◌, List, [], ◌∷◌, ◌++◌, length, map, take, Option, Some, None}
use Rattle.std.specs.List.{slice_range, range_with_len}
use Rattle.heap_page.specs.declared.layout.TheConstants.{PAGE_SIZE}
use Rattle.xact_status.specs.Files.{SegmentFiles}

-- whether a segment has all the blocks that a segment may have
abbrev pub is_full : ℕ → List ℕ → Bool
is_full relseg_size bytes = length bytes == relseg_size * PAGE_SIZE

-- the whole blocks of a segment
abbrev pub blocks_in : List ℕ → List (List ℕ)
blocks_in bytes =
    map (λ n. slice_range bytes (PAGE_SIZE * n) (PAGE_SIZE * n + PAGE_SIZE)) (range_with_len 0 (length bytes / PAGE_SIZE))

-- the blocks of a segment, and where it is full those behind it
abbrev pub blocks_then : ℕ → Option (List ℕ) → List (List ℕ) → List (List ℕ)
blocks_then relseg_size None behind = []
blocks_then relseg_size (Some bytes) behind = blocks_in bytes ++ (if is_full relseg_size bytes then behind else [])

-- the blocks of at most `count` segments from one on
abbrev pub blocks_from : ℕ → SegmentFiles → ℕ → ℕ → List (List ℕ)
blocks_from relseg_size files segment zero = []
blocks_from relseg_size files segment (suc count) = blocks_then relseg_size (files segment) (blocks_from relseg_size files (segment + 1) count)

-- how many segments and how many blocks a fork has at most: their numbers have 32 bits, and the last of them
-- stands for none. Kept folded: nothing may count up to it.
unfoldable pub most_segments : ℕ
most_segments = 2 ^ 32 - 1

unfoldable pub most_blocks : ℕ
most_blocks = 2 ^ 32 - 1

-- the blocks of a fork: those of its segments up to the first that isn't full, or before the first that is missing
unfoldable pub blocks_of : ℕ → SegmentFiles → List (List ℕ)
blocks_of relseg_size files = take most_blocks (blocks_from relseg_size files 0 most_segments)

-- blocks with their numbers, from a number on
abbrev pub numbered : ℕ → List (List ℕ) → List (ℕ × List ℕ)
numbered n [] = []
numbered n (block ∷ blocks) = (n, block) ∷ numbered (n + 1) blocks
