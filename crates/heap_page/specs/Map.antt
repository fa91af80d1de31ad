-- The visibility map: behind the header of each of its pages two bits for each heap block, the low bits of
-- a byte first.
use Rattle.std.specs.Prelude.{ℕ, ◌+◌, ◌*◌, ◌/◌, ◌%◌, ◌^◌, List, Option, option_map, slice_get}
use Rattle.heap_page.specs.declared.layout.TheConstants.{PAGE_SIZE, PAGE_HEADER_SIZE, MAP_BLOCKS_PER_PAGE, MAP_BLOCKS_PER_BYTE}

-- the byte of the map that has a block's bits
abbrev pub map_byte : ℕ → ℕ
map_byte block =
    PAGE_SIZE * (block / MAP_BLOCKS_PER_PAGE) + PAGE_HEADER_SIZE + block % MAP_BLOCKS_PER_PAGE / MAP_BLOCKS_PER_BYTE

-- how many bits of that byte stand below the block's
abbrev pub map_shift : ℕ → ℕ
map_shift block = 2 * (block % MAP_BLOCKS_PER_BYTE)

-- the two bits of a block: 1 says that all its tuples are visible to all, 2 that they are frozen
abbrev pub bits_of : List ℕ → ℕ → Option ℕ
bits_of vm block = option_map (λ byte. byte / 2 ^ map_shift block % 2 ^ 2) (slice_get vm (map_byte block))
