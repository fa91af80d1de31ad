-- The file of a table. A table has as many rows as its number modulo 7; row j has the values j and `a`, was inserted by
-- transaction 700, and was deleted by transaction 701 where j is a multiple of 3.
use Rattle.std.specs.Prelude.{ℕ, zero, suc, ◌+◌, ◌*◌, ◌-◌, ◌%◌, ◌^◌, ◌==◌, Bool, not, if◌then◌else◌, List, [], ◌∷◌, ◌++◌, map, take, count_by}
use Rattle.std.specs.List.{flat_map, range_with_len, sum_by}
use Rattle.heap_tuple.specs.declared.header.Header.{Header}
use Rattle.cluster_gen.specs.Numbers.{two_bytes, four_bytes, zeros}

abbrev pub is_deleted : ℕ → Bool
is_deleted line = line % 3 == 0

-- xmax
abbrev pub deleter_of : ℕ → ℕ
deleter_of line = if is_deleted line then 701 else 0

-- HEAP_HASVARWIDTH, and HEAP_XMAX_INVALID where the row isn't deleted
abbrev pub infomask_of : ℕ → ℕ
infomask_of line = if is_deleted line then 0x0002 else 0x0802

-- the tuple of 30 bytes in block 0 at this line, and two zeros that align it: xmin, xmax, cid and the block of ctid; the
-- line of ctid, infomask2 and infomask; hoff and no bitmap; the line's number; a text of one byte
unfoldable pub row : ℕ → List ℕ
row line =
    flat_map four_bytes (700 ∷ deleter_of line ∷ 0 ∷ 0 ∷ [])
    ++ (flat_map two_bytes (line ∷ 2 ∷ infomask_of line ∷ [])
    ++ (24 ∷ 0 ∷ []
    ++ (four_bytes line
    ++ 0x05 ∷ 0x61 ∷ 0 ∷ 0 ∷ [])))

-- the first so many of the rows from the last of `count` on to the first, as they stand on a page
unfoldable pub rows_below : ℕ → ℕ → List ℕ
rows_below count taken = flat_map (λ above. row (count - above)) (range_with_len 0 taken)

-- normal, with a length of 30, at the place from which on the rows up to this one take 32 bytes each
abbrev pub line_pointer : ℕ → ℕ
line_pointer line = 30 * 2 ^ 17 + 1 * 2 ^ 15 + (8192 - 32 * line)

unfoldable pub line_pointers : ℕ → List ℕ
line_pointers count = flat_map (λ i. four_bytes (line_pointer (i + 1))) (range_with_len 0 count)

-- lsn, checksum and flags; lower, upper, special, size and version; prune xid
unfoldable pub header : ℕ → List ℕ
header count = zeros 12 ++ (flat_map two_bytes ((24 + 4 * count) ∷ (8192 - 32 * count) ∷ 8192 ∷ 8196 ∷ []) ++ zeros 4)

-- a page with so many rows
unfoldable pub page : ℕ → List ℕ
page count = header count ++ (line_pointers count ++ (zeros (8168 - 36 * count) ++ rows_below count count))

abbrev pub page_or_none : ℕ → List ℕ
page_or_none zero = []
page_or_none (suc count) = page (suc count)

-- the file of the table of a number
abbrev pub table_file : ℕ → List ℕ
table_file table = page_or_none (table % 7)

-- ---- what the readers of pages and tuples find

-- the tuple of a line, without what aligns it
abbrev pub tuple_of : ℕ → List ℕ
tuple_of line = take 30 (row line)

-- the lines of a page with so many rows
abbrev pub lines : ℕ → List (ℕ × List ℕ)
lines count = map (λ line. (line, tuple_of line)) (range_with_len 1 count)

abbrev pub header_meant : ℕ → Header
header_meant line = record {
  xmin = 700;
  xmax = deleter_of line;
  cid = 0;
  block = 0;
  line = line;
  attributes = 2;
  infomask = infomask_of line;
  infomask2 = 2;
  hoff = 24;
}

-- how many rows of a page aren't deleted
abbrev pub live_on : ℕ → ℕ
live_on count = count_by (λ line. not (is_deleted line)) (range_with_len 1 count)

-- how many rows of so many tables aren't deleted
abbrev pub live_rows : ℕ → ℕ
live_rows tables = sum_by (λ table. live_on (table % 7)) (range_with_len 0 tables)
