-- What a snapshot sees of a table: the rows that it sees, the blocks that can't be read, and how many tuples it can't tell.
use Rattle.std.specs.Prelude.{◌≡◌, ℕ, ◌+◌, ◌-◌, ◌^◌, min, Bool, true, false, List, [], ◌∷◌, ◌++◌, count_by, Option, Some, None}
use Rattle.std.specs.List.{filter_map, flat_map}
use Rattle.heap_page.specs.Page.{page_error}
use Rattle.heap_page.specs.declared.error.PageError.{PageError}
use Rattle.visibility.specs.declared.seen.Seen.{Seen}
use Rattle.visibility.specs.declared.seen.Seen.TheVariants.{Yes, No, Unknown}
use Rattle.visibility.specs.Taken.{Taken}
use Rattle.cluster_meaning.specs.Blocks.{numbered}
use Rattle.cluster_meaning.specs.Chunks.{readable_items}
use Rattle.cluster_meaning.specs.Values.{values_of}
use Rattle.cluster_meaning.specs.Meaning.{Reading, tuple_seen}
use Rattle.block_rows.specs.declared.rows.Row.{Row}
use Rattle.block_rows.specs.declared.rows.Rows.{Rows}

-- ---- one block

abbrev pub row_if : Seen → Row → Option Row
row_if Yes row = Some row
row_if No row = None
row_if Unknown row = None

-- the row of an item, where it is seen
abbrev pub row_of : Reading → Taken → ℕ → ℕ × List ℕ → Option Row
row_of reading snapshot block item = row_if (tuple_seen reading snapshot item.1) (record { block = block; line = item.0; values = values_of reading.source item.1 })

abbrev pub block_rows : Reading → Taken → ℕ → List ℕ → List Row
block_rows reading snapshot n block = filter_map (row_of reading snapshot n) (readable_items block)

abbrev pub block_unread : ℕ → Option PageError → List ℕ
block_unread n None = []
block_unread n (Some error) = n ∷ []

abbrev pub is_unknown : Seen → Bool
is_unknown Yes = false
is_unknown No = false
is_unknown Unknown = true

-- the count behind a tuple; it stands still at its type's end
abbrev pub counted : Seen → ℕ → ℕ
counted Yes count = count
counted No count = count
counted Unknown count = min (count + 1) (2 ^ 64 - 1)

abbrev pub counted_all : (ℕ × List ℕ → Seen) → List (ℕ × List ℕ) → ℕ → ℕ
counted_all seen [] count = count
counted_all seen (item ∷ items) count = counted_all seen items (counted (seen item) count)

abbrev pub item_seen : Reading → Taken → ℕ × List ℕ → Seen
item_seen reading snapshot item = tuple_seen reading snapshot item.1

-- the count behind the items of a block
abbrev pub block_counted : Reading → Taken → List ℕ → ℕ → ℕ
block_counted reading snapshot block count = counted_all (item_seen reading snapshot) (readable_items block) count

-- ---- blocks with their numbers

-- the rows in them that a snapshot sees
abbrev pub rows_in : Reading → Taken → List (ℕ × List ℕ) → List Row
rows_in reading snapshot blocks = flat_map (λ one. block_rows reading snapshot one.0 one.1) blocks

-- the numbers of those that are no pages
abbrev pub unread_in : List (ℕ × List ℕ) → List ℕ
unread_in blocks = flat_map (λ one. block_unread one.0 (page_error one.1)) blocks

-- the items of those that are pages
abbrev pub items_in : List (ℕ × List ℕ) → List (ℕ × List ℕ)
items_in blocks = flat_map (λ one. readable_items one.1) blocks

-- what a snapshot sees of some blocks was added
pub record AddsRows (reading : Reading) (snapshot : Taken) (blocks : List (ℕ × List ℕ)) (old new : Rows) : Type 0 where
  pub rows : new.rows.items ≡ old.rows.items ++ rows_in reading snapshot blocks
  pub unread : new.unread.items ≡ old.unread.items ++ unread_in blocks
  pub unknown : new.unknown ≡ counted_all (item_seen reading snapshot) (items_in blocks) old.unknown

-- what a snapshot sees of a table with these blocks; the count stands still at its type's end
pub record TellsRows (reading : Reading) (snapshot : Taken) (blocks : List (List ℕ)) (rows : Rows) : Type 0 where
  pub rows_are : rows.rows.items ≡ rows_in reading snapshot (numbered 0 blocks)
  pub unread_are : rows.unread.items ≡ unread_in (numbered 0 blocks)
  pub unknown_is : rows.unknown ≡ min (count_by (λ item. is_unknown (item_seen reading snapshot item)) (items_in (numbered 0 blocks))) (2 ^ 64 - 1)
