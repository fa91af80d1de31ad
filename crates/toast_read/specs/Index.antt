-- Chunks by the values that they are of.
use Rattle.std.specs.Prelude.{◌≡◌, ℕ, List, [], Result}
use Rattle.std.specs.Option.{unwrap_or}
use Rattle.std.specs.Coded.{Coded, coded_ℕ, coded_list}
use Rattle.std.specs.Ordering.{nat_cmp}
use Rattle.std.specs.FinMap as map
use Rattle.toast_read.specs.declared.chunk.Chunk.{Chunk}
use Rattle.toast_read.specs.contracts.chunk.Chunk as chunk
use Rattle.toast_read.specs.declared.error.ToastError.{ToastError}
use Rattle.heap_tuple.specs.declared.field.ToastPointer.{ToastPointer}
use Rattle.toast_read.specs.Chunks.{chunks_of, joined_of_size}

abbrev pub index_code : Coded (map.FinMap nat_cmp (List Chunk))
index_code = map.code coded_ℕ (coded_list chunk.the_row.coded)

-- the chunks of a value; a value without any isn't there
abbrev pub chunks_at : map.FinMap nat_cmp (List Chunk) → ℕ → List Chunk
chunks_at index value = unwrap_or (map.get index value) []

-- for each value the index has its chunks among these
abbrev pub IsIndexOf : map.FinMap nat_cmp (List Chunk) → List Chunk → Type 0
IsIndexOf index chunks = (value : ℕ) → chunks_at index value ≡ chunks_of value chunks

-- what a pointer leads to among the chunks of an index
abbrev pub fetched_from : map.FinMap nat_cmp (List Chunk) → ToastPointer → Result (List ℕ) ToastError
fetched_from index pointer = joined_of_size pointer.size (chunks_at index pointer.value)
