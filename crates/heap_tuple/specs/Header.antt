-- The header of a tuple, in front of its null bitmap and its data.
use Rattle.std.specs.Prelude.{◌≢◌, ◌≤◌, ℕ, ◌+◌, ◌*◌, ◌/◌, ◌%◌, ◌^◌, ◌==◌, ◌||◌, ◌&&◌, not, nat_lt, bit_and, Bool, if◌then◌else◌, List, length, slice_index, Result, Ok, Err}
use Rattle.heap_tuple.specs.declared.error.TupleError.{TupleError}
use Rattle.heap_tuple.specs.declared.error.TupleError.TheVariants.{Short, BadOffset}
use Rattle.heap_tuple.specs.declared.header.Header.{Header}
use Rattle.heap_tuple.specs.declared.layout.TheConstants.{HEADER_SIZE, XMIN_AT, XMAX_AT, CID_AT, CTID_BLOCK_AT, CTID_LINE_AT, INFOMASK2_AT, INFOMASK_AT, HOFF_AT, HASNULL}
use Rattle.heap_tuple.specs.Numbers.{u16_at, u32_at}

-- how many attributes a tuple stores: the low 11 bits
abbrev pub attributes_of : ℕ → ℕ
attributes_of infomask2 = infomask2 % 2 ^ 11

-- the fields of a header, each at its place
abbrev pub header_fields : List ℕ → Header
header_fields tuple =
    record {
      xmin = u32_at tuple XMIN_AT;
      xmax = u32_at tuple XMAX_AT;
      cid = u32_at tuple CID_AT;
      block = u16_at tuple CTID_BLOCK_AT * 2 ^ 16 + u16_at tuple (CTID_BLOCK_AT + 2);
      line = u16_at tuple CTID_LINE_AT;
      attributes = attributes_of (u16_at tuple INFOMASK2_AT);
      infomask = u16_at tuple INFOMASK_AT;
      infomask2 = u16_at tuple INFOMASK2_AT;
      hoff = slice_index tuple HOFF_AT;
    }

-- whether an infomask has a bit, as HASNULL
abbrev pub has : ℕ → ℕ → Bool
has infomask bit = not (bit_and infomask bit == 0)

-- how many bytes the null bitmap of so many attributes has
abbrev pub bitmap_bytes : ℕ → ℕ
bitmap_bytes attributes = (attributes + 7) / 8

-- whether the data begins within the header, within its null bitmap, or past the tuple's end
abbrev pub is_bad_offset : ℕ → Header → Bool
is_bad_offset size header =
    nat_lt header.hoff HEADER_SIZE || nat_lt size header.hoff || (has header.infomask HASNULL && nat_lt header.hoff (HEADER_SIZE + bitmap_bytes header.attributes))

-- the header of a tuple, or why it has none
abbrev pub header_of : List ℕ → Result Header TupleError
header_of tuple =
    if nat_lt (length tuple) HEADER_SIZE then Err Short
    else (if is_bad_offset (length tuple) (header_fields tuple) then Err BadOffset else Ok (header_fields tuple))

-- a tuple has a header: its data begin behind the header and its null bitmap, if it has one, and within the tuple
pub record HasHeader (tuple : List ℕ) : Type 0 where
  pub header : HEADER_SIZE ≤ length tuple
  pub behind_header : HEADER_SIZE ≤ (header_fields tuple).hoff
  pub within : (header_fields tuple).hoff ≤ length tuple
  pub behind_bitmap : bit_and (header_fields tuple).infomask HASNULL ≢ 0 → HEADER_SIZE + bitmap_bytes (header_fields tuple).attributes ≤ (header_fields tuple).hoff
