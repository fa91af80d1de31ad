-- The fields of a tuple: where the field of a column begins, and what stands there.
use Rattle.std.specs.Prelude.{ℕ, zero, suc, ℤ, pos, negsuc, ◌+◌, ◌*◌, ◌/◌, ◌%◌, ◌^◌, ◌==◌, ◌&&◌, not, nat_lt, nat_le, Bool, true, false, if◌then◌else◌, List, length, drop, slice_index, slice_index_or, Result, Ok, Err}
use Rattle.std.specs.List.{slice_range}
use Rattle.heap_tuple.specs.declared.error.TupleError.{TupleError}
use Rattle.heap_tuple.specs.declared.error.TupleError.TheVariants.{Short, BadLength}
use Rattle.heap_tuple.specs.declared.header.Header.{Header}
use Rattle.heap_tuple.specs.declared.shape.Shape.{Shape}
use Rattle.heap_tuple.specs.declared.shape.Align.{Align}
use Rattle.heap_tuple.specs.declared.shape.Align.TheVariants.{C, S, I, D}
use Rattle.heap_tuple.specs.declared.field.ToastPointer.{ToastPointer}
use Rattle.heap_tuple.specs.declared.layout.TheConstants.{HEADER_SIZE, HASNULL, POINTER_HEADER, POINTER_TAG, POINTER_SIZE, LONG_HEADER_SIZE, COMPRESSED_HEADER_SIZE}
use Rattle.heap_tuple.specs.Numbers.{u32_at}
use Rattle.heap_tuple.specs.Header.{header_of, header_fields, has}
use Rattle.heap_tuple.specs.Field.{FieldValue, null, missing, bytes, compressed, pointer}

-- ---- where a field begins

-- the bytes of an alignment
abbrev pub align_bytes : Align → ℕ
align_bytes C = 1
align_bytes S = 2
align_bytes I = 4
align_bytes D = 8

-- the least multiple of the alignment's bytes that isn't below the place
abbrev pub raised : ℕ → Align → ℕ
raised place C = place
raised place S = (place + 1) / 2 * 2
raised place I = (place + 3) / 4 * 4
raised place D = (place + 7) / 8 * 8

-- whether a field says its own length: each length that isn't negative is fixed
abbrev pub is_varlena : ℤ → Bool
is_varlena (pos n) = false
is_varlena (negsuc n) = true

-- where the field of such a column begins, if the field before it ends at `place`: a varlena whose header
-- is short isn't aligned, and padding is of zeros, so a byte that isn't zero is such a header or an aligned one
abbrev pub start_of : List ℕ → Shape → ℕ → ℕ
start_of area shape place =
    if is_varlena shape.length && not (slice_index area place == 0) then place else raised place shape.align

-- ---- the field that stands there, and the place behind it

-- a field that ends there, unless that is past the end of the data
abbrev pub ending : List ℕ → ℕ → FieldValue → Result (FieldValue × ℕ) TupleError
ending area end value = if nat_lt (length area) end then Err Short else Ok (value, end)

-- a field of so many bytes
abbrev pub fixed_field : List ℕ → ℕ → ℕ → Result (FieldValue × ℕ) TupleError
fixed_field area len start =
    ending area (start + len) (bytes (slice_range area start (start + len)))

-- the TOAST pointer behind its header of two bytes
abbrev pub pointer_at : List ℕ → ℕ → ToastPointer
pointer_at area start =
    record {
      rawsize = u32_at area (start + 2);
      size = u32_at area (start + 6) % 2 ^ 30;
      method = u32_at area (start + 6) / 2 ^ 30;
      value = u32_at area (start + 10);
      relation = u32_at area (start + 14);
    }

abbrev pub pointer_field : List ℕ → ℕ → Result (FieldValue × ℕ) TupleError
pointer_field area start =
    if nat_lt (length area) (start + 2) then Err Short
    else (if slice_index area (start + 1) == POINTER_TAG then ending area (start + POINTER_SIZE) (pointer (pointer_at area start)) else Err BadLength)

-- a header of one byte, whose upper seven bits are the length with the header
abbrev pub short_field : List ℕ → ℕ → Result (FieldValue × ℕ) TupleError
short_field area start =
    let end = start + slice_index area start / 2 in ending area end (bytes (slice_range area (start + 1) end))

-- a header of four bytes, whose upper thirty bits are the length with the header
abbrev pub long_field : (List ℕ → FieldValue) → ℕ → List ℕ → ℕ → Result (FieldValue × ℕ) TupleError
long_field value least area start =
    if nat_lt (length area) (start + LONG_HEADER_SIZE) then Err Short
    else (if nat_lt (u32_at area start / 4) least then Err BadLength
    else (let end = start + u32_at area start / 4 in ending area end (value (slice_range area (start + LONG_HEADER_SIZE) end))))

-- a field whose header says its length: the low bits of the first byte tell the kind of header
unfoldable pub varlena_field : List ℕ → ℕ → Result (FieldValue × ℕ) TupleError
varlena_field area start =
    if nat_le (length area) start then Err Short
    else (if slice_index area start == POINTER_HEADER then pointer_field area start
    else (if slice_index area start % 2 == 1 then short_field area start
    else (if slice_index area start % 4 == 0 then long_field bytes LONG_HEADER_SIZE area start
    else long_field compressed COMPRESSED_HEADER_SIZE area start)))

abbrev pub field_of_length : List ℕ → ℤ → ℕ → Result (FieldValue × ℕ) TupleError
field_of_length area (pos n) start = fixed_field area n start
field_of_length area (negsuc n) start = varlena_field area start

-- the field of such a column, if the field before it ends at `place`
unfoldable pub field_in : List ℕ → Shape → ℕ → Result (FieldValue × ℕ) TupleError
field_in area shape place = field_of_length area shape.length (start_of area shape place)

-- ---- the columns of a tuple

-- the bytes from the offset in the header on, where places and alignments count from
abbrev pub data_of : List ℕ → List ℕ
data_of tuple = drop (header_fields tuple).hoff tuple

-- whether the null bitmap says that a column is null: its bit is clear
abbrev pub is_null : List ℕ → ℕ → Bool
is_null tuple n =
    has (header_fields tuple).infomask HASNULL && (slice_index tuple (HEADER_SIZE + n / 8) / 2 ^ (n % 8) % 2 == 0)

-- the shape of a column
abbrev pub shape_at : List Shape → ℕ → Shape
shape_at columns n = slice_index_or columns n (record { length = pos 0; align = C })

-- the field behind a place, if that place is known
abbrev pub field_behind : List ℕ → Shape → Result ℕ TupleError → Result (FieldValue × ℕ) TupleError
field_behind area shape (Ok place) = field_in area shape place
field_behind area shape (Err error) = Err error

abbrev pub place_behind : Result (FieldValue × ℕ) TupleError → Result ℕ TupleError
place_behind (Ok field) = Ok field.1
place_behind (Err error) = Err error

abbrev pub value_of : Result (FieldValue × ℕ) TupleError → Result FieldValue TupleError
value_of (Ok field) = Ok field.0
value_of (Err error) = Err error

-- where the fields of the first n columns end, or why the first of them that can't be read can't be: a null
-- takes no room
unfoldable pub place_before : List ℕ → List Shape → ℕ → Result ℕ TupleError
place_before tuple columns zero = Ok 0
place_before tuple columns (suc n) =
    if is_null tuple n then place_before tuple columns n
    else place_behind (field_behind (data_of tuple) (shape_at columns n) (place_before tuple columns n))

-- the field of a column that the tuple stores and that isn't null, and the place behind it
abbrev pub stored_field : List ℕ → List Shape → ℕ → Result (FieldValue × ℕ) TupleError
stored_field tuple columns n =
    field_behind (data_of tuple) (shape_at columns n) (place_before tuple columns n)

-- the field of a column, if the header can be read
unfoldable pub column_of : List ℕ → List Shape → ℕ → Result FieldValue TupleError
column_of tuple columns n =
    if nat_le (header_fields tuple).attributes n then Ok missing
    else (if is_null tuple n then Ok null else value_of (stored_field tuple columns n))

abbrev pub column_under : Result Header TupleError → Result FieldValue TupleError → Result FieldValue TupleError
column_under (Ok header) column = column
column_under (Err error) column = Err error

-- the field of a column
abbrev pub field_at : List ℕ → List Shape → ℕ → Result FieldValue TupleError
field_at tuple columns n = column_under (header_of tuple) (column_of tuple columns n)
