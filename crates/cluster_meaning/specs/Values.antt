-- The values of a tuple.
use Rattle.std.specs.Prelude.{ℕ, nat_eq, Bool, false, ◌==◌, if◌then◌else◌, List, [], length, Option, Some, None, Result, Ok, Err}
use Rattle.std.specs.List.{find, filter_map, range_with_len, slice_get}
use Rattle.heap_tuple.specs.declared.error.TupleError.{TupleError}
use Rattle.heap_tuple.specs.declared.shape.Shape.{Shape}
use Rattle.heap_tuple.specs.declared.field.ToastPointer.{ToastPointer}
use Rattle.heap_tuple.specs.Numbers.{u32_at}
use Rattle.heap_tuple.specs.Field.{FieldValue, null, missing, bytes, compressed, pointer}
use Rattle.heap_tuple.specs.Column.{field_at}
use Rattle.heap_tuple.specs.Written.{pointer_bytes}
use Rattle.catalog.specs.declared.enums.Label.{Label}
use Rattle.catalog.specs.declared.enums.EnumType.{EnumType}
use Rattle.catalog.specs.declared.types.ColumnKind.{ColumnKind}
use Rattle.catalog.specs.declared.types.ColumnKind.TheVariants.{Base, Enum, Dropped}
use Rattle.catalog.specs.declared.relations.Column.{Column}
use Rattle.catalog.specs.Spaces.{enum_has}
use Rattle.toast_read.specs.declared.error.ToastError.{ToastError}
use Rattle.cluster_meaning.specs.declared.value.Value.{Value}
use Rattle.cluster_meaning.specs.declared.value.Value.TheVariants.{Null, Bytes, Compressed, Label as LabelText, Broken}

-- what tells the values of a table's tuples: its columns with their shapes, the enums of its database, the OID of its
-- toast table, and what a pointer leads to there
pub record ValueSource : Type 0 where
  pub columns : List Column
  pub shapes : List Shape
  pub enums : List EnumType
  pub toast : Option ℕ
  pub fetch : ToastPointer → Result (List ℕ) ToastError

-- the value of the rows that were written before the column was added
abbrev pub missing_value : Option (List ℕ) → Value
missing_value None = Null
missing_value (Some part) = Bytes part

-- ---- enums

abbrev pub label_has : ℕ → Label → Bool
label_has oid label = nat_eq label.oid oid

abbrev pub labels_in : Option EnumType → List Label
labels_in None = []
labels_in (Some kind) = kind.labels

abbrev pub label_value : List ℕ → Option Label → Value
label_value part None = Broken part
label_value part (Some label) = LabelText label.text

-- the label whose OID the field has, among those of the enum
abbrev pub enum_value : List EnumType → ℕ → List ℕ → Value
enum_value enums kind part = label_value part (find (label_has (u32_at part 0)) (labels_in (find (enum_has kind) enums)))

-- what the bytes of a field stand for
abbrev pub plain_value : List EnumType → ColumnKind → List ℕ → Value
plain_value enums (Base base) part = Bytes part
plain_value enums (Enum kind) part = enum_value enums kind part
plain_value enums (Dropped length align) part = Bytes part

-- ---- values that are stored out of line

abbrev pub fetched_value : List ℕ → Result (List ℕ) ToastError → Value
fetched_value raw (Ok value) = Bytes value
fetched_value raw (Err error) = Broken raw

abbrev pub leads_to : Option ℕ → ToastPointer → Bool
leads_to None to = false
leads_to (Some toast) to = to.relation == toast

-- what a pointer leads to; one that leads nowhere is kept as its bytes
abbrev pub pointer_value : ValueSource → ToastPointer → Value
pointer_value source to = if leads_to source.toast to then fetched_value (pointer_bytes to) (source.fetch to) else Broken (pointer_bytes to)

-- ---- columns

abbrev pub field_value : ValueSource → List ℕ → Column → Result FieldValue TupleError → Value
field_value source tuple column (Ok null) = Null
field_value source tuple column (Ok missing) = missing_value column.missing
field_value source tuple column (Ok (bytes part)) = plain_value source.enums column.kind part
field_value source tuple column (Ok (compressed part)) = Compressed part
field_value source tuple column (Ok (pointer to)) = pointer_value source to
field_value source tuple column (Err error) = Broken tuple

abbrev pub unless_dropped : ColumnKind → Value → Option Value
unless_dropped (Base base) value = Some value
unless_dropped (Enum kind) value = Some value
unless_dropped (Dropped length align) value = None

-- the value of a column of which this was read, if it wasn't dropped
abbrev pub column_read : ValueSource → List ℕ → Result FieldValue TupleError → Option Column → Option Value
column_read source tuple field None = None
column_read source tuple field (Some column) = unless_dropped column.kind (field_value source tuple column field)

-- the value of the n-th column, if it wasn't dropped
abbrev pub column_value : ValueSource → List ℕ → ℕ → Option Value
column_value source tuple n = column_read source tuple (field_at tuple source.shapes n) (slice_get source.columns n)

-- the values of a tuple, one for each column that wasn't dropped
unfoldable pub values_of : ValueSource → List ℕ → List Value
values_of source tuple = filter_map (column_value source tuple) (range_with_len 0 (length source.columns))
