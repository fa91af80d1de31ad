-- What a `Field` says, whatever the place of its bytes in memory.
use Rattle.std.specs.Prelude.{ℕ, List, Result, Ok, Err}
use Rattle.heap_tuple.specs.declared.error.TupleError.{TupleError}
use Rattle.heap_tuple.specs.declared.field.ToastPointer.{ToastPointer}
use Rattle.heap_tuple.specs.declared.field.Field.{Field}
use Rattle.heap_tuple.specs.declared.field.Field.TheVariants.{Null, Missing, Bytes, Compressed, Pointer}

pub data FieldValue : Type 0 where
  null : FieldValue
  missing : FieldValue
  bytes : List ℕ → FieldValue
  compressed : List ℕ → FieldValue
  pointer : ToastPointer → FieldValue

abbrev pub field_value : Field → FieldValue
field_value Null = null
field_value Missing = missing
field_value (Bytes part) = bytes part.now
field_value (Compressed part) = compressed part.now
field_value (Pointer to) = pointer to

-- the same of an answer
abbrev pub answer_value : Result Field TupleError → Result FieldValue TupleError
answer_value (Ok field) = Ok (field_value field)
answer_value (Err error) = Err error
