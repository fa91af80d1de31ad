-- What a `Stored` says: the field, and the place behind it.
use Rattle.std.specs.Prelude.{ℕ, List, Result, Ok, Err}
use Rattle.std.specs.Borrow.{Bor}
use Rattle.heap_tuple.specs.declared.error.TupleError.{TupleError}
use Rattle.heap_tuple.specs.declared.stored.Stored.{Stored}
use Rattle.heap_tuple.specs.Field.{FieldValue, field_value}

abbrev pub stored_value : Result Stored TupleError → Result (FieldValue × ℕ) TupleError
stored_value (Ok stored) = Ok (field_value stored.field, stored.end)
stored_value (Err error) = Err error

-- what follows a long header, as a field of this kind
abbrev pub long_value : (List ℕ → FieldValue) → Result (Bor (List ℕ) × ℕ) TupleError → Result (FieldValue × ℕ) TupleError
long_value value (Ok part) = Ok (value part.0.now, part.1)
long_value value (Err error) = Err error
