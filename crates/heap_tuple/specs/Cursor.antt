-- A walk over the columns of a tuple.
use Rattle.std.specs.Prelude.{◌≡◌, ℕ, ◌-◌, ◌≤◌, List, length, map, Result, Ok, IfOk}
use Rattle.std.specs.List.{range_with_len}
use Rattle.heap_tuple.specs.declared.error.TupleError.{TupleError}
use Rattle.heap_tuple.specs.declared.header.Header.{Header}
use Rattle.heap_tuple.specs.declared.shape.Shape.{Shape}
use Rattle.heap_tuple.specs.Header.{header_of}
use Rattle.heap_tuple.specs.Field.{FieldValue}
use Rattle.heap_tuple.specs.Column.{data_of, field_at, place_before}

-- a place in the data of a tuple, or why there is none
abbrev pub IsPlace : List ℕ → Result ℕ TupleError → Type 0
IsPlace tuple place = IfOk place (λ p. p ≤ length (data_of tuple))

-- the fields of the columns from one on
abbrev pub fields_from : List ℕ → List Shape → ℕ → List (Result FieldValue TupleError)
fields_from tuple columns n = map (field_at tuple columns) (range_with_len n (length columns - n))

-- the fields of all columns, in order
abbrev pub fields_of : List ℕ → List Shape → List (Result FieldValue TupleError)
fields_of tuple columns = fields_from tuple columns 0

-- the walk stands at a column, or behind the last, and knows where the fields before it end
pub record IsCursor (tuple : List ℕ) (columns : List Shape) (header : Header) (n : ℕ) (place : Result ℕ TupleError) : Type 0 where
  pub has_header : header_of tuple ≡ Ok header
  pub within : n ≤ length columns
  pub stands : n ≤ header.attributes → place ≡ place_before tuple columns n
  pub inside : IsPlace tuple place
