-- Where the field of a column lies among the bytes of its tuple.
use Rattle.std.specs.Prelude.{◌≡◌, ℕ, ◌+◌, ◌≤◌, List, length, Result, Ok, Err}
use Rattle.std.specs.List.{slice_range}
use Rattle.heap_tuple.specs.declared.error.TupleError.{TupleError}
use Rattle.heap_tuple.specs.declared.shape.Shape.{Shape}
use Rattle.heap_tuple.specs.declared.layout.TheConstants.{POINTER_SIZE}
use Rattle.heap_tuple.specs.Field.{FieldValue, null, missing, bytes, compressed, pointer}
use Rattle.heap_tuple.specs.Column.{data_of, place_before, shape_at, start_of}

abbrev pub start_behind : List ℕ → Shape → Result ℕ TupleError → Result ℕ TupleError
start_behind area shape (Ok place) = Ok (start_of area shape place)
start_behind area shape (Err error) = Err error

-- where the field of a stored column begins, if that is known
abbrev pub field_start : List ℕ → List Shape → ℕ → Result ℕ TupleError
field_start tuple columns n =
    start_behind (data_of tuple) (shape_at columns n) (place_before tuple columns n)

-- the value of a field is what stands between its header, if it has one, and its end
abbrev pub IsPartOf : List ℕ → ℕ → ℕ → FieldValue → Type 0
IsPartOf area start end null = ⊥
IsPartOf area start end missing = ⊥
IsPartOf area start end (bytes part) =
    (from : ℕ) × (start ≤ from) × (from ≤ end) × (part ≡ slice_range area from end)
IsPartOf area start end (compressed part) =
    (from : ℕ) × (start ≤ from) × (from ≤ end) × (part ≡ slice_range area from end)
IsPartOf area start end (pointer to) = end ≡ start + POINTER_SIZE

-- a field that stands in the data: its value is part of the bytes from its start to its end
pub record LiesIn (area : List ℕ) (start : ℕ) (field : FieldValue × ℕ) : Type 0 where
  pub part : IsPartOf area start field.1 field.0
  pub in_order : start ≤ field.1
  pub within : field.1 ≤ length area
