-- One more column of a tuple.
use Rattle.std.proofs.Common.{◌≡◌, ℕ, suc, ◌+◌, ◌-◌, ◌<◌, ◌≤◌, true, false, List, [], ◌∷◌, length, Some, Ok, refl, ap, ◌∙◌, arith}
use Rattle.heap_tuple.specs.declared.shape.Shape.{Shape}
use Rattle.std.specs.Prelude.{map, slice_get}
use Rattle.std.proofs.lemmas.List.FromFn.{length-map-range_with_len, get_or-map-range_with_len}
use Rattle.std.proofs.lemmas.Option.{slice_get-get_or}
use Rattle.std.specs.List.{range_with_len}
use Rattle.heap_tuple.specs.Cursor.{fields_from, fields_of}
use Rattle.heap_tuple.specs.Column.{data_of, field_at, field_behind, is_null, place_before, place_behind, shape_at}

-- a column that isn't null is passed over by its field
pub place_before-stored : (tuple : List ℕ) (columns : List Shape) (n : ℕ) → is_null tuple n ≡ false → place_before tuple columns (n + 1) ≡ place_behind (field_behind (data_of tuple) (shape_at columns n) (place_before tuple columns n))
unfolding place_before
place_before-stored tuple columns n stored =
    let next : n + 1 ≡ suc n = omega arith in rw (next, stored) refl

-- a null takes no room
pub place_before-null : (tuple : List ℕ) (columns : List Shape) (n : ℕ) → is_null tuple n ≡ true → place_before tuple columns (n + 1) ≡ place_before tuple columns n
unfolding place_before
place_before-null tuple columns n missing =
    let next : n + 1 ≡ suc n = omega arith in rw (next, missing) refl

-- nothing stands before the first column
pub place_before-first : (tuple : List ℕ) (columns : List Shape) → place_before tuple columns 0 ≡ Ok 0
unfolding place_before
place_before-first tuple columns = refl

-- the next column comes before the others
pub fields_from-next : (tuple : List ℕ) (columns : List Shape) (n : ℕ) → n < length columns → fields_from tuple columns n ≡ field_at tuple columns n ∷ fields_from tuple columns (n + 1)
fields_from-next tuple columns n h =
    let more : length columns - n ≡ suc (length columns - (n + 1)) = omega arith in
    ap (λ (k : ℕ). map (field_at tuple columns) (range_with_len n k)) more

-- behind the last column there is none
pub fields_from-end : (tuple : List ℕ) (columns : List Shape) (n : ℕ) → length columns ≤ n → fields_from tuple columns n ≡ []
fields_from-end tuple columns n h =
    let none : length columns - n ≡ 0 = omega arith in
    ap (λ (k : ℕ). map (field_at tuple columns) (range_with_len n k)) none

pub ruleset walk_steps = (place_before-first, place_before-null, place_before-stored, fields_from-next, fields_from-end)

-- one answer for each column
pub length-fields_of : (tuple : List ℕ) (columns : List Shape) → length (fields_of tuple columns) ≡ length columns
length-fields_of tuple columns =
    length-map-range_with_len (field_at tuple columns) 0 (length columns - 0) ∙ omega arith

-- each of its own column
pub slice_get-fields_of : (tuple : List ℕ) (columns : List Shape) (n : ℕ) → n < length columns → slice_get (fields_of tuple columns) n ≡ Some (field_at tuple columns n)
slice_get-fields_of tuple columns n h =
    let fields = fields_of tuple columns in
    let here = field_at tuple columns n in
    let within : n < length fields = rw (length-fields_of tuple columns) h in
    slice_get-get_or fields n here within ∙ ap Some (get_or-map-range_with_len (field_at tuple columns) 0 (length columns - 0) n n here (omega arith) (omega arith))

pub ruleset place_steps = (place_before-first, place_before-null, place_before-stored, length-fields_of)
