-- Steps of the walks over the columns of a tuple.
use Rattle.std.proofs.Common.{◌≡◌, ℕ, suc, ◌+◌, ◌-◌, ◌<◌, List, [], ◌∷◌, ◌++◌, length, map, Result, Option, Some, None, append_assoc, filter_map, ap, sym, ◌∙◌, arith}
use Rattle.std.specs.List.{range_with_len, cons_option}
use Rattle.heap_tuple.specs.declared.error.TupleError.{TupleError}
use Rattle.heap_tuple.specs.declared.shape.Shape.{Shape}
use Rattle.heap_tuple.specs.Field.{FieldValue}
use Rattle.heap_tuple.specs.Cursor.{fields_from}
use Rattle.heap_tuple.specs.Column.{field_at}
use Rattle.visibility.specs.declared.seen.Seen.{Seen}
use Rattle.block_rows.specs.Rows.{counted, counted_all}

range_first : (n end : ℕ) → n < end → range_with_len n (end - n) ≡ n ∷ range_with_len (n + 1) (end - (n + 1))
range_first n end lt =
    let more : end - n ≡ suc (end - (n + 1)) = omega arith in
    ap (range_with_len n) more

pub fields_next : (tuple : List ℕ) (shapes : List Shape) (n : ℕ) → n < length shapes → fields_from tuple shapes n ≡ field_at tuple shapes n ∷ fields_from tuple shapes (n + 1)
fields_next tuple shapes n lt = ap (map (field_at tuple shapes)) (range_first n (length shapes) lt)

pub next_of : (tuple : List ℕ) (shapes : List Shape) (n : ℕ) (left rest : List (Result FieldValue TupleError)) (field : Result FieldValue TupleError) → n < length shapes → left ≡ fields_from tuple shapes n → left ≡ field ∷ rest
    → (field ≡ field_at tuple shapes n) × (rest ≡ fields_from tuple shapes (n + 1))
next_of tuple shapes n left rest field lt is first =
    let both : field ∷ rest ≡ field_at tuple shapes n ∷ fields_from tuple shapes (n + 1) = sym first ∙ is ∙ fields_next tuple shapes n lt in
    (cc both, cc both)

-- one more of a filtered range
pub filtered_next : {X : Type 0} (value : ℕ → Option X) (n end : ℕ) → n < end
    → filter_map value (range_with_len n (end - n)) ≡ cons_option (value n) (filter_map value (range_with_len (n + 1) (end - (n + 1))))
filtered_next value n end lt = ap (filter_map value) (range_first n end lt)

pub put_first : {X : Type 0} (before : List X) (o : Option X) (rest : List X) → (before ++ cons_option o []) ++ rest ≡ before ++ cons_option o rest
put_first before None rest = append_assoc before [] rest
put_first before (Some x) rest = append_assoc before (x ∷ []) rest

-- one more of a filtered list
pub rows_more : {A X : Type 0} (row : A → Option X) (old new before : List X) (x : A) (left rest : List A) → left ≡ x ∷ rest → new ≡ old ++ cons_option (row x) []
    → old ++ filter_map row left ≡ before → new ++ filter_map row rest ≡ before
rows_more row old new before x left rest first is so_far =
    ap (λ n. n ++ filter_map row rest) is ∙ put_first old (row x) (filter_map row rest) ∙ ap (λ l. old ++ filter_map row l) (sym first) ∙ so_far

-- one more that is counted
pub count_more : (seen : ℕ × List ℕ → Seen) (old new before : ℕ) (x : ℕ × List ℕ) (left rest : List (ℕ × List ℕ)) → left ≡ x ∷ rest → new ≡ counted (seen x) old
    → counted_all seen left old ≡ before → counted_all seen rest new ≡ before
count_more seen old new before x left rest first is so_far =
    ap (counted_all seen rest) is ∙ ap (λ l. counted_all seen l old) (sym first) ∙ so_far

-- the value of one more column
pub values_more : {X : Type 0} (value : ℕ → Option X) (n end : ℕ) (old new all : List X) (got : Option X) → n < end → new ≡ old ++ cons_option got [] → got ≡ value n
    → old ++ filter_map value (range_with_len n (end - n)) ≡ all → new ++ filter_map value (range_with_len (n + 1) (end - (n + 1))) ≡ all
values_more {X} value n end old new all got lt is got_is so_far =
    let rest : List X = filter_map value (range_with_len (n + 1) (end - (n + 1))) in
    ap (λ m. m ++ rest) is ∙ ap (λ o. (old ++ cons_option o []) ++ rest) got_is ∙ put_first old (value n) rest
    ∙ ap (λ l. old ++ l) (sym (filtered_next value n end lt)) ∙ so_far
