-- The fields of a tuple stand one after the other within its data.
use Rattle.std.proofs.Common.{◌≡◌, ℕ, zero, suc, ℤ, pos, negsuc, ◌+◌, ◌-◌, ◌/◌, ◌%◌, ◌<◌, ◌≤◌, Bool, true, false, cond, eqb, ltb, leb, not, ◌&&◌, List, length, slice_index, Result, Ok, Err, refl, subst, inl, inr, ◌⊎◌, add-zero, arith}
use Rattle.std.specs.List.{slice_range}
use Rattle.std.proofs.lemmas.Bool.{ltb-false}
use Rattle.std.proofs.lemmas.Bool.Decides.{nat_tests}
use Rattle.heap_tuple.specs.declared.error.TupleError.{TupleError}
use Rattle.heap_tuple.specs.declared.error.TupleError.TheVariants.{Short, BadLength}
use Rattle.heap_tuple.specs.declared.shape.Align.{Align}
use Rattle.heap_tuple.specs.declared.shape.Align.TheVariants.{C, S, I, D}
use Rattle.heap_tuple.specs.declared.shape.Shape.{Shape}
use Rattle.heap_tuple.specs.Numbers.{u32_at}
use Rattle.heap_tuple.specs.Field.{FieldValue, bytes, compressed, pointer}
use Rattle.heap_tuple.specs.Column.{align_bytes, data_of, ending, field_behind, field_in, field_of_length, fixed_field, is_null, is_varlena, long_field, place_before, place_behind, pointer_at, pointer_field, raised, shape_at, short_field, start_of, stored_field, varlena_field}
use Rattle.heap_tuple.specs.Extent.{IsPartOf, LiesIn, field_start, start_behind}
use Rattle.heap_tuple.proofs.PlaceLemmas.{place_before-null, place_before-stored}

bool_cases : (test : Bool) → (test ≡ true) ⊎ (test ≡ false)
bool_cases true = inl refl
bool_cases false = inr refl

-- ---- alignment

pub raised-mod : (place : ℕ) (align : Align) → raised place align % align_bytes align ≡ 0
raised-mod place C = omega arith
raised-mod place S = omega arith
raised-mod place I = omega arith
raised-mod place D = omega arith

pub le-raised : (place : ℕ) (align : Align) → place ≤ raised place align
le-raised place C = omega arith
le-raised place S = omega arith
le-raised place I = omega arith
le-raised place D = omega arith

pub raised-lt : (place : ℕ) (align : Align) → raised place align < place + align_bytes align
raised-lt place C = omega arith
raised-lt place S = omega arith
raised-lt place I = omega arith
raised-lt place D = omega arith

either : (test : Bool) (place other : ℕ) → place ≤ other → place ≤ cond test place other
either true place other h = omega arith
either false place other h = h

-- a field begins behind the one before it
le-start_of : (area : List ℕ) (shape : Shape) (place : ℕ) → place ≤ start_of area shape place
le-start_of area shape place =
    either (is_varlena shape.length && not (eqb (slice_index area place) 0)) place (raised place shape.align) (le-raised place shape.align)

-- ---- one field

-- a test that was passed, from the answer behind it
passed : {T : Type 0} (test : Bool) (error : TupleError) (rest : Result T TupleError) (x : T) → cond test (Err error) rest ≡ Ok x → (test ≡ false) × (rest ≡ Ok x)
passed true error rest x h = cc
passed false error rest x h = (refl, h)

chosen : {T : Type 0} (test : Bool) (a b : Result T TupleError) (x : T) → cond test a b ≡ Ok x → ((test ≡ true) × (a ≡ Ok x)) ⊎ ((test ≡ false) × (b ≡ Ok x))
chosen true a b x h = inl (refl, h)
chosen false a b x h = inr (refl, h)

same_ok : {T : Type 0} (x y : T) (r : Result T TupleError) → r ≡ Ok x → r ≡ Ok y → x ≡ y
same_ok x y r h k = cc

abbrev pair : FieldValue → ℕ → FieldValue × ℕ
pair value end = (value, end)

err_is_not_ok : {T : Type 0} (error : TupleError) (x : T) → (let r : Result T TupleError = Err error in r) ≡ Ok x → ⊥
err_is_not_ok error x h = cc

at_least_two : (first : ℕ) → eqb first 1 ≡ false → eqb (first % 2) 1 ≡ true → 2 ≤ first
at_least_two first not_one odd = grind (arith, nat_tests)

lies : (area : List ℕ) (start end : ℕ) (value : FieldValue) (field : FieldValue × ℕ) → start ≤ end → IsPartOf area start end value → ending area end value ≡ Ok field → LiesIn area start field
lies area start end value field order part h =
    let done = passed (ltb (length area) end) Short (Ok (pair value end)) field h in
    let within : end ≤ length area = ltb-false (length area) end done.0 in
    let same : pair value end ≡ field = same_ok (pair value end) field (Ok (pair value end)) refl done.1 in
    subst (LiesIn area start) same (record { part = part; in_order = order; within = within })

fixed_lies : (area : List ℕ) (n start : ℕ) (field : FieldValue × ℕ) → fixed_field area n start ≡ Ok field → LiesIn area start field
fixed_lies area n start field h =
    lies area start (start + n) (bytes (slice_range area start (start + n))) field (omega arith) (start, omega arith, omega arith, refl) h

pointer_lies : (area : List ℕ) (start : ℕ) (field : FieldValue × ℕ) → pointer_field area start ≡ Ok field → LiesIn area start field
pointer_lies area start field h =
    let there = passed (ltb (length area) (start + 2)) Short (cond (eqb (slice_index area (start + 1)) 18) (ending area (start + 18) (pointer (pointer_at area start))) (Err BadLength)) field h in
    elim (chosen (eqb (slice_index area (start + 1)) 18) (ending area (start + 18) (pointer (pointer_at area start))) (Err BadLength) field there.1) [
      | inl tagged ↦
          lies area start (start + 18) (pointer (pointer_at area start)) field (omega arith) refl tagged.1
      | inr other ↦ absurd (err_is_not_ok BadLength field other.1)
    ]

short_lies : (area : List ℕ) (start : ℕ) (field : FieldValue × ℕ) → 2 ≤ slice_index area start → short_field area start ≡ Ok field → LiesIn area start field
short_lies area start field long h =
    let end : ℕ = start + slice_index area start / 2 in
    lies area start (start + slice_index area start / 2) (bytes (slice_range area (start + 1) (start + slice_index area start / 2))) field (omega arith) (start + 1, omega arith, omega arith, refl) h

long_lies : (value : List ℕ → FieldValue) (least : ℕ) (area : List ℕ) (start : ℕ) (field : FieldValue × ℕ) → 4 ≤ least → ((start end from : ℕ) → start ≤ from → from ≤ end → IsPartOf area start end (value (slice_range area from end))) → long_field value least area start ≡ Ok field → LiesIn area start field
long_lies value least area start field four part h =
    let size = u32_at area start / 4 in
    let end = start + size in
    let there = passed (ltb (length area) (start + 4)) Short (cond (ltb size least) (Err BadLength) (ending area end (value (slice_range area (start + 4) end)))) field h in
    let enough = passed (ltb size least) BadLength (ending area end (value (slice_range area (start + 4) end))) field there.1 in
    let room : least ≤ size = ltb-false size least enough.0 in
    lies area start end (value (slice_range area (start + 4) end)) field (omega arith) (part start end (start + 4) (omega arith) (omega arith)) enough.1

varlena_lies : (area : List ℕ) (start : ℕ) (field : FieldValue × ℕ) → varlena_field area start ≡ Ok field → LiesIn area start field
unfolding varlena_field
varlena_lies area start field h =
    let first = slice_index area start in
    let compressed_one = long_field compressed 8 area start in
    let plain = cond (eqb (first % 4) 0) (long_field bytes 4 area start) compressed_one in
    let short = cond (eqb (first % 2) 1) (short_field area start) plain in
    let there = passed (leb (length area) start) Short (cond (eqb first 1) (pointer_field area start) short) field h in
    elim (chosen (eqb first 1) (pointer_field area start) short field there.1) [
      | inl external ↦ pointer_lies area start field external.1
      | inr inside ↦
          elim (chosen (eqb (first % 2) 1) (short_field area start) plain field inside.1) [
            | inl odd ↦
                short_lies area start field (at_least_two (slice_index area start) inside.0 odd.0) odd.1
            | inr even ↦
                elim (chosen (eqb (first % 4) 0) (long_field bytes 4 area start) compressed_one field even.1) [
                  | inl whole ↦
                      long_lies bytes 4 area start field (omega arith) (λ a b from low high. (from, low, high, refl)) whole.1
                  | inr packed ↦
                      long_lies compressed 8 area start field (omega arith) (λ a b from low high. (from, low, high, refl)) packed.1
                ]
          ]
    ]

length_lies : (area : List ℕ) (size : ℤ) (start : ℕ) (field : FieldValue × ℕ) → field_of_length area size start ≡ Ok field → LiesIn area start field
length_lies area (pos n) start field h = fixed_lies area n start field h
length_lies area (negsuc n) start field h = varlena_lies area start field h

field_lies : (area : List ℕ) (shape : Shape) (place : ℕ) (field : FieldValue × ℕ) → field_in area shape place ≡ Ok field → LiesIn area (start_of area shape place) field
unfolding field_in
field_lies area shape place field h = length_lies area shape.length (start_of area shape place) field h

-- ---- all fields

behind_lies : (area : List ℕ) (shape : Shape) (place : Result ℕ TupleError) (start : ℕ) (field : FieldValue × ℕ) → start_behind area shape place ≡ Ok start → field_behind area shape place ≡ Ok field → LiesIn area start field
behind_lies area shape (Ok place) start field begins found =
    subst (λ (s : ℕ). LiesIn area s field) (same_ok (start_of area shape place) start (Ok (start_of area shape place)) refl begins) (field_lies area shape place field found)
behind_lies area shape (Err error) start field begins found = absurd (err_is_not_ok error start begins)

pub stored_lies : (tuple : List ℕ) (columns : List Shape) (n start : ℕ) (field : FieldValue × ℕ) → field_start tuple columns n ≡ Ok start → stored_field tuple columns n ≡ Ok field → LiesIn (data_of tuple) start field
stored_lies tuple columns n start field begins found =
    behind_lies (data_of tuple) (shape_at columns n) (place_before tuple columns n) start field begins found

-- a place that is known is not below an earlier one
abbrev NotBelow : ℕ → Result ℕ TupleError → Type 0
NotBelow place later = (p : ℕ) → later ≡ Ok p → place ≤ p

known_end : (place : ℕ) (area : List ℕ) (start : ℕ) (found : Result (FieldValue × ℕ) TupleError) → place ≤ start → ((field : FieldValue × ℕ) → found ≡ Ok field → LiesIn area start field) → NotBelow place (place_behind found)
known_end place area start (Ok field) low each p h =
    let end : field.1 ≡ p = same_ok field.1 p (Ok field.1) refl h in
    let order : start ≤ field.1 = (each field refl).in_order in
    omega arith
known_end place area start (Err error) low each p h = absurd (err_is_not_ok error p h)

behind_further : (place : ℕ) (area : List ℕ) (shape : Shape) (before : Result ℕ TupleError) → NotBelow place before → NotBelow place (place_behind (field_behind area shape before))
behind_further place area shape (Ok p) known =
    let low : place ≤ p = known p refl in
    let begins : p ≤ start_of area shape p = le-start_of area shape p in
    known_end place area (start_of area shape p) (field_in area shape p) (omega arith) (λ field h. field_lies area shape p field h)
behind_further place area shape (Err error) known = λ p h. absurd (err_is_not_ok error p h)

next_further : (place : ℕ) (tuple : List ℕ) (columns : List Shape) (n : ℕ) → NotBelow place (place_before tuple columns n) → NotBelow place (place_before tuple columns (n + 1))
next_further place tuple columns n known =
    elim (bool_cases (is_null tuple n)) [
      | inl empty ↦ rw (place_before-null tuple columns n empty) known
      | inr there ↦
          rw (place_before-stored tuple columns n there) (behind_further place (data_of tuple) (shape_at columns n) (place_before tuple columns n) known)
    ]

all_further : (place : ℕ) (tuple : List ℕ) (columns : List Shape) (n k : ℕ) → NotBelow place (place_before tuple columns n) → NotBelow place (place_before tuple columns (n + k))
all_further place tuple columns n zero known = rw (add-zero n) known
all_further place tuple columns n (suc k) known =
    let next : n + suc k ≡ n + k + 1 = omega arith in
    rw next (next_further place tuple columns (n + k) (all_further place tuple columns n k known))

start_further : (place : ℕ) (area : List ℕ) (shape : Shape) (before : Result ℕ TupleError) (start : ℕ) → NotBelow place before → start_behind area shape before ≡ Ok start → place ≤ start
start_further place area shape (Ok p) start known begins =
    let same : start_of area shape p ≡ start = same_ok (start_of area shape p) start (Ok (start_of area shape p)) refl begins in
    let low : place ≤ p = known p refl in
    let above : p ≤ start_of area shape p = le-start_of area shape p in
    omega arith
start_further place area shape (Err error) start known begins = absurd (err_is_not_ok error start begins)

after_field : (field : FieldValue × ℕ) (found : Result (FieldValue × ℕ) TupleError) → found ≡ Ok field → NotBelow field.1 (place_behind found)
after_field field found h = rw h (λ p e. let same : field.1 ≡ p = same_ok field.1 p (Ok field.1) refl e in omega arith)

pub stored_apart : (tuple : List ℕ) (columns : List Shape) (n later start : ℕ) (field : FieldValue × ℕ) → n < later → is_null tuple n ≡ false → stored_field tuple columns n ≡ Ok field → field_start tuple columns later ≡ Ok start → field.1 ≤ start
stored_apart tuple columns n later start field before there found begins =
    let next : NotBelow field.1 (place_before tuple columns (n + 1)) = rw (place_before-stored tuple columns n there) (after_field field (stored_field tuple columns n) found) in
    let apart : n + 1 + (later - (n + 1)) ≡ later = omega arith in
    let known : NotBelow field.1 (place_before tuple columns later) = rw (← apart) (all_further field.1 tuple columns (n + 1) (later - (n + 1)) next) in
    start_further field.1 (data_of tuple) (shape_at columns later) (place_before tuple columns later) start known begins
