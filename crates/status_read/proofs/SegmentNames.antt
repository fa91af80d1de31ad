-- The name of a segment is read back as its number.
use Rattle.std.proofs.Common.{◌≡◌, ◌≢◌, ◌∙◌, ℕ, zero, suc, ◌+◌, ◌-◌, ◌*◌, ◌<◌, ◌≤◌, ◌^◌, Bool, true, false, cond, if◌then◌else◌, List, [], ◌∷◌, ◌++◌, length, drop, replicate, Option, Some, None, Result, Ok, Err, refl, ap, sym, subst, arith, length-append, ne_eqb, lt-ltb, ltb-true}
use Rattle.std.specs.Prelude.{nat_lt, ◌&&◌, bytes_eq}
use Rattle.std.specs.Fmt.{digits, padded_integral, format_spec, char_count}
use Rattle.std.proofs.lemmas.List.{append-nil}
use Rattle.std.specs.Char.{digit_value}
use Rattle.std.specs.Result.{OkIff}
use Rattle.std.specs.Str.Parse.{AllDigits, IsNumeral, digits_value, digits_value_after, ParsesUnsigned, without_leading_plus}
use Rattle.std.proofs.lemmas.Fmt.{digits_is_IsNumeral}
use Rattle.std.proofs.lemmas.Slice.Eq.{bytes_eq-Decides}
use Rattle.cluster_meaning.specs.Status.{segment_name}
use Rattle.status_read.specs.Segments.{segment_number}

-- zeros at the front are digits, and change no number
zeros_numeral : (k : ℕ) (ds : List ℕ) → AllDigits 16 ds → AllDigits 16 (replicate k 48 ++ ds)
zeros_numeral zero ds all = all
zeros_numeral (suc k) ds all = (omega arith, zeros_numeral k ds all)

zeros_value : (k : ℕ) (ds : List ℕ) → digits_value 16 (replicate k 48 ++ ds) ≡ digits_value 16 ds
zeros_value zero ds = refl
zeros_value (suc k) ds = zeros_value k ds

-- a digit is no sign
no_plus : (ds : List ℕ) → AllDigits 16 ds → without_leading_plus ds ≡ ds
no_plus [] all = refl
no_plus (c ∷ ds) all =
    let other : c ≢ 43 = λ e. let digit : digit_value 43 < 16 = subst (λ x. digit_value x < 16) e all.0 in omega (arith, digit) in
    ap (λ t. drop (cond t 1 0) (c ∷ ds)) (ne_eqb c 43 other)

name_numeral : (n : ℕ) → n < 2 ^ 32 → IsNumeral 16 (segment_name n) × (digits_value 16 (segment_name n) ≡ n)
unfolding segment_name
name_numeral n lt =
    let hex : List ℕ = digits 16 true n in
    let told = digits_is_IsNumeral 16 true (omega arith) (omega arith) n (omega (arith, lt)) in
    let k : ℕ = 4 - length hex in
    ((omega (arith, told.0.0, length-append (replicate k 48) hex), zeros_numeral k hex told.0.1), zeros_value k hex ∙ told.1)

-- what `{:04X}` writes
padded_name : (hex : List ℕ) → padded_integral (format_spec 32 0 4 4 (2 ^ 64 - 1)) false [] hex ≡ replicate (4 - length hex) 48 ++ hex
unfolding padded_integral char_count
padded_name hex =
    let short : 4 - length hex - 0 - 0 ≡ 4 - length hex = omega arith in
    ap (λ k. replicate k 48 ++ (hex ++ [])) short ∙ ap (λ l. replicate (4 - length hex) 48 ++ l) (append-nil hex)

pub name_written : (n : ℕ) → padded_integral (format_spec 32 0 4 4 (2 ^ 64 - 1)) false [] (digits 16 true n) ≡ segment_name n
unfolding segment_name
name_written n = padded_name (digits 16 true n)

is_ok : {E : Type 0} (r : Result ℕ E) (P : Type 0) (v : ℕ) → OkIff r P v → P → r ≡ Ok v
is_ok (Ok x) P v h p = ap (λ y. Ok y) h.1
is_ok (Err e) P v h p = absurd (h p)

-- what reads the name of a segment gives its number
name_read : {E : Type 0} (n : ℕ) (r : Result ℕ E) → n < 2 ^ 32 → ParsesUnsigned 32 16 (segment_name n) r → r ≡ Ok n
name_read {E} n r lt parses =
    let told = name_numeral n lt in
    let Parsed : List ℕ → Type 0 = λ ds. OkIff r (IsNumeral 16 ds × (digits_value 16 ds < 2 ^ 32)) (digits_value 16 ds) in
    let here : Parsed (segment_name n) = subst Parsed (no_plus (segment_name n) told.0.1) parses in
    is_ok r _ _ here (told.0, omega (arith, told.1, lt)) ∙ ap (λ y. Ok y) told.1

both : (a b : Bool) → a ≡ true → b ≡ true → (a && b) ≡ true
both true b first second = second
both false b first second = first

first_of : (a b : Bool) → (a && b) ≡ true → a ≡ true
first_of true b h = refl
first_of false b h = h

second_of : (a b : Bool) → (a && b) ≡ true → b ≡ true
second_of true b h = h
second_of false b h = absurd (cc h)

is_if : (test : Bool) (n m : ℕ) → (if test then Some n else None) ≡ Some m → (test ≡ true) × (n ≡ m)
is_if true n m is = (refl, cc is)
is_if false n m is = absurd (cc is)

pub named : (n : ℕ) (name : List ℕ) → n < 2 ^ 32 → segment_name n ≡ name → segment_number name ≡ Some n
unfolding segment_number
named n name lt is =
    let value : digits_value 16 name ≡ n = ap (digits_value 16) (sym is) ∙ (name_numeral n lt).1 in
    let spelled : bytes_eq (segment_name (digits_value 16 name)) name ≡ true = ap (λ m. bytes_eq (segment_name m) name) value ∙ ap (λ l. bytes_eq l name) is ∙ (bytes_eq-Decides name name).1 refl in
    let small : nat_lt (digits_value 16 name) (2 ^ 32) ≡ true = lt-ltb (digits_value 16 name) (2 ^ 32) (omega (arith, value, lt)) in
    ap (λ b. if b then Some (digits_value 16 name) else None) (both _ _ small spelled) ∙ ap (λ m. Some m) value

pub name_of : (n : ℕ) (name : List ℕ) → segment_number name ≡ Some n → (n < 2 ^ 32) × (segment_name n ≡ name)
unfolding segment_number
name_of n name is =
    let d : ℕ = digits_value 16 name in
    let parts = is_if (nat_lt d (2 ^ 32) && bytes_eq (segment_name d) name) d n is in
    let small : d < 2 ^ 32 = ltb-true d (2 ^ 32) (first_of _ _ parts.0) in
    let spelled : segment_name d ≡ name = (bytes_eq-Decides (segment_name d) name).0 (second_of (nat_lt d (2 ^ 32)) _ parts.0) in
    (omega (arith, parts.1, small), ap segment_name (sym parts.1) ∙ spelled)

-- what was read is no segment's number, or is it
pub read_is : {E : Type 0} (name : List ℕ) (r : Result ℕ E) (n : ℕ) → ParsesUnsigned 32 16 name r → segment_number name ≡ Some n → r ≡ Ok n
read_is name r n parses is =
    let from = name_of n name is in
    name_read n r from.0 (subst (λ l. ParsesUnsigned 32 16 l r) (sym from.1) parses)

pub none_unless : (o : Option ℕ) → ((n : ℕ) → o ≡ Some n → ⊥) → o ≡ None
none_unless None never = refl
none_unless (Some n) never = absurd (never n refl)
