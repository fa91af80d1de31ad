-- What writes a value is a token, and is read as that value.
use Rattle.std.proofs.Common.{◌≡◌, ℕ, zero, suc, ◌+◌, ◌*◌, ◌-◌, ◌/◌, ◌%◌, ◌^◌, ◌<◌, ◌≤◌, true, false, List, [], ◌∷◌, ◌++◌, length, get_or, take, Some, refl, ap, ◌∙◌, length-append, inl, inr, arith, rules}
use Rattle.std.specs.Prelude.{nat_lt, nat_le, nat_eq, ◌&&◌}
use Rattle.std.specs.List.{list_all}
use Rattle.std.specs.Fmt.{decimal}
use Rattle.std.proofs.lemmas.Bool.{and_right, ltb-true, lt-ltb, le-ltb, le-leb, lt-leb, ne_eqb, and_parts, and_from, or_left, or_right, cases_lt, cases_Bool, leb-true}
use Rattle.std.proofs.lemmas.List.{take_at}
use Rattle.std.proofs.lemmas.Fmt.{digits_decimal, digits_value-decimal, decimal_nonempty, first_decimal, decimal_digit}
use Rattle.std.proofs.lemmas.Str.Parse.{IsNumeralModel, numerals_by_fold}
use Rattle.dump_lex.specs.declared.bytes.Class.TheVariants as classes
use Rattle.dump_lex.specs.declared.token.TokenKind.TheVariants as kinds
use Rattle.dump_lex.specs.Bytes.{is_lower, in_class, is_between, begins}
use Rattle.dump_lex.specs.Value.{is_name, name_of, is_hex, hex_digit_of, bytes_in, bytes_of, value_after, has_leading_zero, number_of}
use Rattle.dump_lex.specs.Grammar.{hex_text, IsToken}
use Rattle.dump_lex.specs.Written.{is_word, name_text, name_kind, hex_digit, hex_of, are_bytes, ValuesAreRead}
use Rattle.dump_lex.proofs.Names.{enclosed_text-enclosed}

-- ---- numbers

own : IsNumeralModel (λ ds. list_all (in_class classes.Digit) ds ≡ true) (value_after 0)
own = numerals_by_fold _ (search rules) value_after (search rules)

leads_not : (ds : List ℕ) → 48 < get_or ds 0 0 → has_leading_zero ds ≡ false
leads_not [] h = refl
leads_not (d ∷ []) h = refl
leads_not (d ∷ e ∷ es) h = ne_eqb d 48 (λ k. omega arith)

decimal_leads : (n : ℕ) → n < 2 ^ 64 → has_leading_zero (decimal n) ≡ false
decimal_leads zero h = ap has_leading_zero (decimal_digit 0 (omega arith))
decimal_leads (suc n) h = leads_not (decimal (suc n)) (first_decimal (suc n) (omega arith) h)

run_begins : (ds : List ℕ) → 0 < length ds → list_all (in_class classes.Digit) ds ≡ true → begins (in_class classes.Digit) ds ≡ true
run_begins [] lt h = absurd (omega arith)
run_begins (d ∷ ds) lt h = (and_parts (in_class classes.Digit d) (list_all (in_class classes.Digit) ds) h).0

pub decimal_number : (n : ℕ) → n ≤ 4294967295 → IsToken kinds.Number (decimal n) × (number_of (decimal n) ≡ Some n)
decimal_number n h =
    let wide : n < 2 ^ 64 = omega arith in
    let leads = decimal_leads n wide in
    let value : value_after 0 (decimal n) ≡ n = digits_value-decimal own n wide in
    let all : list_all (in_class classes.Digit) (decimal n) ≡ true = digits_decimal own n wide in
    (((run_begins (decimal n) (decimal_nonempty n wide) all, all), (leads, omega (arith, value))), rw (leads, value, le-leb n 4294967295 h) refl)

-- ---- bytes

hex_digit_is : (n : ℕ) → n < 16 → (in_class classes.HexDigit (hex_digit n) ≡ true) × (hex_digit_of (hex_digit n) ≡ n)
hex_digit_is n h =
    elim (cases_lt n 10) [
      | inl lt ↦
          (let e : hex_digit n ≡ 48 + n = rw (lt-ltb n 10 lt) refl in
          let b : is_between 48 57 (48 + n) ≡ true = and_from (nat_le 48 (48 + n)) (nat_le (48 + n) 57) (le-leb 48 (48 + n) (omega arith)) (le-leb (48 + n) 57 (omega arith)) in
          let v : 48 + n - 48 ≡ n = omega arith in
          (ap (in_class classes.HexDigit) e ∙ or_left (is_between 48 57 (48 + n)) (is_between 97 102 (48 + n)) b, ap hex_digit_of e ∙ rw b v))
      | inr ge ↦
          (let e : hex_digit n ≡ 87 + n = rw (le-ltb n 10 ge) refl in
          let b : is_between 48 57 (87 + n) ≡ false = and_right (nat_le 48 (87 + n)) (nat_le (87 + n) 57) (lt-leb (87 + n) 57 (omega arith)) in
          let a : is_between 97 102 (87 + n) ≡ true = and_from (nat_le 97 (87 + n)) (nat_le (87 + n) 102) (le-leb 97 (87 + n) (omega arith)) (le-leb (87 + n) 102 (omega arith)) in
          let v : 87 + n - 87 ≡ n = omega arith in
          (ap (in_class classes.HexDigit) e ∙ or_right (is_between 48 57 (87 + n)) (is_between 97 102 (87 + n)) a, ap hex_digit_of e ∙ rw (b, a) v))
    ]

pub hex_written : (bs : List ℕ) → are_bytes bs ≡ true → (is_hex (hex_of bs) ≡ true) × (bytes_in (hex_of bs) ≡ bs)
hex_written [] h = (refl, refl)
hex_written (b ∷ bs) h =
    let p = and_parts (nat_lt b 256) (are_bytes bs) h in
    let small : b < 256 = ltb-true b 256 p.0 in
    let high = hex_digit_is (b / 16) (omega arith) in
    let low = hex_digit_is (b % 16) (omega arith) in
    let rest = hex_written bs p.1 in
    let q = and_parts (nat_eq (length (hex_of bs) % 2) 0) (list_all (in_class classes.HexDigit) (hex_of bs)) rest.0 in
    let even : length (hex_of (b ∷ bs)) % 2 ≡ length (hex_of bs) % 2 = omega arith in
    let byte : 16 * hex_digit_of (hex_digit (b / 16)) + hex_digit_of (hex_digit (b % 16)) ≡ b = omega (arith, high.1, low.1) in
    (rw (even, q.0, high.0, low.0) q.1, λ i. byte i ∷ rest.1 i)

pub hex_read : (digits : List ℕ) → bytes_of (hex_text digits) ≡ bytes_in digits
hex_read digits =
    let len : length (hex_text digits) - 3 ≡ length digits = omega (arith, length-append digits (39 ∷ [])) in
    ap (λ (n : ℕ). bytes_in (take n (digits ++ 39 ∷ []))) len ∙ ap bytes_in (take_at digits (39 ∷ []) (length digits) refl)

-- ---- names

pub name_written : (n : List ℕ) → is_name n ≡ true → IsToken (name_kind n) (name_text n) × (name_of (name_kind n) (name_text n) ≡ n)
name_written n h =
    let short : length n ≤ 63 = leb-true (length n) 63 (and_parts (nat_lt 0 (length n)) (nat_le (length n) 63) (and_parts (nat_lt 0 (length n) && nat_le (length n) 63) (list_all (λ b. nat_lt 0 b) n) h).0).1 in
    elim (cases_Bool (is_word n)) [
      | inl w ↦ rw w ((and_parts (begins is_lower n) (list_all (in_class classes.Word) n) w, short), refl)
      | inr w ↦ rw w ((n, h, refl), enclosed_text-enclosed 34 n)
    ]

pub values_are_read : ValuesAreRead
values_are_read = record {
  a_name = name_written;
  a_string = λ s. ((s, refl), enclosed_text-enclosed 39 s);
  a_hex = λ bs h. let w = hex_written bs h in ((hex_of bs, w.0, refl), hex_read (hex_of bs) ∙ w.1);
  a_number = decimal_number;
}
