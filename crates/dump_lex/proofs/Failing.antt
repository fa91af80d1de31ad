-- An error is given exactly where the grammar's condition for it holds.
use Rattle.std.proofs.Common.{◌≡◌, ℕ, ◌+◌, ◌<◌, Bool, true, false, cond, List, [], ◌∷◌, ◌++◌, length, take, drop, Option, Some, None, refl, sym, ap, subst, ◌∙◌, append_assoc, length-take-le, inl, inr, arith}
use Rattle.std.specs.Prelude.{nat_le, nat_eq, is_some}
use Rattle.std.specs.List.{list_all}
use Rattle.std.proofs.lemmas.Bool.{eqb-true, leb-false, lt-leb, eq-eqb, both_ways, or_from}
use Rattle.std.proofs.lemmas.List.{take_at, take_all, take-append-drop, append-nil}
use Rattle.std.proofs.lemmas.List.Sums.{prefix_len-le-length}
use Rattle.dump_lex.specs.declared.bytes.Class.TheVariants as classes
use Rattle.dump_lex.specs.declared.bytes.Lead.{Lead}
use Rattle.dump_lex.specs.declared.bytes.Lead.TheVariants as leads
use Rattle.dump_lex.specs.declared.token.TokenKind.TheVariants as kinds
use Rattle.dump_lex.specs.declared.token.LexKind.{LexKind}
use Rattle.dump_lex.specs.declared.token.LexKind.TheVariants.{BadByte, Unclosed, BadNumber, BadHex, BadName}
use Rattle.dump_lex.specs.Bytes.{in_class, is_lower, begins, lead_of}
use Rattle.dump_lex.specs.Enclosed.{doubled, enclosed, closing}
use Rattle.dump_lex.specs.Value.{is_name, is_hex, number_of}
use Rattle.dump_lex.specs.Front.{plain_token, hex_before, hex_token, starts_hex, letter_token, number_token, digit_token, quoted_token, string_token, token_led, front}
use Rattle.dump_lex.specs.Grammar.{IsRun, IsWord, IsNumber, begins_token, IsUnclosed, IsBadName, Fails, ErrorHolds, FailingIsTold, joins}
use Rattle.dump_lex.proofs.Runs.{chosen, run_parts, run_len_is}
use Rattle.dump_lex.proofs.Leads.{IsLead, lead_is, letter_lead, digit_lead, other_lead}
use Rattle.dump_lex.proofs.Delimited.{closing-parts, closing-doubled, none_closes, never_closes, enclosed-append}
use Rattle.dump_lex.proofs.Standing.{Answer, token, error, run_of, run_begins, lower_word, hex_shape, quote_at, no_quote, at_quote, number_tells, closes_whole, hex_front, plain_no_hex}

same_fails : (bytes : List ℕ) (e f : LexKind) → error e ≡ error f → Fails e bytes → Fails f bytes
same_fails bytes e f h fails = let k : e ≡ f = cc in subst (λ (g : LexKind). Fails g bytes) k fails

-- ---- where an error is given, its condition holds

plain_fails : (b : ℕ) (bs : List ℕ) (e : LexKind) → is_lower b ≡ true → plain_token (run_of classes.Word (b ∷ bs)) ≡ error e → Fails e (b ∷ bs)
plain_fails b bs e h is =
    let n = run_of classes.Word (b ∷ bs) in
    let parts = run_parts (in_class classes.Word) (b ∷ bs) in
    let len : length (take n (b ∷ bs)) ≡ n = length-take-le n (b ∷ bs) (prefix_len-le-length (in_class classes.Word) (b ∷ bs)) in
    elim (chosen (nat_le n 63) (token (kinds.Plain, n)) (error BadName) (error e) is) [
      | inl t ↦ absurd (let h = t.1 in cc)
      | inr f ↦ same_fails (b ∷ bs) BadName e f.1 (inl (
        take n (b ∷ bs),
        drop n (b ∷ bs),
        sym (take-append-drop n (b ∷ bs)),
        (run_begins (in_class classes.Word) is_lower b bs (lower_word b h) h, parts.passes),
        parts.stops,
        (let lt = leb-false n 63 f.0 in omega arith),
      ))
    ]

hex_fails : (bytes : List ℕ) (e : LexKind) → starts_hex bytes ≡ true → hex_token (drop 2 bytes) ≡ error e → Fails e bytes
hex_fails bytes e h is =
    let inside = drop 2 bytes in
    let n = quote_at inside in
    let parts = run_parts no_quote inside in
    elim (chosen (nat_eq n (length inside)) (error Unclosed) (cond (is_hex (take n inside)) (token (kinds.Hex, n + 3)) (error BadHex)) (error e) is) [
      | inl t ↦ same_fails bytes Unclosed e t.1 (inr (inr (inside, hex_shape bytes h, ap (list_all no_quote) (sym (take_all n inside (let k = eqb-true n (length inside) t.0 in omega arith))) ∙ parts.passes)))
      | inr f ↦ elim (chosen (is_hex (take n inside)) (token (kinds.Hex, n + 3)) (error BadHex) (error e) f.1) [
        | inl t ↦ absurd (let h = t.1 in cc)
        | inr g ↦ same_fails bytes BadHex e g.1 (
          take n inside,
          drop 1 (drop n inside),
          hex_shape bytes h ∙ ap (λ (l : List ℕ). 120 ∷ 39 ∷ l) (at_quote inside n refl f.0 ∙ sym (append_assoc (take n inside) (39 ∷ []) (drop 1 (drop n inside)))),
          parts.passes,
          g.0,
        )
      ]
    ]

letter_fails : (b : ℕ) (bs : List ℕ) (e : LexKind) → is_lower b ≡ true → letter_token (b ∷ bs) ≡ error e → Fails e (b ∷ bs)
letter_fails b bs e h is =
    elim (chosen (starts_hex (b ∷ bs)) (hex_token (drop 2 (b ∷ bs))) (plain_token (run_of classes.Word (b ∷ bs))) (error e) is) [
      | inl t ↦ hex_fails (b ∷ bs) e t.0 t.1
      | inr f ↦ plain_fails b bs e h f.1
    ]

number_fails : (b : ℕ) (bs : List ℕ) (e : LexKind) → in_class classes.Digit b ≡ true → digit_token (b ∷ bs) ≡ error e → Fails e (b ∷ bs)
number_fails b bs e h is =
    let n = run_of classes.Digit (b ∷ bs) in
    let ds = take n (b ∷ bs) in
    let parts = run_parts (in_class classes.Digit) (b ∷ bs) in
    elim (chosen (is_some (number_of ds)) (token (kinds.Number, n)) (error BadNumber) (error e) is) [
      | inl t ↦ absurd (let h = t.1 in cc)
      | inr f ↦ same_fails (b ∷ bs) BadNumber e f.1 (
        ds,
        drop n (b ∷ bs),
        sym (take-append-drop n (b ∷ bs)),
        (run_begins (in_class classes.Digit) (in_class classes.Digit) b bs h h, parts.passes),
        parts.stops,
        elim (number_tells ds) [ inl k ↦ absurd (both_ways (is_some (number_of ds)) f.0 k.0) | inr k ↦ k.1 ],
      )
    ]

quoted_fails : (b : ℕ) (bs : List ℕ) (q : Option (List ℕ × ℕ)) (e : LexKind) → b ≡ 34 → closing 34 bs ≡ q → quoted_token q ≡ error e → Fails e (b ∷ bs)
quoted_fails b bs None e is h k = same_fails (b ∷ bs) Unclosed e k (inl (bs, ap (λ (c : ℕ). c ∷ bs) is, none_closes 34 bs h))
quoted_fails b bs (Some y) e is h k =
    let p = closing-parts 34 bs y h in
    elim (chosen (is_name y.0) (token (kinds.Quoted, y.1 + 1)) (error BadName) (error e) k) [
      | inl t ↦ absurd (let h = t.1 in cc)
      | inr f ↦ same_fails (b ∷ bs) BadName e f.1 (inr (y.0, p.rest, closes_whole 34 b bs y is p, p.stops, f.0))
    ]

string_fails : (b : ℕ) (bs : List ℕ) (q : Option (List ℕ × ℕ)) (e : LexKind) → b ≡ 39 → closing 39 bs ≡ q → string_token q ≡ error e → Fails e (b ∷ bs)
string_fails b bs None e is h k = same_fails (b ∷ bs) Unclosed e k (inr (inl (bs, ap (λ (c : ℕ). c ∷ bs) is, none_closes 39 bs h)))
string_fails b bs (Some y) e is h k = absurd cc

led_fails : (l : Lead) (b : ℕ) (bs : List ℕ) (e : LexKind) → IsLead b l → token_led l b bs ≡ error e → Fails e (b ∷ bs)
led_fails leads.Capital b bs e h k = absurd cc
led_fails leads.Letter b bs e h k = letter_fails b bs e h k
led_fails leads.Digit b bs e h k = number_fails b bs e h k
led_fails leads.Quote b bs e h k = quoted_fails b bs (closing 34 bs) e h refl k
led_fails leads.Apostrophe b bs e h k = string_fails b bs (closing 39 bs) e h refl k
led_fails leads.Mark b bs e h k = absurd cc
led_fails leads.Other b bs e h k = same_fails (b ∷ bs) BadByte e k h

pub error_holds : ErrorHolds
unfolding front
error_holds [] e h = same_fails [] BadByte e h refl
error_holds (b ∷ bs) e h = led_fails (lead_of b) b bs e (lead_is b) h

-- ---- where its condition holds, the error is given

bad_byte_told : (bytes : List ℕ) → begins begins_token bytes ≡ false → front bytes ≡ error BadByte
unfolding front
bad_byte_told [] h = refl
bad_byte_told (b ∷ bs) h = rw (other_lead b h) refl

unclosed_told : (bytes : List ℕ) → IsUnclosed bytes → front bytes ≡ error Unclosed
unfolding front
unclosed_told bytes (inl h) = ap front h.1 ∙ ap quoted_token (never_closes 34 h.0 h.2)
unclosed_told bytes (inr (inl h)) = ap front h.1 ∙ ap string_token (never_closes 39 h.0 h.2)
unclosed_told bytes (inr (inr h)) =
    let inside = h.0 in
    let len : quote_at inside ≡ length inside = ap quote_at (sym (append-nil inside)) ∙ run_len_is no_quote inside [] h.2 refl in
    let at : hex_before (length inside) inside ≡ error Unclosed = rw (eq-eqb (length inside) (length inside) refl) refl in
    ap front h.1 ∙ ap (λ (n : ℕ). hex_before n inside) len ∙ at

bad_number_told : (t rest : List ℕ) → IsRun classes.Digit t → begins (in_class classes.Digit) rest ≡ false → ¬ IsNumber t → front (t ++ rest) ≡ error BadNumber
unfolding front
bad_number_told [] rest h stops none = let k = h.0 in absurd cc
bad_number_told (b ∷ bs) rest h stops none =
    let len = run_len_is (in_class classes.Digit) (b ∷ bs) rest h.1 stops in
    let is : is_some (number_of (b ∷ bs)) ≡ false = elim (number_tells (b ∷ bs)) [ inl k ↦ absurd (none k.1) | inr k ↦ k.0 ] in
    let go : ℕ → Answer = λ (n : ℕ). number_token (number_of (take n (b ∷ (bs ++ rest)))) n in
    let taken : take (length (b ∷ bs)) (b ∷ (bs ++ rest)) ≡ b ∷ bs = take_at (b ∷ bs) rest (length (b ∷ bs)) refl in
    let fails : number_token (number_of (b ∷ bs)) (length (b ∷ bs)) ≡ error BadNumber = rw is refl in
    rw (digit_lead b h.0) (ap go len ∙ ap (λ (l : List ℕ). number_token (number_of l) (length (b ∷ bs))) taken ∙ fails)

-- a word of more than one byte isn't `x`
long_stops : (t rest : List ℕ) → 1 < length t → begins (in_class classes.Word) rest ≡ false → begins (joins kinds.Plain t) rest ≡ false
long_stops t [] lt h = refl
long_stops [] (c ∷ cs) lt h = absurd (omega arith)
long_stops (b ∷ []) (c ∷ cs) lt h = absurd (omega arith)
long_stops (b ∷ d ∷ ds) (c ∷ cs) lt h = or_from (in_class classes.Word c) false h refl

long_word_told : (t rest : List ℕ) → IsWord t → begins (in_class classes.Word) rest ≡ false → 63 < length t → front (t ++ rest) ≡ error BadName
unfolding front
long_word_told [] rest h stops long = let k = h.0 in absurd cc
long_word_told (b ∷ bs) rest h stops long =
    let p = plain_no_hex (b ∷ bs) rest h.1 h.0 (long_stops (b ∷ bs) rest (omega arith) stops) in
    let plain : letter_token (b ∷ (bs ++ rest)) ≡ plain_token (run_of classes.Word (b ∷ (bs ++ rest))) = rw p.0 refl in
    let fails : plain_token (length (b ∷ bs)) ≡ error BadName = rw (lt-leb (length (b ∷ bs)) 63 long) refl in
    rw (letter_lead b h.0) (plain ∙ ap plain_token (run_len_is (in_class classes.Word) (b ∷ bs) rest h.1 stops) ∙ fails)

bad_quoted_told : (name rest : List ℕ) → begins (λ b. nat_eq b 34) rest ≡ false → is_name name ≡ false → front (enclosed 34 name ++ rest) ≡ error BadName
unfolding front
bad_quoted_told name rest stops h =
    let fails : quoted_token (Some (name, length (doubled 34 name) + 1)) ≡ error BadName = rw h refl in
    ap front (enclosed-append 34 name rest) ∙ ap quoted_token (closing-doubled 34 name rest stops) ∙ fails

bad_name_told : (bytes : List ℕ) → IsBadName bytes → front bytes ≡ error BadName
bad_name_told bytes (inl h) = ap front h.2 ∙ long_word_told h.0 h.1 h.3 h.4 h.5
bad_name_told bytes (inr h) = ap front h.2 ∙ bad_quoted_told h.0 h.1 h.3 h.4

pub failing_is_told : FailingIsTold
failing_is_told bytes BadByte h = bad_byte_told bytes h
failing_is_told bytes Unclosed h = unclosed_told bytes h
failing_is_told bytes BadNumber h = ap front h.2 ∙ bad_number_told h.0 h.1 h.3 h.4 h.5
failing_is_told bytes BadHex h = ap front h.2 ∙ hex_front h.0 h.1 h.3 ∙ ap (λ (t : Bool). cond t (token (kinds.Hex, length h.0 + 3)) (error BadHex)) h.4
failing_is_told bytes BadName h = bad_name_told bytes h
