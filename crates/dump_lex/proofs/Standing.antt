-- A token that is found is one of the grammar and as long as its bytes allow, and each such token is found.
use Rattle.std.proofs.Common.{◌≡◌, ℕ, suc, ◌+◌, ◌%◌, ◌<◌, ◌≤◌, Bool, true, false, cond, List, [], ◌∷◌, ◌++◌, length, take, drop, Option, Some, None, Result, Ok, Err, refl, sym, ap, subst, ◌∙◌, append_assoc, length-append, length-take-le, length-drop, inl, inr, arith}
use Rattle.std.specs.Prelude.{◌⊎◌, ◌||◌, ◌&&◌, not, nat_le, nat_eq, is_some, IfOk}
use Rattle.std.specs.List.{prefix_len, position_or_len, list_all}
use Rattle.std.proofs.lemmas.Bool.{eqb-true, ne_eqb, eqb-false, leb-true, le-leb, not-false, both_ways, cases_Bool, or_cases, or_from, or_left, or_parts, and_parts, and_right, and_from}
use Rattle.std.proofs.lemmas.List.{take_at, drop_at, take-append-drop}
use Rattle.std.proofs.lemmas.List.Sums.{prefix_len-le-length}
use Rattle.dump_lex.specs.declared.bytes.Class.{Class}
use Rattle.dump_lex.specs.declared.bytes.Class.TheVariants as classes
use Rattle.dump_lex.specs.declared.bytes.Lead.{Lead}
use Rattle.dump_lex.specs.declared.bytes.Lead.TheVariants as leads
use Rattle.dump_lex.specs.declared.token.TokenKind.{TokenKind}
use Rattle.dump_lex.specs.declared.token.TokenKind.TheVariants as kinds
use Rattle.dump_lex.specs.declared.token.LexKind.{LexKind}
use Rattle.dump_lex.specs.declared.token.LexKind.TheVariants.{Unclosed, BadNumber, BadHex, BadName}
use Rattle.dump_lex.specs.Bytes.{is_between, in_class, is_lower, is_mark, begins, lead_of}
use Rattle.dump_lex.specs.Enclosed.{doubled, enclosed, closing}
use Rattle.dump_lex.specs.Value.{is_name, is_hex, value_after, has_leading_zero, number_of}
use Rattle.dump_lex.specs.Front.{plain_token, hex_before, hex_token, starts_hex, letter_token, number_token, digit_token, quoted_token, string_token, token_led, front}
use Rattle.dump_lex.specs.Grammar.{IsRun, IsWord, IsNumber, hex_text, IsToken, joins, Stands, Lacks, FoundStands, StandingIsFound}
use Rattle.dump_lex.proofs.Runs.{chosen, between, run_parts, run_len_is}
use Rattle.dump_lex.proofs.Leads.{IsLead, lead_is, lower_range, capital_lead, letter_lead, digit_lead, mark_lead}
use Rattle.dump_lex.proofs.Delimited.{Closes, closing-parts, closing-doubled, enclosed-append, length-enclosed}

abbrev pub Answer : Type 0
Answer = Result (TokenKind × ℕ) LexKind

abbrev pub token : TokenKind × ℕ → Answer
token x = Ok x

abbrev pub error : LexKind → Answer
error e = Err e

-- the bytes are a token that stands, and the rest
pub record Splits (bytes : List ℕ) (x : TokenKind × ℕ) : Type 0 where
  pub text : List ℕ
  pub rest : List ℕ
  pub whole : bytes ≡ text ++ rest
  pub len : length text ≡ x.1
  pub stands : Stands x.0 text rest

same_splits : (bytes : List ℕ) (x y : TokenKind × ℕ) → token x ≡ token y → Splits bytes x → Splits bytes y
same_splits bytes x y e h = let k : x ≡ y = cc in subst (Splits bytes) k h

-- ---- runs

-- the first byte of a run
pub run_begins : (p q : ℕ → Bool) (b : ℕ) (bs : List ℕ) → p b ≡ true → q b ≡ true → begins q (take (prefix_len p (b ∷ bs)) (b ∷ bs)) ≡ true
run_begins p q b bs h k =
    let one : 1 + prefix_len p bs ≡ suc (prefix_len p bs) = omega arith in
    rw h (rw one k)

pub lower_word : (b : ℕ) → is_lower b ≡ true → in_class classes.Word b ≡ true
lower_word b h = or_left (is_between 97 122 b || nat_eq b 95) (is_between 48 57 b) h

-- ---- plain words and `x'`

-- where `x'` doesn't begin the bytes, no `'` makes the word longer
pub plain_stops : (t rest : List ℕ) → begins (in_class classes.Word) rest ≡ false → starts_hex (t ++ rest) ≡ false → begins (joins kinds.Plain t) rest ≡ false
plain_stops t [] h k = refl
plain_stops [] (c ∷ cs) h k = or_from (in_class classes.Word c) false h refl
plain_stops (b ∷ []) (c ∷ cs) h k = or_from (in_class classes.Word c) (nat_eq b 120 && nat_eq c 39) h k
plain_stops (b ∷ d ∷ ds) (c ∷ cs) h k = or_from (in_class classes.Word c) false h refl

word_no_quote : (c : ℕ) → in_class classes.Word c ≡ true → nat_eq c 39 ≡ false
word_no_quote c h =
    elim (or_cases (is_lower c) (is_between 48 57 c) h) [
      | inl t ↦ (let r = lower_range c t in ne_eqb c 39 (λ e. omega arith))
      | inr t ↦ (let r = between 48 57 c t in ne_eqb c 39 (λ e. omega arith))
    ]

-- and the other way round
pub plain_no_hex : (t rest : List ℕ) → list_all (in_class classes.Word) t ≡ true → begins is_lower t ≡ true → begins (joins kinds.Plain t) rest ≡ false → (starts_hex (t ++ rest) ≡ false) × (begins (in_class classes.Word) rest ≡ false)
plain_no_hex [] rest all low stops = absurd cc
plain_no_hex (b ∷ []) [] all low stops = (and_right (nat_eq b 120) false refl, refl)
plain_no_hex (b ∷ []) (c ∷ cs) all low stops = let p = or_parts (in_class classes.Word c) (nat_eq b 120 && nat_eq c 39) stops in (p.1, p.0)
plain_no_hex (b ∷ d ∷ ds) [] all low stops = let p = and_parts (in_class classes.Word b) (in_class classes.Word d && list_all (in_class classes.Word) ds) all in let q = and_parts (in_class classes.Word d) (list_all (in_class classes.Word) ds) p.1 in (and_right (nat_eq b 120) (nat_eq d 39) (word_no_quote d q.0), refl)
plain_no_hex (b ∷ d ∷ ds) (c ∷ cs) all low stops = let p = and_parts (in_class classes.Word b) (in_class classes.Word d && list_all (in_class classes.Word) ds) all in let q = and_parts (in_class classes.Word d) (list_all (in_class classes.Word) ds) p.1 in (and_right (nat_eq b 120) (nat_eq d 39) (word_no_quote d q.0), (or_parts (in_class classes.Word c) false stops).0)

pub hex_shape : (bytes : List ℕ) → starts_hex bytes ≡ true → bytes ≡ 120 ∷ 39 ∷ drop 2 bytes
hex_shape [] h = absurd cc
hex_shape (b ∷ []) h = absurd (let p = and_parts (nat_eq b 120) false h in let q = p.1 in cc)
hex_shape (b ∷ c ∷ cs) h = let p = and_parts (nat_eq b 120) (nat_eq c 39) h in λ i. eqb-true b 120 p.0 i ∷ eqb-true c 39 p.1 i ∷ cs

-- ---- the next `'` of a hex

abbrev pub quote_at : List ℕ → ℕ
quote_at bs = position_or_len (λ b. nat_eq b 39) bs

abbrev pub no_quote : ℕ → Bool
no_quote c = not (nat_eq c 39)

quote_first : (bs : List ℕ) → 0 < length bs → begins no_quote bs ≡ false → bs ≡ 39 ∷ drop 1 bs
quote_first [] lt h = absurd (omega arith)
quote_first (b ∷ bs) lt h = ap (λ (c : ℕ). c ∷ bs) (eqb-true b 39 (not-false (nat_eq b 39) h))

-- the bytes before the next `'`, it, and the rest
pub at_quote : (inside : List ℕ) (n : ℕ) → n ≡ quote_at inside → nat_eq n (length inside) ≡ false → inside ≡ take n inside ++ 39 ∷ drop 1 (drop n inside)
at_quote inside n is some =
    let parts = run_parts no_quote inside in
    let le : n ≤ length inside = rw is (prefix_len-le-length no_quote inside) in
    let ne = eqb-false n (length inside) some in
    let lt : 0 < length (drop n inside) = omega (arith, length-drop n inside) in
    let stops : begins no_quote (drop n inside) ≡ false = rw is parts.stops in
    sym (take-append-drop n inside) ∙ ap (λ (l : List ℕ). take n inside ++ l) (quote_first (drop n inside) lt stops)

-- ---- numbers

pub number_tells : (ds : List ℕ) → ((is_some (number_of ds) ≡ true) × IsNumber ds) ⊎ ((is_some (number_of ds) ≡ false) × ¬ IsNumber ds)
number_tells ds =
    elim (cases_Bool (has_leading_zero ds)) [
      | inl h ↦ inr (rw h refl, λ n. both_ways (has_leading_zero ds) n.0 h)
      | inr h ↦ elim (cases_Bool (nat_le (value_after 0 ds) 4294967295)) [
        | inl k ↦ inl (rw (h, k) refl, (h, leb-true (value_after 0 ds) 4294967295 k))
        | inr k ↦ inr (rw (h, k) refl, λ n. both_ways (nat_le (value_after 0 ds) 4294967295) k (le-leb (value_after 0 ds) 4294967295 n.1))
      ]
    ]

-- ---- what is found stands

abbrev pub run_of : Class → List ℕ → ℕ
run_of class bs = prefix_len (in_class class) bs

capital_found : (b : ℕ) (bs : List ℕ) → in_class classes.Upper b ≡ true → Splits (b ∷ bs) (kinds.Keyword, run_of classes.Upper (b ∷ bs))
capital_found b bs h =
    let n = run_of classes.Upper (b ∷ bs) in
    let parts = run_parts (in_class classes.Upper) (b ∷ bs) in
    record {
      text = take n (b ∷ bs);
      rest = drop n (b ∷ bs);
      whole = sym (take-append-drop n (b ∷ bs));
      len = length-take-le n (b ∷ bs) (prefix_len-le-length (in_class classes.Upper) (b ∷ bs));
      stands = record { is_token = (run_begins (in_class classes.Upper) (in_class classes.Upper) b bs h h, parts.passes); is_longest = parts.stops };
    }

plain_found : (b : ℕ) (bs : List ℕ) (x : TokenKind × ℕ) → is_lower b ≡ true → starts_hex (b ∷ bs) ≡ false → plain_token (run_of classes.Word (b ∷ bs)) ≡ token x → Splits (b ∷ bs) x
plain_found b bs x h no_hex e =
    let n = run_of classes.Word (b ∷ bs) in
    let parts = run_parts (in_class classes.Word) (b ∷ bs) in
    let len : length (take n (b ∷ bs)) ≡ n = length-take-le n (b ∷ bs) (prefix_len-le-length (in_class classes.Word) (b ∷ bs)) in
    let whole : b ∷ bs ≡ take n (b ∷ bs) ++ drop n (b ∷ bs) = sym (take-append-drop n (b ∷ bs)) in
    elim (chosen (nat_le n 63) (token (kinds.Plain, n)) (error BadName) (token x) e) [
      | inl t ↦ same_splits (b ∷ bs) (kinds.Plain, n) x t.1 (record {
        text = take n (b ∷ bs);
        rest = drop n (b ∷ bs);
        whole = whole;
        len = len;
        stands = record {
          is_token = ((run_begins (in_class classes.Word) is_lower b bs (lower_word b h) h, parts.passes), (let le = leb-true n 63 t.0 in omega arith));
          is_longest = plain_stops (take n (b ∷ bs)) (drop n (b ∷ bs)) parts.stops (ap starts_hex (sym whole) ∙ no_hex);
        };
      })
      | inr f ↦ absurd (let h = f.1 in cc)
    ]

hex_found : (bytes : List ℕ) (x : TokenKind × ℕ) → starts_hex bytes ≡ true → hex_token (drop 2 bytes) ≡ token x → Splits bytes x
hex_found bytes x h e =
    let inside = drop 2 bytes in
    let n = quote_at inside in
    elim (chosen (nat_eq n (length inside)) (error Unclosed) (cond (is_hex (take n inside)) (token (kinds.Hex, n + 3)) (error BadHex)) (token x) e) [
      | inl t ↦ absurd (let h = t.1 in cc)
      | inr f ↦ elim (chosen (is_hex (take n inside)) (token (kinds.Hex, n + 3)) (error BadHex) (token x) f.1) [
        | inl t ↦ same_splits bytes (kinds.Hex, n + 3) x t.1 (record {
          text = hex_text (take n inside);
          rest = drop 1 (drop n inside);
          whole = hex_shape bytes h ∙ ap (λ (l : List ℕ). 120 ∷ 39 ∷ l) (at_quote inside n refl f.0 ∙ sym (append_assoc (take n inside) (39 ∷ []) (drop 1 (drop n inside))));
          len = omega (arith, length-append (take n inside) (39 ∷ []), length-take-le n inside (prefix_len-le-length no_quote inside));
          stands = record { is_token = (take n inside, t.0, refl); is_longest = never_joined (drop 1 (drop n inside)) };
        })
        | inr g ↦ absurd (let h = g.1 in cc)
      ]
    ]
  where
    never_joined : (rest : List ℕ) → begins (λ (b : ℕ). false) rest ≡ false
    never_joined [] = refl
    never_joined (c ∷ cs) = refl

letter_found : (b : ℕ) (bs : List ℕ) (x : TokenKind × ℕ) → is_lower b ≡ true → letter_token (b ∷ bs) ≡ token x → Splits (b ∷ bs) x
letter_found b bs x h e =
    elim (chosen (starts_hex (b ∷ bs)) (hex_token (drop 2 (b ∷ bs))) (plain_token (run_of classes.Word (b ∷ bs))) (token x) e) [
      | inl t ↦ hex_found (b ∷ bs) x t.0 t.1
      | inr f ↦ plain_found b bs x h f.0 f.1
    ]

number_found : (b : ℕ) (bs : List ℕ) (x : TokenKind × ℕ) → in_class classes.Digit b ≡ true → digit_token (b ∷ bs) ≡ token x → Splits (b ∷ bs) x
number_found b bs x h e =
    let n = run_of classes.Digit (b ∷ bs) in
    let ds = take n (b ∷ bs) in
    let parts = run_parts (in_class classes.Digit) (b ∷ bs) in
    elim (chosen (is_some (number_of ds)) (token (kinds.Number, n)) (error BadNumber) (token x) e) [
      | inl t ↦ same_splits (b ∷ bs) (kinds.Number, n) x t.1 (record {
        text = ds;
        rest = drop n (b ∷ bs);
        whole = sym (take-append-drop n (b ∷ bs));
        len = length-take-le n (b ∷ bs) (prefix_len-le-length (in_class classes.Digit) (b ∷ bs));
        stands = record {
          is_token = ((run_begins (in_class classes.Digit) (in_class classes.Digit) b bs h h, parts.passes), elim (number_tells ds) [ inl k ↦ k.1 | inr k ↦ absurd (both_ways (is_some (number_of ds)) k.0 t.0) ]);
          is_longest = parts.stops;
        };
      })
      | inr f ↦ absurd (let h = f.1 in cc)
    ]

-- the split of bytes that begin with an enclosed text
pub closes_whole : (d b : ℕ) (bs : List ℕ) (y : List ℕ × ℕ) → b ≡ d → (p : Closes d bs y) → b ∷ bs ≡ enclosed d y.0 ++ p.rest
closes_whole d b bs y is p = (λ i. is i ∷ p.whole i) ∙ sym (enclosed-append d y.0 p.rest)

quoted_found : (b : ℕ) (bs : List ℕ) (q : Option (List ℕ × ℕ)) (x : TokenKind × ℕ) → b ≡ 34 → closing 34 bs ≡ q → quoted_token q ≡ token x → Splits (b ∷ bs) x
quoted_found b bs None x is h e = absurd cc
quoted_found b bs (Some y) x is h e =
    let p = closing-parts 34 bs y h in
    elim (chosen (is_name y.0) (token (kinds.Quoted, y.1 + 1)) (error BadName) (token x) e) [
      | inl t ↦ same_splits (b ∷ bs) (kinds.Quoted, y.1 + 1) x t.1 (record {
        text = enclosed 34 y.0;
        rest = p.rest;
        whole = closes_whole 34 b bs y is p;
        len = omega (arith, length-enclosed 34 y.0, p.len);
        stands = record { is_token = (y.0, t.0, refl); is_longest = p.stops };
      })
      | inr f ↦ absurd (let h = f.1 in cc)
    ]

string_found : (b : ℕ) (bs : List ℕ) (q : Option (List ℕ × ℕ)) (x : TokenKind × ℕ) → b ≡ 39 → closing 39 bs ≡ q → string_token q ≡ token x → Splits (b ∷ bs) x
string_found b bs None x is h e = absurd cc
string_found b bs (Some y) x is h e =
    let p = closing-parts 39 bs y h in
    same_splits (b ∷ bs) (kinds.Str, y.1 + 1) x e (record {
      text = enclosed 39 y.0;
      rest = p.rest;
      whole = closes_whole 39 b bs y is p;
      len = omega (arith, length-enclosed 39 y.0, p.len);
      stands = record { is_token = (y.0, refl); is_longest = p.stops };
    })

mark_found : (b : ℕ) (bs : List ℕ) → is_mark b ≡ true → Splits (b ∷ bs) (kinds.Mark, 1)
mark_found b bs h = record {
  text = b ∷ [];
  rest = bs;
  whole = refl;
  len = refl;
  stands = record { is_token = (b, h, refl); is_longest = never_joined bs };
}
  where
    never_joined : (rest : List ℕ) → begins (λ (b : ℕ). false) rest ≡ false
    never_joined [] = refl
    never_joined (c ∷ cs) = refl

led_found : (l : Lead) (b : ℕ) (bs : List ℕ) (x : TokenKind × ℕ) → IsLead b l → token_led l b bs ≡ token x → Splits (b ∷ bs) x
led_found leads.Capital b bs x h e = same_splits (b ∷ bs) (kinds.Keyword, run_of classes.Upper (b ∷ bs)) x e (capital_found b bs h)
led_found leads.Letter b bs x h e = letter_found b bs x h e
led_found leads.Digit b bs x h e = number_found b bs x h e
led_found leads.Quote b bs x h e = quoted_found b bs (closing 34 bs) x h refl e
led_found leads.Apostrophe b bs x h e = string_found b bs (closing 39 bs) x h refl e
led_found leads.Mark b bs x h e = same_splits (b ∷ bs) (kinds.Mark, 1) x e (mark_found b bs h)
led_found leads.Other b bs x h e = absurd cc

pub front_splits : (bytes : List ℕ) (x : TokenKind × ℕ) → front bytes ≡ token x → Splits bytes x
unfolding front
front_splits [] x e = absurd cc
front_splits (b ∷ bs) x e = led_found (lead_of b) b bs x (lead_is b) e

pub found_stands : FoundStands
found_stands bytes kind n e =
    let s = front_splits bytes (kind, n) e in
    let len : length s.text ≡ n = s.len in
    let P : List ℕ → List ℕ → Type 0 = λ t r. Stands kind t r in
    let front_is : s.text ≡ take n bytes = sym (take_at s.text s.rest n len) ∙ ap (take n) (sym s.whole) in
    let back_is : s.rest ≡ drop n bytes = sym (drop_at s.text s.rest n len) ∙ ap (drop n) (sym s.whole) in
    (omega (arith, len, ap length s.whole, length-append s.text s.rest), subst (λ (t : List ℕ). Stands kind t (drop n bytes)) front_is (subst (Stands kind s.text) back_is s.stands))

-- a token has a byte
pub token_some : (kind : TokenKind) (t : List ℕ) → IsToken kind t → 0 < length t
token_some kinds.Keyword [] h = let k = h.0 in absurd cc
token_some kinds.Plain [] h = let k = h.0.0 in absurd cc
token_some kinds.Quoted [] h = let k = h.2 in absurd cc
token_some kinds.Str [] h = let k = h.1 in absurd cc
token_some kinds.Hex [] h = let k = h.2 in absurd cc
token_some kinds.Number [] h = let k = h.0.0 in absurd cc
token_some kinds.Mark [] h = let k = h.2 in absurd cc
token_some kind (b ∷ bs) h = omega arith

pub front_within : (bytes : List ℕ) (x : TokenKind × ℕ) → front bytes ≡ token x → (0 < x.1) × (x.1 ≤ length bytes)
front_within bytes x e =
    let s = front_splits bytes x e in
    (omega (arith, token_some x.0 s.text s.stands.is_token, s.len), omega (arith, s.len, ap length s.whole, length-append s.text s.rest))

-- ---- what stands is found

abbrev Told : TokenKind → List ℕ → List ℕ → Type 0
Told kind t rest = front (t ++ rest) ≡ token (kind, length t)

keyword_told : (t rest : List ℕ) → IsRun classes.Upper t → begins (in_class classes.Upper) rest ≡ false → Told kinds.Keyword t rest
unfolding front
keyword_told [] rest h stops = let k = h.0 in absurd cc
keyword_told (b ∷ bs) rest h stops = rw (capital_lead b h.0) (ap (λ (n : ℕ). token (kinds.Keyword, n)) (run_len_is (in_class classes.Upper) (b ∷ bs) rest h.1 stops))

plain_told : (t rest : List ℕ) → IsWord t → length t ≤ 63 → begins (joins kinds.Plain t) rest ≡ false → Told kinds.Plain t rest
unfolding front
plain_told [] rest h short stops = let k = h.0 in absurd cc
plain_told (b ∷ bs) rest h short stops =
    let p = plain_no_hex (b ∷ bs) rest h.1 h.0 stops in
    let plain : letter_token (b ∷ (bs ++ rest)) ≡ plain_token (run_of classes.Word (b ∷ (bs ++ rest))) = rw p.0 refl in
    let fits : plain_token (length (b ∷ bs)) ≡ token (kinds.Plain, length (b ∷ bs)) = rw (le-leb (length (b ∷ bs)) 63 short) refl in
    rw (letter_lead b h.0) (plain ∙ ap plain_token (run_len_is (in_class classes.Word) (b ∷ bs) rest h.1 p.1) ∙ fits)

number_told : (t rest : List ℕ) → IsRun classes.Digit t → IsNumber t → begins (in_class classes.Digit) rest ≡ false → Told kinds.Number t rest
unfolding front
number_told [] rest h num stops = let k = h.0 in absurd cc
number_told (b ∷ bs) rest h num stops =
    let len = run_len_is (in_class classes.Digit) (b ∷ bs) rest h.1 stops in
    let is : is_some (number_of (b ∷ bs)) ≡ true = elim (number_tells (b ∷ bs)) [ inl k ↦ k.0 | inr k ↦ absurd (k.1 num) ] in
    let go : ℕ → Answer = λ (n : ℕ). number_token (number_of (take n (b ∷ (bs ++ rest)))) n in
    let taken : take (length (b ∷ bs)) (b ∷ (bs ++ rest)) ≡ b ∷ bs = take_at (b ∷ bs) rest (length (b ∷ bs)) refl in
    let fits : number_token (number_of (b ∷ bs)) (length (b ∷ bs)) ≡ token (kinds.Number, length (b ∷ bs)) = rw is refl in
    rw (digit_lead b h.0) (ap go len ∙ ap (λ (l : List ℕ). number_token (number_of l) (length (b ∷ bs))) taken ∙ fits)

quoted_told : (name rest : List ℕ) → is_name name ≡ true → begins (λ b. nat_eq b 34) rest ≡ false → Told kinds.Quoted (enclosed 34 name) rest
unfolding front
quoted_told name rest named stops =
    let named_is : quoted_token (Some (name, length (doubled 34 name) + 1)) ≡ token (kinds.Quoted, length (doubled 34 name) + 1 + 1) = rw named refl in
    ap front (enclosed-append 34 name rest) ∙ ap quoted_token (closing-doubled 34 name rest stops) ∙ named_is ∙ ap (λ (n : ℕ). token (kinds.Quoted, n)) (sym (length-enclosed 34 name))

string_told : (text rest : List ℕ) → begins (λ b. nat_eq b 39) rest ≡ false → Told kinds.Str (enclosed 39 text) rest
unfolding front
string_told text rest stops =
    ap front (enclosed-append 39 text rest) ∙ ap string_token (closing-doubled 39 text rest stops) ∙ ap (λ (n : ℕ). token (kinds.Str, n)) (sym (length-enclosed 39 text))

-- digits lack a `'`
hex_digit_no_quote : (c : ℕ) → in_class classes.HexDigit c ≡ true → no_quote c ≡ true
hex_digit_no_quote c h =
    elim (or_cases (is_between 48 57 c) (is_between 97 102 c) h) [
      | inl t ↦ (let r = between 48 57 c t in rw (ne_eqb c 39 (λ e. omega arith)) refl)
      | inr t ↦ (let r = between 97 102 c t in rw (ne_eqb c 39 (λ e. omega arith)) refl)
    ]

hex_digits_lack : (ds : List ℕ) → list_all (in_class classes.HexDigit) ds ≡ true → Lacks 39 ds
hex_digits_lack [] h = refl
hex_digits_lack (d ∷ ds) h = let p = and_parts (in_class classes.HexDigit d) (list_all (in_class classes.HexDigit) ds) h in and_from (no_quote d) (list_all no_quote ds) (hex_digit_no_quote d p.0) (hex_digits_lack ds p.1)

-- what stands behind `x'`, up to the next `'`
pub hex_front : (inside rest : List ℕ) → Lacks 39 inside → front (hex_text inside ++ rest) ≡ cond (is_hex inside) (token (kinds.Hex, length inside + 3)) (error BadHex)
unfolding front
hex_front inside rest lacks =
    let all = inside ++ 39 ∷ rest in
    let regrouped : (inside ++ 39 ∷ []) ++ rest ≡ all = append_assoc inside (39 ∷ []) rest in
    let len : quote_at all ≡ length inside = run_len_is no_quote inside (39 ∷ rest) lacks refl in
    let short : nat_eq (length inside) (length all) ≡ false = ne_eqb (length inside) (length all) (λ e. omega (arith, length-append inside (39 ∷ rest))) in
    let taken : take (length inside) all ≡ inside = take_at inside (39 ∷ rest) (length inside) refl in
    let at : hex_before (length inside) all ≡ cond (is_hex inside) (token (kinds.Hex, length inside + 3)) (error BadHex) = rw (short, taken) refl in
    ap (λ (l : List ℕ). front (120 ∷ 39 ∷ l)) regrouped ∙ ap (λ (n : ℕ). hex_before n all) len ∙ at

hex_told : (digits rest : List ℕ) → is_hex digits ≡ true → Told kinds.Hex (hex_text digits) rest
hex_told digits rest h =
    let len : length digits + 3 ≡ length (hex_text digits) = omega (arith, length-append digits (39 ∷ [])) in
    hex_front digits rest (hex_digits_lack digits (and_parts (nat_eq (length digits % 2) 0) (list_all (in_class classes.HexDigit) digits) h).1) ∙ ap (λ (t : Bool). cond t (token (kinds.Hex, length digits + 3)) (error BadHex)) h ∙ ap (λ (n : ℕ). token (kinds.Hex, n)) len

mark_told : (b : ℕ) (rest : List ℕ) → is_mark b ≡ true → Told kinds.Mark (b ∷ []) rest
unfolding front
mark_told b rest h = rw (mark_lead b h) refl

pub standing_is_found : StandingIsFound
standing_is_found kinds.Keyword t rest s = keyword_told t rest s.is_token s.is_longest
standing_is_found kinds.Plain t rest s = plain_told t rest s.is_token.0 s.is_token.1 s.is_longest
standing_is_found kinds.Quoted t rest s = let is : enclosed 34 s.is_token.0 ≡ t = sym s.is_token.2 in subst (λ (l : List ℕ). Told kinds.Quoted l rest) is (quoted_told s.is_token.0 rest s.is_token.1 s.is_longest)
standing_is_found kinds.Str t rest s = let is : enclosed 39 s.is_token.0 ≡ t = sym s.is_token.1 in subst (λ (l : List ℕ). Told kinds.Str l rest) is (string_told s.is_token.0 rest s.is_longest)
standing_is_found kinds.Hex t rest s = let is : hex_text s.is_token.0 ≡ t = sym s.is_token.2 in subst (λ (l : List ℕ). Told kinds.Hex l rest) is (hex_told s.is_token.0 rest s.is_token.1)
standing_is_found kinds.Number t rest s = number_told t rest s.is_token.0 s.is_token.1 s.is_longest
standing_is_found kinds.Mark t rest s = let is : s.is_token.0 ∷ [] ≡ t = sym s.is_token.2 in subst (λ (l : List ℕ). Told kinds.Mark l rest) is (mark_told s.is_token.0 rest s.is_token.1)

pub answer_within : (bytes : List ℕ) (r : Answer) → r ≡ front bytes → IfOk r (λ x. (0 < x.1) × (x.1 ≤ length bytes))
answer_within bytes (Ok x) e = front_within bytes x (sym e)
answer_within bytes (Err k) e = tt
