-- What the lexer reads is the text in the grammar's words, and the other way round.
use Rattle.std.proofs.Common.{◌≡◌, ℕ, ◌+◌, ◌<◌, true, false, List, [], ◌∷◌, ◌++◌, length, take, drop, map, Option, Some, None, Ok, Err, refl, sym, ap, subst, ◌∙◌, length-append, arith}
use Rattle.std.specs.Prelude.{nat_eq, option_map}
use Rattle.std.proofs.lemmas.Bool.{ne_eqb, or_from, and_left}
use Rattle.std.proofs.lemmas.List.{append-nil, take-append-drop, take_at, drop_at, drop-drop}
use Rattle.dump_lex.specs.declared.token.TokenKind.{TokenKind}
use Rattle.dump_lex.specs.declared.token.TokenKind.TheVariants as kinds
use Rattle.dump_lex.specs.declared.token.LexKind.{LexKind}
use Rattle.dump_lex.specs.declared.token.LexError.{LexError}
use Rattle.dump_lex.specs.declared.bytes.Lead.TheVariants as leads
use Rattle.dump_lex.specs.Bytes.{begins, begins_blank, blanks, is_separator, starts_comment, is_dash, is_mark, lead_of}
use Rattle.dump_lex.specs.Front.{front}
use Rattle.dump_lex.specs.Grammar.{Separates, IsToken}
use Rattle.dump_lex.specs.Place.{Place, PlacedToken, rest_of, line_at, token_there, token_or_end, next}
use Rattle.dump_lex.specs.Reading.{Reads, Parses, at_end, at_error, at_token, word_of, why, ReadingParses, ParsedIsRead}
use Rattle.dump_lex.proofs.Standing.{Answer, token, error, found_stands, standing_is_found, token_some}
use Rattle.dump_lex.proofs.Failing.{error_holds, failing_is_told}
use Rattle.dump_lex.proofs.Separators.{blanks_separate, separated_is_blank}
use Rattle.dump_lex.proofs.Runs.{between}
use Rattle.dump_lex.proofs.Leads.{lower_range, mark_lead}
use Rattle.dump_lex.proofs.Places.{next_is, next_there}
use Rattle.dump_lex.proofs.Readings.{Step, step, ended, failed}

-- ---- what a step of the lexer says of the bytes at its place

abbrev StepMeans : List ℕ → ℕ → List ℕ → Step → Type 0
StepMeans source at bytes (Ok None) = bytes ≡ []
StepMeans source at bytes (Ok (Some x)) = (n : ℕ) × (front bytes ≡ token (x.0.kind, n)) × (take n bytes ≡ x.0.text) × (record { source = source; start = at + n } ≡ x.1)
StepMeans source at bytes (Err e) = (0 < length bytes) × (front bytes ≡ error e.kind)

answer_means : (source : List ℕ) (at : ℕ) (bytes : List ℕ) (a : Answer) (r : Step) → 0 < length bytes → front bytes ≡ a → token_there source at bytes a ≡ r → StepMeans source at bytes r
answer_means source at bytes a r lt is e = subst (StepMeans source at bytes) e (means a is)
  where
    means : (b : Answer) → front bytes ≡ b → StepMeans source at bytes (token_there source at bytes b)
    means (Ok x) h = (x.1, h, refl, refl)
    means (Err k) h = (lt, h)

step_means : (source : List ℕ) (at : ℕ) (bytes : List ℕ) (r : Step) → token_or_end source at bytes ≡ r → StepMeans source at bytes r
step_means source at [] r e = subst (StepMeans source at []) e refl
step_means source at (b ∷ bs) r e = answer_means source at (b ∷ bs) (front (b ∷ bs)) r (omega arith) refl e

next_means : (p : Place) (r : Step) → next p ≡ r → StepMeans p.source (p.start + blanks false (rest_of p)) (drop (blanks false (rest_of p)) (rest_of p)) r
unfolding next
next_means p r e = step_means p.source (p.start + blanks false (rest_of p)) (drop (blanks false (rest_of p)) (rest_of p)) r e

pub reading_parses : ReadingParses
reading_parses p [] None h =
    let n = blanks false (rest_of p) in
    let bytes = drop n (rest_of p) in
    let none : bytes ≡ [] = next_means p ended h in
    let whole : take n (rest_of p) ≡ rest_of p = sym (append-nil (take n (rest_of p))) ∙ ap (λ (l : List ℕ). take n (rest_of p) ++ l) (sym none) ∙ take-append-drop n (rest_of p) in
    subst (λ (l : List ℕ). Parses l [] None) whole (at_end (take n (rest_of p)) (subst (λ (l : List ℕ). Separates l (take n (rest_of p))) none (blanks_separate (rest_of p)).0))
reading_parses p [] (Some e) h =
    let n = blanks false (rest_of p) in
    let bytes = drop n (rest_of p) in
    let m = next_means p (failed e) h in
    let s = blanks_separate (rest_of p) in
    subst (λ (l : List ℕ). Parses l [] (Some e.kind)) (take-append-drop n (rest_of p)) (at_error (take n (rest_of p)) bytes e.kind s.0 s.1 m.0 (error_holds bytes e.kind m.1))
reading_parses p (t ∷ ts) end h =
    let n = blanks false (rest_of p) in
    let bytes = drop n (rest_of p) in
    let m = next_means p (step (t, h.0)) h.1 in
    let k = m.0 in
    let s = blanks_separate (rest_of p) in
    let stands = (found_stands bytes t.kind k m.1).1 in
    let parts : take k bytes ++ drop k bytes ≡ bytes = take-append-drop k bytes in
    let left : rest_of h.0 ≡ drop k bytes = ap rest_of (sym m.3) ∙ sym (drop-drop k (p.start + n) p.source) ∙ ap (drop k) (sym (drop-drop n p.start p.source)) in
    let later = subst (λ (l : List ℕ). Parses l (map word_of ts) (option_map why end)) left (reading_parses h.0 ts end h.2) in
    let here = at_token (take n (rest_of p)) (take k bytes) (drop k bytes) t.kind (map word_of ts) (option_map why end) (subst (λ (l : List ℕ). Separates l (take n (rest_of p))) (sym parts) s.0) stands later in
    let whole : take n (rest_of p) ++ (take k bytes ++ drop k bytes) ≡ rest_of p = ap (λ (l : List ℕ). take n (rest_of p) ++ l) parts ∙ take-append-drop n (rest_of p) in
    subst (λ (w : List ℕ). Parses (rest_of p) ((t.kind, w) ∷ map word_of ts) (option_map why end)) m.2 (subst (λ (l : List ℕ). Parses l ((t.kind, take k bytes) ∷ map word_of ts) (option_map why end)) whole here)

-- ---- the other way round

-- no separator begins a token
no_blank : (b : ℕ) (bs : List ℕ) → (b ≡ 32 → ⊥) → (b ≡ 10 → ⊥) → (b ≡ 45 → ⊥) → begins_blank (b ∷ bs) ≡ false
no_blank b bs h k l = or_from (is_separator b) (starts_comment (b ∷ bs)) (or_from (nat_eq b 32) (nat_eq b 10) (ne_eqb b 32 h) (ne_eqb b 10 k)) (and_left (is_dash b) (begins is_dash bs) (ne_eqb b 45 l))

not_mark : (b n : ℕ) → is_mark b ≡ true → lead_of n ≡ leads.Other → b ≡ n → ⊥
not_mark b n h other e = let k : leads.Other ≡ leads.Mark = sym other ∙ sym (ap lead_of e) ∙ mark_lead b h in cc

pub token_no_blank : (kind : TokenKind) (t rest : List ℕ) → IsToken kind t → begins_blank (t ++ rest) ≡ false
token_no_blank kinds.Keyword [] rest h = let k = h.0 in absurd cc
token_no_blank kinds.Keyword (b ∷ bs) rest h = let r = between 65 90 b h.0 in no_blank b (bs ++ rest) (λ e. omega arith) (λ e. omega arith) (λ e. omega arith)
token_no_blank kinds.Plain [] rest h = let k = h.0.0 in absurd cc
token_no_blank kinds.Plain (b ∷ bs) rest h = let r = lower_range b h.0.0 in no_blank b (bs ++ rest) (λ e. omega arith) (λ e. omega arith) (λ e. omega arith)
token_no_blank kinds.Quoted t rest h = ap (λ (l : List ℕ). begins_blank (l ++ rest)) h.2
token_no_blank kinds.Str t rest h = ap (λ (l : List ℕ). begins_blank (l ++ rest)) h.1
token_no_blank kinds.Hex t rest h = ap (λ (l : List ℕ). begins_blank (l ++ rest)) h.2
token_no_blank kinds.Number [] rest h = let k = h.0.0 in absurd cc
token_no_blank kinds.Number (b ∷ bs) rest h = let r = between 48 57 b h.0.0 in no_blank b (bs ++ rest) (λ e. omega arith) (λ e. omega arith) (λ e. omega arith)
token_no_blank kinds.Mark t rest h = ap (λ (l : List ℕ). begins_blank (l ++ rest)) h.2 ∙ no_blank h.0 rest (not_mark h.0 32 h.1 refl) (not_mark h.0 10 h.1 refl) (not_mark h.0 45 h.1 refl)

pub skips_to : (p : Place) (s bytes : List ℕ) → rest_of p ≡ s ++ bytes → Separates bytes s → begins_blank bytes ≡ false → (length s ≡ blanks false (rest_of p)) × (bytes ≡ drop (length s) (rest_of p))
skips_to p s bytes e sep h = (sym (ap (blanks false) e ∙ separated_is_blank s bytes sep h), sym (ap (drop (length s)) e ∙ drop_at s bytes (length s) refl))

abbrev pub Read : Place → List (TokenKind × List ℕ) → Option LexKind → Type 0
Read p words end = (tokens : List PlacedToken) × (e : Option LexError) × Reads p tokens e × (map word_of tokens ≡ words) × (option_map why e ≡ end)

pub parsed : (bytes : List ℕ) (words : List (TokenKind × List ℕ)) (end : Option LexKind) → Parses bytes words end → (p : Place) → rest_of p ≡ bytes → Read p words end
parsed _ _ _ (at_end s sep) p e =
    let k = skips_to p s [] (e ∙ sym (append-nil s)) sep refl in
    ([], None, next_is p.source (rest_of p) [] p.start (length s) refl k.0 k.1, refl, refl)
parsed _ _ _ (at_error s rest kind sep stops lt fails) p e =
    let k = skips_to p s rest e sep stops in
    ([], Some (record { line = line_at p.source (p.start + length s); kind = kind }), next_there p.source (rest_of p) rest p.start (length s) (error kind) refl k.0 k.1 lt (sym (failing_is_told rest kind fails)), refl, refl)
parsed _ _ _ (at_token s t rest kind words end sep stands later) p e =
    let bytes = t ++ rest in
    let k = skips_to p s bytes e sep (token_no_blank kind t rest stands.is_token) in
    let at = p.start + length s in
    let q : Place = record { source = p.source; start = at + length t } in
    let some : 0 < length bytes = omega (arith, token_some kind t stands.is_token, length-append t rest) in
    let here = next_there p.source (rest_of p) bytes p.start (length s) (token (kind, length t)) refl k.0 k.1 some (sym (standing_is_found kind t rest stands)) in
    let left : rest_of q ≡ rest = sym (drop-drop (length t) at p.source) ∙ ap (drop (length t)) (sym (drop-drop (length s) p.start p.source) ∙ sym k.1) ∙ drop_at t rest (length t) refl in
    let on = parsed rest words end later q left in
    let text : take (length t) bytes ≡ t = take_at t rest (length t) refl in
    (record { kind = kind; text = take (length t) bytes; start = at; line = line_at p.source at } ∷ on.0, on.1, (q, here, on.2), (λ i. (kind, text i) ∷ on.3 i), on.4)

pub parsed_is_read : ParsedIsRead
parsed_is_read p words end h = parsed (rest_of p) words end h p refl
