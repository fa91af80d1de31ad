-- A text whose tokens spell statements is read as them: a statement's pieces have one `;`, at their end.
use Rattle.std.proofs.Common.{◌≡◌, ℕ, zero, suc, ◌<◌, ◌&&◌, not, Bool, true, false, cond, List, [], ◌∷◌, ◌++◌, length, map, Option, Some, None, Result, Ok, refl, sym, ap, subst, ◌∙◌, arith, pos, negsuc}
use Rattle.std.specs.Prelude.{nat_eq}
use Rattle.std.proofs.lemmas.Bool.{and_parts, and_from, and_left, not-true, eqb-true}
use Rattle.dump_lex.specs.declared.token.TokenKind.TheVariants as tokens
use Rattle.dump_lex.specs.Place.{Place, PlacedToken, next, rest_of}
use Rattle.dump_lex.specs.Reading.{Reads, word_of}
use Rattle.dump_lex.proofs.Readings.{next_within}
use Rattle.dump_grammar.specs.declared.error.TextError.{TextError}
use Rattle.dump_grammar.specs.declared.statement.Statement.{Statement}
use Rattle.dump_grammar.specs.declared.statement.Statement.TheVariants.{Bootstrap, SetNext, CreateRole, CreateTablespace, CreateDatabase, AlterDatabase, Connect, CreateSchema, CreateEnum, AddLabel, CreateTable, CreateIndex, CreateSequence}
use Rattle.dump_grammar.specs.declared.columns.NamedKind.{NamedKind}
use Rattle.dump_grammar.specs.declared.columns.NamedKind.TheVariants.{Base, Enum, Dropped}
use Rattle.dump_grammar.specs.declared.columns.ColumnText.{ColumnText}
use Rattle.dump_grammar.specs.Pieces.{Piece, keyword, plain, mark, name, number, string, location, hex, semicolon, items, more_items, missing_pieces, column_pieces_of, column_pieces, key_pieces, pieces}
use Rattle.dump_grammar.specs.Spelling.{Word, Writes, Spell, IsStatement}
use Rattle.dump_read.specs.Takes.{is_mark_kind, is_mark}
use Rattle.dump_read.specs.Form.{is_end, form}
use Rattle.dump_read.specs.Reading.{◌>>=◌, Front, gathered, with_tokens, gather, PlacedStatement, placed_as, placed_of, statement_at}
use Rattle.dump_read.specs.Laws.{SpellAll, SpelledTextStands}
use Rattle.dump_read.proofs.OneWord.{mark_not, mark_forth}
use Rattle.dump_read.proofs.ColumnReader.{name_no_mark}
use Rattle.dump_read.proofs.StatementForth.{spelled_is_read}

-- ---- the `;` of a statement

abbrev is_semicolon : Piece → Bool
is_semicolon (mark b) = nat_eq b 59
is_semicolon (keyword t) = false
is_semicolon (plain t) = false
is_semicolon (name n) = false
is_semicolon (number n) = false
is_semicolon (string t) = false
is_semicolon (location p) = false
is_semicolon (hex bs) = false

-- a `;` stands at the end, and nowhere else
abbrev ends_once : List Piece → Bool
ends_once [] = false
ends_once (x ∷ []) = is_semicolon x
ends_once (x ∷ y ∷ ps) = not (is_semicolon x) && ends_once (y ∷ ps)

abbrev has_none : List Piece → Bool
has_none [] = true
has_none (x ∷ ps) = not (is_semicolon x) && has_none ps

none-append : (ps qs : List Piece) → has_none ps ≡ true → has_none qs ≡ true → has_none (ps ++ qs) ≡ true
none-append [] qs h k = k
none-append (x ∷ ps) qs h k = let p = and_parts (not (is_semicolon x)) (has_none ps) h in and_from _ _ p.0 (none-append ps qs p.1 k)

-- what stands before `)` and `;`
closed_once : (ps : List Piece) → has_none ps ≡ true → ends_once (ps ++ mark 41 ∷ semicolon ∷ []) ≡ true
closed_once [] h = refl
closed_once (x ∷ []) h = h
closed_once (x ∷ y ∷ ps) h = let p = and_parts (not (is_semicolon x)) (has_none (y ∷ ps)) h in and_from _ _ p.0 (closed_once (y ∷ ps) p.1)

none_missing : (missing : Option (List ℕ)) → has_none (missing_pieces missing) ≡ true
none_missing None = refl
none_missing (Some bytes) = refl

none_column_of : (n : List ℕ) (missing : Option (List ℕ)) (k : NamedKind) → has_none (column_pieces_of n missing k) ≡ true
none_column_of n missing (Base base) = none_missing missing
none_column_of n missing (Enum schema kind) = none_missing missing
none_column_of n missing (Dropped (pos m) align) = refl
none_column_of n missing (Dropped (negsuc m) align) = refl

none_column : (c : ColumnText) → has_none (column_pieces c) ≡ true
none_column c = none_column_of c.name c.missing c.kind

none_more : {A : Type 0} (pieces_of : A → List Piece) → ((x : A) → has_none (pieces_of x) ≡ true) → (xs : List A) → has_none (more_items (map pieces_of xs)) ≡ true
none_more pieces_of each [] = refl
none_more pieces_of each (x ∷ xs) = none-append (pieces_of x) _ (each x) (none_more pieces_of each xs)

none_items : {A : Type 0} (pieces_of : A → List Piece) → ((x : A) → has_none (pieces_of x) ≡ true) → (xs : List A) → has_none (items (map pieces_of xs)) ≡ true
none_items pieces_of each [] = refl
none_items pieces_of each (x ∷ xs) = none-append (pieces_of x) _ (each x) (none_more pieces_of each xs)

-- behind `(`
listed_once : (ps : List Piece) → has_none ps ≡ true → ends_once (mark 40 ∷ (ps ++ mark 41 ∷ semicolon ∷ [])) ≡ true
listed_once ps h = closed_once (mark 40 ∷ ps) h

pieces_once : (s : Statement) → ends_once (pieces s) ≡ true
pieces_once (Bootstrap n) = refl
pieces_once (SetNext kind n) = refl
pieces_once (CreateRole n) = refl
pieces_once (CreateTablespace n owner path) = refl
pieces_once (CreateDatabase n owner) = refl
pieces_once (AlterDatabase n on) = refl
pieces_once (Connect n) = refl
pieces_once (CreateSchema n owner) = refl
pieces_once (CreateEnum schema n owner) = refl
pieces_once (AddLabel schema n text) = refl
pieces_once (CreateTable schema n owner tablespace columns) = listed_once (items (map column_pieces columns)) (none_items column_pieces none_column columns)
pieces_once (CreateIndex n schema table tablespace keys) = listed_once (items (map key_pieces keys)) (none_items key_pieces (λ _. refl) keys)
pieces_once (CreateSequence schema n owner) = refl

nothing_once : (ps : List Piece) → ends_once ps ≡ true → Spell [] ps → ⊥
nothing_once [] e h = absurd cc
nothing_once (x ∷ ps) e h = h

ends_word : (w : Word) (x : Piece) → Writes w x → is_semicolon x ≡ true → is_end w ≡ true
ends_word w (mark b) h e = mark_forth 59 w (h ∙ ap (λ (b : ℕ). (tokens.Mark, b ∷ [])) (eqb-true b 59 e))
ends_word w (keyword t) h e = absurd cc
ends_word w (plain t) h e = absurd cc
ends_word w (name n) h e = absurd cc
ends_word w (number n) h e = absurd cc
ends_word w (string t) h e = absurd cc
ends_word w (location p) h e = absurd cc
ends_word w (hex bs) h e = absurd cc

other_mark : (b : ℕ) → nat_eq b 59 ≡ false → is_mark 59 (tokens.Mark, b ∷ []) ≡ false
unfolding is_mark
other_mark b e = and_left (nat_eq b 59) _ e

other_word : (w : Word) (x : Piece) → Writes w x → is_semicolon x ≡ false → is_end w ≡ false
other_word w (mark b) h e = ap (λ (w : Word). is_mark 59 w) h ∙ other_mark b e
other_word w (keyword t) h e = mark_not 59 w (ap (λ (w : Word). is_mark_kind w.0) h)
other_word w (plain t) h e = mark_not 59 w (ap (λ (w : Word). is_mark_kind w.0) h)
other_word w (name n) h e = mark_not 59 w (name_no_mark w.0 h.0)
other_word w (number n) h e = mark_not 59 w (ap is_mark_kind h.0)
other_word w (string t) h e = mark_not 59 w (ap is_mark_kind h.0)
other_word w (location p) h e = mark_not 59 w (ap is_mark_kind h.0)
other_word w (hex bs) h e = mark_not 59 w (ap is_mark_kind h.0)

-- ---- the tokens of a statement

-- the tokens of the front words are gathered, and the tokens of the rest stand behind
record Gathered (n : ℕ) (p : Place) (front rest : List Word) : Type 0 where
  tokens : List PlacedToken
  later : List PlacedToken
  after : Place
  is : gather n p ≡ Ok (tokens, after)
  words : map word_of tokens ≡ front
  reads : Reads after later None
  behind : map word_of later ≡ rest
  less : length (rest_of after) < length (rest_of p)

same_cons : {A : Type 0} (x y : A) (xs ys : List A) → x ∷ xs ≡ y ∷ ys → (x ≡ y) × (xs ≡ ys)
same_cons x y xs ys e = (cc, cc)

gather_last : (n : ℕ) (p q : Place) (t : PlacedToken) → next p ≡ Ok (Some (t, q)) → is_end (word_of t) ≡ true → gather (suc n) p ≡ Ok (t ∷ [], q)
unfolding gather
gather_last n p q t h e =
    ap (gathered (gather n) p) h ∙ ap (λ (b : Bool). cond b (Ok (t ∷ [], q)) (with_tokens (t ∷ []) (gather n q))) e

gather_on : (n : ℕ) (p q after : Place) (t : PlacedToken) (ts : List PlacedToken) → next p ≡ Ok (Some (t, q)) → is_end (word_of t) ≡ false → gather n q ≡ Ok (ts, after) → gather (suc n) p ≡ Ok (t ∷ ts, after)
unfolding gather
gather_on n p q after t ts h e g =
    ap (gathered (gather n) p) h ∙ ap (λ (b : Bool). cond b (Ok (t ∷ [], q)) (with_tokens (t ∷ []) (gather n q))) e ∙ ap (with_tokens (t ∷ [])) g

gathers : (ps : List Piece) (n : ℕ) (p : Place) (tokens : List PlacedToken) (front rest : List Word) → length (rest_of p) < n → Reads p tokens None → map word_of tokens ≡ front ++ rest → Spell front ps → ends_once ps ≡ true → Gathered n p front rest
gathers [] n p tokens front rest lt reads words spell once = absurd cc
gathers (x ∷ ps) n p tokens [] rest lt reads words spell once = absurd spell
gathers (x ∷ ps) n p [] (w ∷ ws) rest lt reads words spell once = absurd cc
gathers (x ∷ ps) zero p (t ∷ ts) (w ∷ ws) rest lt reads words spell once = absurd (omega arith)
gathers (x ∷ []) (suc n) p (t ∷ ts) (w ∷ []) rest lt reads words spell once =
    let s = same_cons (word_of t) w (map word_of ts) rest words in
    let ends : is_end (word_of t) ≡ true = ap is_end s.0 ∙ ends_word w x spell.0 once in
    record {
      tokens = t ∷ [];
      later = ts;
      after = reads.0;
      is = gather_last n p reads.0 t reads.1 ends;
      words = ap (λ (w : Word). w ∷ []) s.0;
      reads = reads.2;
      behind = s.1;
      less = next_within p (t, reads.0) reads.1;
    }
gathers (x ∷ []) (suc n) p (t ∷ ts) (w ∷ v ∷ ws) rest lt reads words spell once = absurd spell.1
gathers (x ∷ y ∷ ps) (suc n) p (t ∷ ts) (w ∷ ws) rest lt reads words spell once =
    let s = same_cons (word_of t) w (map word_of ts) (ws ++ rest) words in
    let o = and_parts (not (is_semicolon x)) (ends_once (y ∷ ps)) once in
    let other : is_end (word_of t) ≡ false = ap is_end s.0 ∙ other_word w x spell.0 (not-true (is_semicolon x) o.0) in
    let less = next_within p (t, reads.0) reads.1 in
    let g = gathers (y ∷ ps) n reads.0 ts ws rest (omega (arith, less)) reads.2 s.1 spell.1 o.1 in
    record {
      tokens = t ∷ g.tokens;
      later = g.later;
      after = g.after;
      is = gather_on n p reads.0 g.after t g.tokens reads.1 other g.is;
      words = λ i. s.0 i ∷ g.words i;
      reads = g.reads;
      behind = g.behind;
      less = omega (arith, less, g.less);
    }

-- ---- statements

-- a statement has a word
nothing_spelled : (s : Statement) (front : List Word) → front ≡ [] → Spell front (pieces s) → ⊥
nothing_spelled s [] e h = nothing_once (pieces s) (pieces_once s) h
nothing_spelled s (w ∷ ws) e h = absurd cc

-- the statement stands, and behind it the tokens of the rest
record Found (p : Place) (s : Statement) (rest : List Word) : Type 0 where
  placed : PlacedStatement
  later : List PlacedToken
  is : statement_at p ≡ Ok (Some placed)
  statement : placed.statement ≡ s
  reads : Reads placed.after later None
  behind : map word_of later ≡ rest
  less : length (rest_of placed.after) < length (rest_of p)

found_of : (p : Place) (s : Statement) (front rest : List Word) (tokens : List PlacedToken) (g : Gathered (suc (length (rest_of p))) p front rest) → g.tokens ≡ tokens → IsStatement s → Spell front (pieces s) → Found p s rest
unfolding statement_at
found_of p s front rest [] g same valid spell = absurd (nothing_spelled s front (sym g.words ∙ ap (map word_of) same) spell)
found_of p s front rest (t ∷ ts) g same valid spell =
    let line : ℕ = t.line in
    let read : form (map word_of (t ∷ ts)) ≡ Some s = ap form (ap (map word_of) (sym same) ∙ g.words) ∙ spelled_is_read s front valid spell in
    let gather_is : gather (suc (length (rest_of p))) p ≡ Ok (t ∷ ts, g.after) = g.is ∙ ap (λ (ts : List PlacedToken). Ok (ts, g.after)) same in
    record {
      placed = record { line = line; statement = s; after = g.after };
      later = g.later;
      is = ap (λ (r : Result Front TextError). r >>= placed_of) gather_is ∙ ap (placed_as line g.after) read;
      statement = refl;
      reads = g.reads;
      behind = g.behind;
      less = g.less;
    }

nothing_behind : (p : Place) (tokens : List PlacedToken) → Reads p tokens None → map word_of tokens ≡ [] → statement_at p ≡ Ok None
unfolding statement_at gather
nothing_behind p [] reads e = ap (λ r. gathered (gather (length (rest_of p))) p r >>= placed_of) reads
nothing_behind p (t ∷ ts) reads e = absurd cc

pub spelled_text_stands : SpelledTextStands
spelled_text_stands p tokens [] reads spell valid = ([], p, refl, refl, nothing_behind p tokens reads spell, omega arith)
spelled_text_stands p tokens (s ∷ ss) reads spell valid =
    let g = gathers (pieces s) (suc (length (rest_of p))) p tokens spell.0 spell.1 (omega arith) reads spell.2 spell.3 (pieces_once s) in
    let f = found_of p s spell.0 spell.1 g.tokens g refl valid.0 spell.3 in
    let r = spelled_text_stands f.placed.after f.later ss f.reads (subst (λ ws. SpellAll ws ss) (sym f.behind) spell.4) valid.1 in
    (f.placed ∷ r.0, r.1, (f.is, r.2), (λ i. f.statement i ∷ r.3 i), r.4, omega (arith, f.less, r.5))
