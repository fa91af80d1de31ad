-- Each piece is written by one token, which no byte that follows makes longer.
use Rattle.std.proofs.Common.{append_assoc, ◌≡◌, ℕ, ◌≤◌, Bool, true, false, cond, List, [], ◌∷◌, ◌++◌, map, Some, refl, sym, ap, subst, ◌∙◌}
use Rattle.std.specs.Prelude.{◌&&◌, ◌||◌, nat_eq}
use Rattle.std.specs.Str.{is_utf8}
use Rattle.std.proofs.lemmas.Bool.{eqb-true}
use Rattle.fs_model.specs.PathText.{path_in, text_of as path_text}
use Rattle.dump_lex.specs.declared.token.TokenKind.{TokenKind}
use Rattle.dump_lex.specs.declared.token.TokenKind.TheVariants as tokens
use Rattle.dump_lex.specs.declared.bytes.Class.TheVariants as classes
use Rattle.dump_lex.specs.Bytes.{in_class, is_mark, begins}
use Rattle.dump_lex.specs.Grammar.{IsToken, joins, is_x}
use Rattle.dump_lex.specs.Value.{is_name}
use Rattle.dump_lex.specs.Written.{is_word, are_bytes, name_kind}
use Rattle.dump_lex.proofs.Values.{values_are_read}
use Rattle.dump_grammar.specs.Pieces.{Piece, keyword, plain, mark, name, number, string, location, hex}
use Rattle.dump_grammar.specs.Spelling.{is_name_kind, Writes, Spell, written, text_of, opens, closes, gap, behind}

-- what a piece is to be, so that it can be written
abbrev pub IsPiece : Piece → Type 0
IsPiece (keyword text) = IsToken tokens.Keyword text
IsPiece (plain text) = IsToken tokens.Plain text
IsPiece (mark b) = is_mark b ≡ true
IsPiece (name n) = is_name n ≡ true
IsPiece (number n) = n ≤ 4294967295
IsPiece (string text) = Unit {0}
IsPiece (location path) = (is_utf8 (path_text path) ≡ true) × (path_in (path_text path) ≡ Some path)
IsPiece (hex bytes) = are_bytes bytes ≡ true

abbrev pub ArePieces : List Piece → Type 0
ArePieces [] = Unit {0}
ArePieces (p ∷ ps) = IsPiece p × ArePieces ps

pub is_token : (p : Piece) → IsPiece p → IsToken (written p).0 (written p).1
is_token (keyword text) h = h
is_token (plain text) h = h
is_token (mark b) h = (b, h, refl)
is_token (name n) h = (values_are_read.a_name n h).0
is_token (number n) h = (values_are_read.a_number n h).0
is_token (string text) h = (values_are_read.a_string text).0
is_token (location path) h = (values_are_read.a_string (path_text path)).0
is_token (hex bytes) h = (values_are_read.a_hex bytes h).0

-- ---- the token writes the piece

name_kind_is : (n : List ℕ) → is_name_kind (name_kind n) ≡ true
name_kind_is n = elim (is_word n) as (λ (b : Bool). is_name_kind (cond b tokens.Plain tokens.Quoted) ≡ true) [ true ↦ refl | false ↦ refl ]

writes : (p : Piece) → IsPiece p → Writes (written p) p
writes (keyword text) h = refl
writes (plain text) h = refl
writes (mark b) h = refl
writes (name n) h = (name_kind_is n, (values_are_read.a_name n h).1, h)
writes (number n) h = (refl, (values_are_read.a_number n h).1)
writes (string text) h = (refl, (values_are_read.a_string text).1)
writes (location path) h =
    let s = (values_are_read.a_string (path_text path)).1 in
    (refl, ap is_utf8 s ∙ h.0, ap path_in s ∙ h.1)
writes (hex bytes) h = (refl, (values_are_read.a_hex bytes h).1)

pub spell_written : (ps : List Piece) → ArePieces ps → Spell (map written ps) ps
spell_written [] h = tt
spell_written (p ∷ ps) h = (writes p h.0, spell_written ps h.1)

-- ---- what follows a token

-- a byte that makes no token longer
record Stop (b : ℕ) : Type 0 where
  upper : in_class classes.Upper b ≡ false
  word : in_class classes.Word b ≡ false
  digit : in_class classes.Digit b ≡ false
  quote : nat_eq b 34 ≡ false
  apostrophe : nat_eq b 39 ≡ false

stop_space : Stop 32
stop_space = record { upper = refl; word = refl; digit = refl; quote = refl; apostrophe = refl }

stop_newline : Stop 10
stop_newline = record { upper = refl; word = refl; digit = refl; quote = refl; apostrophe = refl }

and_false : (a : Bool) → (a && false) ≡ false
and_false true = refl
and_false false = refl

stops : (kind : TokenKind) (t : List ℕ) (b : ℕ) → Stop b → joins kind t b ≡ false
stops tokens.Keyword t b s = s.upper
stops tokens.Plain t b s = rw (s.word, s.apostrophe) (and_false (is_x t))
stops tokens.Quoted t b s = s.quote
stops tokens.Str t b s = s.apostrophe
stops tokens.Hex t b s = refl
stops tokens.Number t b s = s.digit
stops tokens.Mark t b s = refl

-- the marks
stop_mark_at : (b n : ℕ) → nat_eq b n ≡ true → Stop n → Stop b
stop_mark_at b n e s = subst Stop (sym (eqb-true b n e)) s

-- `a || b || c || d || e` is grouped to the left
stop_mark : (b : ℕ) → is_mark b ≡ true → Stop b
stop_mark b h = one (nat_eq b 40) (nat_eq b 41) (nat_eq b 44) (nat_eq b 59) (nat_eq b 46) refl refl refl refl refl h
  where
    one : (p q r s t : Bool) → nat_eq b 40 ≡ p → nat_eq b 41 ≡ q → nat_eq b 44 ≡ r → nat_eq b 59 ≡ s → nat_eq b 46 ≡ t → (p || q || r || s || t) ≡ true → Stop b
    one true q r s t e f g i j k = stop_mark_at b 40 e (record { upper = refl; word = refl; digit = refl; quote = refl; apostrophe = refl })
    one false true r s t e f g i j k = stop_mark_at b 41 f (record { upper = refl; word = refl; digit = refl; quote = refl; apostrophe = refl })
    one false false true s t e f g i j k = stop_mark_at b 44 g (record { upper = refl; word = refl; digit = refl; quote = refl; apostrophe = refl })
    one false false false true t e f g i j k = stop_mark_at b 59 i (record { upper = refl; word = refl; digit = refl; quote = refl; apostrophe = refl })
    one false false false false true e f g i j k = stop_mark_at b 46 j (record { upper = refl; word = refl; digit = refl; quote = refl; apostrophe = refl })
    one false false false false false e f g i j k = absurd cc

-- a mark is made longer by no byte
opened_longest : (p : Piece) (rest : List ℕ) → opens p ≡ true → begins (joins (written p).0 (written p).1) rest ≡ false
opened_longest (mark b) [] h = refl
opened_longest (mark b) (c ∷ cs) h = refl
opened_longest (keyword text) rest h = absurd cc
opened_longest (plain text) rest h = absurd cc
opened_longest (name n) rest h = absurd cc
opened_longest (number n) rest h = absurd cc
opened_longest (string text) rest h = absurd cc
opened_longest (location path) rest h = absurd cc
opened_longest (hex bytes) rest h = absurd cc

-- a piece with no space before it begins with a byte that makes no token longer
closing_stops : (p q : Piece) (rest : List ℕ) → IsPiece q → closes q ≡ true → begins (joins (written p).0 (written p).1) (text_of q ++ rest) ≡ false
closing_stops p (mark b) rest h c = stops (written p).0 (written p).1 b (stop_mark b h)
closing_stops p (keyword text) rest h c = absurd cc
closing_stops p (plain text) rest h c = absurd cc
closing_stops p (name n) rest h c = absurd cc
closing_stops p (number n) rest h c = absurd cc
closing_stops p (string text) rest h c = absurd cc
closing_stops p (location path) rest h c = absurd cc
closing_stops p (hex bytes) rest h c = absurd cc

gapped : (p q : Piece) (more : List ℕ) (a b : Bool) → opens p ≡ a → closes q ≡ b → IsPiece q → begins (joins (written p).0 (written p).1) (cond (a || b) [] (32 ∷ []) ++ (text_of q ++ more)) ≡ false
gapped p q more true b e f h = opened_longest p (text_of q ++ more) e
gapped p q more false true e f h = closing_stops p q more h f
gapped p q more false false e f h = stops (written p).0 (written p).1 32 stop_space

-- what stands behind a piece makes its token no longer
pub longest : (p : Piece) (ps : List Piece) (rest : List ℕ) → ArePieces ps → begins (joins (written p).0 (written p).1) (behind p ps ++ rest) ≡ false
longest p [] rest h = stops (written p).0 (written p).1 10 stop_newline
longest p (q ∷ qs) rest h =
    let regrouped : behind p (q ∷ qs) ++ rest ≡ gap p q ++ (text_of q ++ (behind q qs ++ rest)) =
    append_assoc (gap p q) (text_of q ++ behind q qs) rest ∙ ap (λ (l : List ℕ). gap p q ++ l) (append_assoc (text_of q) (behind q qs) rest) in
    ap (begins (joins (written p).0 (written p).1)) regrouped ∙ gapped p q (behind q qs ++ rest) (opens p) (closes q) refl refl h.0
