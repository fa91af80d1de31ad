-- The reading of a whole text, by the lexer and in the grammar's words.
use Rattle.std.specs.Prelude.{◌≡◌, ℕ, ◌<◌, false, List, [], ◌∷◌, ◌++◌, length, map, Option, Some, None, option_map, Ok, Err}
use Rattle.dump_lex.specs.declared.token.TokenKind.{TokenKind}
use Rattle.dump_lex.specs.declared.token.LexKind.{LexKind}
use Rattle.dump_lex.specs.declared.token.LexError.{LexError}
use Rattle.dump_lex.specs.Bytes.{begins_blank}
use Rattle.dump_lex.specs.Grammar.{Separates, Stands, Fails}
use Rattle.dump_lex.specs.Place.{Place, PlacedToken, rest_of, next}

-- from a place on, the lexer gives these tokens, and then the text ends, or this error stands
abbrev pub Reads : Place → List PlacedToken → Option LexError → Type 0
Reads p [] None = next p ≡ Ok None
Reads p [] (Some e) = next p ≡ Err e
Reads p (t ∷ ts) end = (q : Place) × (next p ≡ Ok (Some (t, q))) × Reads q ts end

-- A text is separators and tokens in turn, each token as long as its bytes allow, up to its end or up to where
-- no token stands.
pub data Parses : List ℕ → List (TokenKind × List ℕ) → Option LexKind → Type 0 where
  at_end : (s : List ℕ) → Separates [] s → Parses s [] None
  at_error : (s rest : List ℕ) (kind : LexKind) → Separates rest s → begins_blank rest ≡ false → 0 < length rest → Fails kind rest → Parses (s ++ rest) [] (Some kind)
  at_token : (s t rest : List ℕ) (kind : TokenKind) (words : List (TokenKind × List ℕ)) (end : Option LexKind) → Separates (t ++ rest) s → Stands kind t rest → Parses rest words end → Parses (s ++ (t ++ rest)) ((kind, t) ∷ words) end

-- a token apart from where it stands
abbrev pub word_of : PlacedToken → TokenKind × List ℕ
word_of t = (t.kind, t.text)

abbrev pub why : LexError → LexKind
why e = e.kind

-- ---- laws

-- each text is read to its end or to its first error
abbrev pub TextIsRead : Type 0
TextIsRead = (p : Place) → (tokens : List PlacedToken) × (end : Option LexError) × Reads p tokens end

-- in one way only
abbrev pub ReadingIsOne : Type 0
ReadingIsOne = (p : Place) (ts us : List PlacedToken) (d e : Option LexError) → Reads p ts d → Reads p us e → (ts ≡ us) × (d ≡ e)

-- what the lexer reads is the text in the grammar's words
abbrev pub ReadingParses : Type 0
ReadingParses = (p : Place) (tokens : List PlacedToken) (end : Option LexError) → Reads p tokens end → Parses (rest_of p) (map word_of tokens) (option_map why end)

-- and what the text is in the grammar's words, the lexer reads
abbrev pub ParsedIsRead : Type 0
ParsedIsRead = (p : Place) (words : List (TokenKind × List ℕ)) (end : Option LexKind) → Parses (rest_of p) words end
    → (tokens : List PlacedToken) × (error : Option LexError) × Reads p tokens error × (map word_of tokens ≡ words) × (option_map why error ≡ end)
