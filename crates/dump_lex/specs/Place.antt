-- A place in a text, and the next token behind it.
use Rattle.std.specs.Prelude.{◌≡◌, ℕ, ◌+◌, ◌<◌, ◌≤◌, true, false, List, [], ◌∷◌, length, take, drop, count_by, Option, Some, None, Result, Ok, Err}
use Rattle.dump_lex.specs.declared.token.TokenKind.{TokenKind}
use Rattle.dump_lex.specs.declared.token.TokenKind.TheVariants as kinds
use Rattle.dump_lex.specs.declared.token.LexKind.{LexKind}
use Rattle.dump_lex.specs.declared.token.LexError.{LexError}
use Rattle.dump_lex.specs.declared.token.Token.{Token}
use Rattle.dump_lex.specs.Bytes.{is_newline, blanks}
use Rattle.dump_lex.specs.Value.{is_name, name_of}
use Rattle.dump_lex.specs.Front.{front}

-- a place in a text, as how many bytes of the text stand before it
pub record Place : Type 0 where
  pub source : List ℕ
  pub start : ℕ

abbrev pub rest_of : Place → List ℕ
rest_of p = drop p.start p.source

-- the line of the byte at a place, from 1
abbrev pub line_at : List ℕ → ℕ → ℕ
line_at source start = 1 + count_by is_newline (take start source)

-- a token apart from where it lies in memory
pub record PlacedToken : Type 0 where
  pub kind : TokenKind
  pub text : List ℕ
  pub start : ℕ
  pub line : ℕ

abbrev pub view : Token → PlacedToken
view t = record { kind = t.kind; text = t.text.now; start = t.start; line = t.line }

-- the token at a place where no separator stands, and the place behind it
abbrev pub token_there : List ℕ → ℕ → List ℕ → Result (TokenKind × ℕ) LexKind → Result (Option (PlacedToken × Place)) LexError
token_there source start bytes (Ok x) =
    Ok (Some (record { kind = x.0; text = take x.1 bytes; start = start; line = line_at source start }, record { source = source; start = start + x.1 }))
token_there source start bytes (Err kind) = Err (record { line = line_at source start; kind = kind })

abbrev pub token_or_end : List ℕ → ℕ → List ℕ → Result (Option (PlacedToken × Place)) LexError
token_or_end source start [] = Ok None
token_or_end source start (b ∷ bs) = token_there source start (b ∷ bs) (front (b ∷ bs))

-- the next token behind a place, and the place behind the token; nothing at the end of the text
unfoldable pub next : Place → Result (Option (PlacedToken × Place)) LexError
next p = let n = blanks false (rest_of p) in token_or_end p.source (p.start + n) (drop n (rest_of p))

-- What the lexer answered, and where it then is, is the next token. At the end and after an error it stays.
abbrev pub Steps : Result (Option (PlacedToken × Place)) LexError → Place → Place → Result (Option Token) LexError → Type 0
Steps found old new (Ok None) = (found ≡ Ok None) × (new ≡ old)
Steps found old new (Ok (Some t)) = found ≡ Ok (Some (view t, new))
Steps found old new (Err e) = (found ≡ Err e) × (new ≡ old)

-- the token's text is the source's slice at its start
abbrev pub IsSlice : List ℕ → Token → Type 0
IsSlice source t = t.text.now ≡ take (length t.text.now) (drop t.start source)

-- the token has a byte, begins no sooner than the old place, and ends at the new one
abbrev pub IsInOrder : Place → Place → Token → Type 0
IsInOrder old new t = (0 < length t.text.now) × (old.start ≤ t.start) × (new.start ≡ t.start + length t.text.now)

-- the name that a plain word or a quoted name is, is one
abbrev pub IsNamed : TokenKind → List ℕ → Type 0
IsNamed kinds.Plain text = is_name text ≡ true
IsNamed kinds.Quoted text = is_name (name_of kinds.Quoted text) ≡ true
IsNamed _ text = Unit {0}
