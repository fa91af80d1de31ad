-- The words that stand next in a text.
use Rattle.std.specs.Prelude.{◌≡◌, ◌<◌, ℕ, zero, suc, List, [], ◌∷◌, length, Option, Some, None, Result, Ok, Err}
use Rattle.dump_lex.specs.declared.token.LexError.{LexError}
use Rattle.dump_lex.specs.Place.{Place, PlacedToken, next, rest_of}
use Rattle.dump_lex.specs.Reading.{word_of}
use Rattle.dump_grammar.specs.declared.error.TextError.{TextError}
use Rattle.dump_grammar.specs.Spelling.{Word}
use Rattle.dump_read.specs.Reading.{Front, gather}

-- the word of a token that was found, and those that go on from the place behind it
abbrev pub words_on : (Place → List Word) → Result (Option (PlacedToken × Place)) LexError → List Word
words_on go (Ok (Some x)) = word_of x.0 ∷ go x.1
words_on go (Ok None) = []
words_on go (Err e) = []

-- the words of the next tokens behind a place: so many, or as many as there are
unfoldable pub words_ahead : ℕ → Place → List Word
words_ahead zero p = []
words_ahead (suc n) p = words_on (words_ahead n) (next p)

abbrev pub first_line : List PlacedToken → ℕ
first_line [] = 0
first_line (t ∷ ts) = t.line

-- So many tokens were gathered, the first on that line, and behind them is the place.
abbrev pub IsExtent : Result Front TextError → ℕ → ℕ → Place → Type 0
IsExtent gathered count line after = (ts : List PlacedToken) × (gathered ≡ Ok (ts, after)) × (length ts ≡ count) × (first_line ts ≡ line)

-- The tokens of a statement stand next: at least one, and none up to its end is an error.
abbrev pub StandsNext : Place → Type 0
StandsNext p = (x : Front) × (gather (suc (length (rest_of p))) p ≡ Ok x) × (0 < length x.0)
