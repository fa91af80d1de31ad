-- The statements of a text, up to the first that can't be read.
use Rattle.std.specs.Prelude.{◌≡◌, ℕ, zero, suc, List, [], ◌∷◌, ◌++◌, length, map, Option, Some, None, Result, Ok, Err, if◌then◌else◌}
use Rattle.dump_lex.specs.declared.token.LexError.{LexError}
use Rattle.dump_lex.specs.Place.{Place, PlacedToken, next, rest_of}
use Rattle.dump_lex.specs.Reading.{word_of}
use Rattle.dump_grammar.specs.declared.error.TextError.{TextError}
use Rattle.dump_grammar.specs.declared.error.TextCause.TheVariants.{Lex, UnknownStatement}
use Rattle.dump_grammar.specs.declared.statement.Statement.{Statement}
use Rattle.dump_read.specs.Form.{is_end, form}

infixl 10 ◌>>=◌
abbrev pub ◌>>=◌ : {A B : Type 0} → Result A TextError → (A → Result B TextError) → Result B TextError
(Ok x) >>= f = f x
(Err e) >>= f = Err e

-- tokens, and the place behind them
abbrev pub Front : Type 0
Front = List PlacedToken × Place

abbrev pub lex_error : LexError → TextError
lex_error e = record { line = e.line; cause = Lex e.kind }

abbrev pub with_tokens : List PlacedToken → Result Front TextError → Result Front TextError
with_tokens front read = read >>= λ x. Ok (front ++ x.0, x.1)

-- the token that was found, and those that go on from the place behind it, unless it is a `;`
abbrev pub gathered : (Place → Result Front TextError) → Place → Result (Option (PlacedToken × Place)) LexError → Result Front TextError
gathered go p (Err e) = Err (lex_error e)
gathered go p (Ok None) = Ok ([], p)
gathered go p (Ok (Some x)) = if is_end (word_of x.0) then Ok (x.0 ∷ [], x.1) else with_tokens (x.0 ∷ []) (go x.1)

-- the tokens up to the first `;`, with it, or to the end of the text; at most so many
unfoldable pub gather : ℕ → Place → Result Front TextError
gather zero p = Ok ([], p)
gather (suc n) p = gathered (gather n) p (next p)

-- a statement, the line where it begins, and the place behind it
pub record PlacedStatement : Type 0 where
  pub line : ℕ
  pub statement : Statement
  pub after : Place

abbrev pub placed_as : ℕ → Place → Option Statement → Result (Option PlacedStatement) TextError
placed_as line after None = Err (record { line = line; cause = UnknownStatement })
placed_as line after (Some s) = Ok (Some (record { line = line; statement = s; after = after }))

abbrev pub placed_of : Front → Result (Option PlacedStatement) TextError
placed_of ([], after) = Ok None
placed_of (t ∷ ts, after) = placed_as t.line after (form (map word_of (t ∷ ts)))

-- the statement behind a place: nothing at the end of the text
unfoldable pub statement_at : Place → Result (Option PlacedStatement) TextError
statement_at p = gather (suc (length (rest_of p))) p >>= placed_of

-- the statements stand behind the place one after another, up to the second place
abbrev pub Stand : Place → List PlacedStatement → Place → Type 0
Stand p [] q = p ≡ q
Stand p (x ∷ xs) q = (statement_at p ≡ Ok (Some x)) × Stand x.after xs q

abbrev pub statement_in : PlacedStatement → Statement
statement_in x = x.statement
