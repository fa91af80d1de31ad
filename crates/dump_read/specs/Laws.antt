-- Laws of reading, in the words of the table of the grammar.
use Rattle.std.specs.Prelude.{◌≡◌, ◌≤◌, List, [], ◌∷◌, ◌++◌, length, map, Some, None, Ok}
use Rattle.dump_lex.specs.Place.{Place, PlacedToken, rest_of}
use Rattle.dump_lex.specs.Reading.{Reads, word_of}
use Rattle.dump_grammar.specs.declared.statement.Statement.{Statement}
use Rattle.dump_grammar.specs.Pieces.{pieces}
use Rattle.dump_grammar.specs.Spelling.{Word, Spell, IsStatement}
use Rattle.dump_read.specs.Form.{form}
use Rattle.dump_read.specs.Reading.{PlacedStatement, statement_at, Stand, statement_in}

-- words that spell a statement are read as it
abbrev pub SpelledIsRead : Type 0
SpelledIsRead = (s : Statement) (ws : List Word) → IsStatement s → Spell ws (pieces s) → form ws ≡ Some s

-- and what is read is a statement that the words spell
abbrev pub ReadIsSpelled : Type 0
ReadIsSpelled = (ws : List Word) (s : Statement) → form ws ≡ Some s → Spell ws (pieces s) × IsStatement s

-- the words spell the statements one after another
abbrev pub SpellAll : List Word → List Statement → Type 0
SpellAll ws [] = ws ≡ []
SpellAll ws (s ∷ ss) = (front rest : List Word) × (ws ≡ front ++ rest) × Spell front (pieces s) × SpellAll rest ss

abbrev pub AreStatements : List Statement → Type 0
AreStatements [] = Unit {0}
AreStatements (s ∷ ss) = IsStatement s × AreStatements ss

-- where the tokens of a text spell statements one after another, these statements stand, and then the text ends
abbrev pub SpelledTextStands : Type 0
SpelledTextStands = (p : Place) (tokens : List PlacedToken) (statements : List Statement) → Reads p tokens None → SpellAll (map word_of tokens) statements → AreStatements statements
    → (xs : List PlacedStatement) × (q : Place) × Stand p xs q × (map statement_in xs ≡ statements) × (statement_at q ≡ Ok None) × (length xs ≤ length (rest_of p))
