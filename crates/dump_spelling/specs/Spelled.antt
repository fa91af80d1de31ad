-- The lines of statements, as tokens.
use Rattle.std.specs.Prelude.{List, [], ◌∷◌, map, None}
use Rattle.std.specs.List.{flat_map}
use Rattle.dump_lex.specs.Reading.{Parses}
use Rattle.dump_grammar.specs.declared.statement.Statement.{Statement}
use Rattle.dump_grammar.specs.Pieces.{pieces}
use Rattle.dump_grammar.specs.Spelling.{Word, Spell, written, IsStatement, IsWritable, lines_of}

-- the words that a statement's line has
abbrev pub words_of : Statement → List Word
words_of s = map written (pieces s)

-- each is a statement that can be written
abbrev pub AreWritable : List Statement → Type 0
AreWritable [] = Unit {0}
AreWritable (s ∷ ss) = (IsStatement s × IsWritable s) × AreWritable ss

-- the words of each spell it
abbrev pub AreSpelled : List Statement → Type 0
AreSpelled [] = Unit {0}
AreSpelled (s ∷ ss) = Spell (words_of s) (pieces s) × AreSpelled ss

abbrev pub LinesAreSpelled : Type 0
LinesAreSpelled = (ss : List Statement) → AreWritable ss → Parses (lines_of ss) (flat_map words_of ss) None × AreSpelled ss
