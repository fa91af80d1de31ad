use Rattle.dump_lex.proofs.Parsing as parsing
use Rattle.dump_lex.proofs.laws.reading_parses.Goals as goal

pub returns : goal.returns
returns c = parsing.reading_parses
