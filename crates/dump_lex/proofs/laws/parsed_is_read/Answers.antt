use Rattle.dump_lex.proofs.Parsing as parsing
use Rattle.dump_lex.proofs.laws.parsed_is_read.Goals as goal

pub returns : goal.returns
returns c = parsing.parsed_is_read
