use Rattle.dump_lex.proofs.Values as values
use Rattle.dump_lex.proofs.laws.values_are_read.Goals as goal

pub returns : goal.returns
returns c = values.values_are_read
