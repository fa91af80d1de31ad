use Rattle.dump_lex.proofs.Failing as failing
use Rattle.dump_lex.proofs.laws.failing_is_told.Goals as goal

pub returns : goal.returns
returns c = failing.failing_is_told
