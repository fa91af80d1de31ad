use Rattle.dump_lex.proofs.Failing as failing
use Rattle.dump_lex.proofs.laws.error_holds.Goals as goal

pub returns : goal.returns
returns c = failing.error_holds
