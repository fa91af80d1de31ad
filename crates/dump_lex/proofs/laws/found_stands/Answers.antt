use Rattle.dump_lex.proofs.Standing as standing
use Rattle.dump_lex.proofs.laws.found_stands.Goals as goal

pub returns : goal.returns
returns c = standing.found_stands
