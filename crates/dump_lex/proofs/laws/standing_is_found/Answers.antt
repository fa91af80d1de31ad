use Rattle.dump_lex.proofs.Standing as standing
use Rattle.dump_lex.proofs.laws.standing_is_found.Goals as goal

pub returns : goal.returns
returns c = standing.standing_is_found
