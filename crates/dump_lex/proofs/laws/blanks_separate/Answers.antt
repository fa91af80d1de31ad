use Rattle.dump_lex.proofs.Separators as separators
use Rattle.dump_lex.proofs.laws.blanks_separate.Goals as goal

pub returns : goal.returns
returns c = separators.blanks_separate
