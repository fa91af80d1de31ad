use Rattle.dump_lex.proofs.Separators as separators
use Rattle.dump_lex.proofs.laws.separated_is_blank.Goals as goal

pub returns : goal.returns
returns c = separators.separated_is_blank
