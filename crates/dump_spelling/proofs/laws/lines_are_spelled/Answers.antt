use Rattle.dump_spelling.proofs.Lines as lines
use Rattle.dump_spelling.proofs.laws.lines_are_spelled.Goals as goal

pub returns : goal.returns
returns c = lines.lines_are_spelled
