use Rattle.dump_read.proofs.StatementBack as proved
use Rattle.dump_read.proofs.laws.read_is_spelled.Goals as goal

pub returns : goal.returns
returns c = proved.read_is_spelled
