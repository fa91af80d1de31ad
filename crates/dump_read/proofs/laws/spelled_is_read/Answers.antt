use Rattle.dump_read.proofs.StatementForth as proved
use Rattle.dump_read.proofs.laws.spelled_is_read.Goals as goal

pub returns : goal.returns
returns c = proved.spelled_is_read
