use Rattle.relation_files.proofs.Carried.{carried_again}
use Rattle.relation_files.proofs.laws.carried_again_law.Goals as goal

pub returns : goal.returns
returns c = carried_again
