use Rattle.cluster_meaning.proofs.CarriedBlocks.{carried_blocks}
use Rattle.cluster_meaning.proofs.laws.carried_blocks_law.Goals as goal

pub returns : goal.returns
returns c = carried_blocks
