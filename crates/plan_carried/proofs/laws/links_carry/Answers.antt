use Rattle.plan_carried.proofs.Filled.{links_fill, filled_relations}
use Rattle.plan_carried.proofs.laws.links_carry.Goals as goal

pub returns-clause-items : goal.returns-clause-items
returns-clause-items c s t items formed linked changes = links_fill s t items formed linked changes

pub returns-clause-relations : goal.returns-clause-relations
returns-clause-relations c job catalog s t items valid formed plan carried linked changes = filled_relations job catalog s t items valid plan carried (links_fill s t items formed linked changes)
