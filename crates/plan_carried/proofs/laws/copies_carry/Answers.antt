use Rattle.plan_carried.proofs.Filled.{copies_fill, filled_relations}
use Rattle.plan_carried.proofs.laws.copies_carry.Goals as goal

pub returns-clause-items : goal.returns-clause-items
returns-clause-items c s t items formed copied only = copies_fill s t items formed copied only

pub returns-clause-relations : goal.returns-clause-relations
returns-clause-relations c job catalog s t items valid formed plan carried copied only = filled_relations job catalog s t items valid plan carried (copies_fill s t items formed copied only)
