use Rattle.plan_build.proofs.Carrying.{plan_carries, relations_carried}
use Rattle.plan_build.proofs.laws.plans_carry.Goals as goal

pub returns-clause-entries : goal.returns-clause-entries
returns-clause-entries c s x entries items plan only has = plan_carries s x entries items plan only has

pub returns-clause-relations : goal.returns-clause-relations
returns-clause-relations c job catalog s x valid all = relations_carried job catalog s x valid all
