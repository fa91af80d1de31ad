use Rattle.plan_build.proofs.Carriable.{plan_can_be_carried}
use Rattle.plan_build.proofs.laws.plans_can_be_carried.Goals as goal

pub returns : goal.returns
returns c s entries items plan = plan_can_be_carried s entries items plan
