use Rattle.plan_facts.proofs.Plan.{is_plan}
use Rattle.plan_facts.proofs.planned.planned_is_carried.Goals as goal

pub returns : goal.returns
returns c = λ job catalog s items valid plan. is_plan job catalog s items valid plan
