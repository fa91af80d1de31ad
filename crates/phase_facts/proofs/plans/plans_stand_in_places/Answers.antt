use Rattle.phase_facts.proofs.Planned.{relation_plan_in}
use Rattle.phase_facts.proofs.plans.plans_stand_in_places.Goals as goal

pub returns : goal.returns
returns c job catalog head s can items all = relation_plan_in job catalog head s can items all
