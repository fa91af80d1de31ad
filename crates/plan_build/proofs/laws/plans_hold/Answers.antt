use Rattle.plan_build.proofs.Holding.{plan_still}
use Rattle.plan_build.proofs.Sparing.{plan_since}
use Rattle.plan_build.proofs.laws.plans_hold.Goals as goal

pub returns-clause-states : goal.returns-clause-states
returns-clause-states c a b entries items same plan = plan_still a b entries items same plan

pub returns-clause-runs : goal.returns-clause-runs
returns-clause-runs c a b entries items goes plan = plan_since a b entries items goes plan
