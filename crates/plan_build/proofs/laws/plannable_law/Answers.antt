use Rattle.plan_build.proofs.Conditions.{can_be_planned, dir_stands}
use Rattle.plan_build.proofs.laws.plannable_law.Goals as goal

pub returns-clause-plannable : goal.returns-clause-plannable
returns-clause-plannable c job catalog s valid other own has = can_be_planned job catalog s valid other own has

pub returns-clause-dirs : goal.returns-clause-dirs
returns-clause-dirs c job catalog s relation formed some = dir_stands job catalog s relation formed some
