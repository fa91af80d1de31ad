use Rattle.transfer_plan.proofs.Staying.{no_target_below}
use Rattle.transfer_plan.proofs.laws.targets_are_apart.Goals as goal

pub returns : goal.returns
returns c items names tree can path other one another under = no_target_below items names tree can path other one another under
