use Rattle.transfer_plan.proofs.Keeping.{transfers_since}
use Rattle.transfer_plan.proofs.laws.targets_alone_change.Goals as goal

pub returns : goal.returns
returns c paths a b goes = transfers_since paths a b goes
