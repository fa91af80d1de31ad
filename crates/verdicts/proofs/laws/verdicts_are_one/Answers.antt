use Rattle.verdicts.proofs.Single.{verdict_one}
use Rattle.verdicts.proofs.laws.verdicts_are_one.Goals as goal

pub returns : goal.returns
returns c s old new one two is other = verdict_one s old new one two is other
