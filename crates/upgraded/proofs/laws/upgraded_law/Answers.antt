use Rattle.upgraded.proofs.Points.{upgraded_by_steps}
use Rattle.upgraded.proofs.laws.upgraded_law.Goals as goal

pub returns : goal.returns
returns c read job catalog items start restored carried counted disabled transferred x can went = upgraded_by_steps read job catalog items start restored carried counted disabled transferred x can went
