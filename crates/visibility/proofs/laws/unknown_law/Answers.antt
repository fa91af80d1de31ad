use Rattle.visibility.proofs.Told.{seen_told}
use Rattle.visibility.proofs.laws.unknown_law.Goals as goal

pub returns : goal.returns
returns c = seen_told
