use Rattle.status_transfer.proofs.Staying.{status_since}
use Rattle.status_transfer.proofs.laws.carried_since_before.Goals as goal

pub returns : goal.returns
returns c a s t old new well same kept carried = status_since old new a s t well same kept carried
