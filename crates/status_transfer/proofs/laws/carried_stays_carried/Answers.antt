use Rattle.status_transfer.proofs.Staying.{status_stays}
use Rattle.status_transfer.proofs.laws.carried_stays_carried.Goals as goal

pub returns : goal.returns
returns c s m t old new same kept carried = status_stays old new s m t same kept carried
