use Rattle.status_transfer.proofs.Staying.{stays_under_counters}
use Rattle.status_transfer.proofs.laws.carried_stays_under_counters.Goals as goal

pub returns : goal.returns
returns c s m t old new at well keeps outside counted carried = stays_under_counters old new at s m t well keeps outside counted carried
