use Rattle.toast_read.proofs.Grouping.{fetched_same}
use Rattle.toast_read.proofs.laws.index_law.Goals as goal

pub returns : goal.returns
returns c = fetched_same
