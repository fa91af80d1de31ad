use Rattle.xact_status.proofs.OrderLemmas.{before_law}
use Rattle.xact_status.proofs.laws.precedes_law.Goals as goal

pub returns-clause-normal : goal.returns-clause-normal
returns-clause-normal c = before_law
