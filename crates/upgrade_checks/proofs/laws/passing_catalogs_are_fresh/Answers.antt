use Rattle.upgrade_checks.proofs.Fresh.{fresh}
use Rattle.upgrade_checks.proofs.laws.passing_catalogs_are_fresh.Goals as goal

pub returns : goal.returns
returns c s job readings nothing = fresh s job readings nothing
