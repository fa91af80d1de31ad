use Rattle.multixact.proofs.FirstLemmas.{update_law, no_update_law, untold_law}
use Rattle.multixact.proofs.laws.updater_law.Goals as goal

pub returns-clause-update : goal.returns-clause-update
returns-clause-update c = update_law

pub returns-clause-no_update : goal.returns-clause-no_update
returns-clause-no_update c = no_update_law

pub returns-clause-untold : goal.returns-clause-untold
returns-clause-untold c = untold_law
