use Rattle.verdicts.proofs.Crashing.{unshared_apart}
use Rattle.verdicts.proofs.laws.unshared_clusters_are_apart.Goals as goal

pub returns : goal.returns
returns c start old new disables none = unshared_apart start old new disables none
