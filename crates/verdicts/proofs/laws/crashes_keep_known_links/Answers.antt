use Rattle.verdicts.proofs.Crashing.{known_links}
use Rattle.verdicts.proofs.laws.crashes_keep_known_links.Goals as goal

pub returns : goal.returns
returns c start old new s x makes image = known_links start.names old new s x makes image
