use Rattle.phase_facts.proofs.Holding.{start_held}
use Rattle.phase_facts.proofs.opening.opening_is_held.Goals as goal

pub returns : goal.returns
returns c job t begins = start_held job t begins
