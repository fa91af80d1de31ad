use Rattle.phase_facts.proofs.Kept.{roots_apart}
use Rattle.phase_facts.proofs.keeping.roots_are_apart.Goals as goal

pub returns : goal.returns
returns c job s begins = roots_apart job s begins
