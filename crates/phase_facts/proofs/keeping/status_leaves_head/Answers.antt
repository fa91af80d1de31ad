use Rattle.phase_facts.proofs.Kept.{status_head}
use Rattle.phase_facts.proofs.keeping.status_leaves_head.Goals as goal

pub returns : goal.returns
returns c s t root head well only is_head = status_head s t root head well only is_head
