use Rattle.crash_safety.proofs.Going.{goes_lacks}
use Rattle.crash_safety.proofs.run_laws.runs_keep_lack.Goals as goal

pub returns : goal.returns
returns c tops path outside a b lacks goes = goes_lacks tops path outside a b lacks goes
