use Rattle.crash_safety.proofs.Going.{goes_within}
use Rattle.crash_safety.proofs.run_laws.runs_keep_within.Goals as goal

pub returns : goal.returns
returns c tops a b goes = goes_within tops a b goes
