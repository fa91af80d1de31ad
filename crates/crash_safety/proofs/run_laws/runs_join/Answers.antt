use Rattle.crash_safety.proofs.Going.{goes_joined}
use Rattle.crash_safety.proofs.run_laws.runs_join.Goals as goal

pub returns : goal.returns
returns c tops inner inside a b t front back = goes_joined tops inner inside a b t front back
