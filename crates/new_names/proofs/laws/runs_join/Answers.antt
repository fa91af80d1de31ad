use Rattle.new_names.proofs.Runs.{goes_joined}
use Rattle.new_names.proofs.laws.runs_join.Goals as goal

pub returns : goal.returns
returns goal_context listed a b c front back = goes_joined listed a b c front back
