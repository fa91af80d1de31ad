use Rattle.new_names.proofs.Runs.{goes_make_only}
use Rattle.new_names.proofs.laws.runs_make_only.Goals as goal

pub returns : goal.returns
returns c listed a b goes = goes_make_only listed a b goes
