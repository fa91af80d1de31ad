use Rattle.new_names.proofs.Runs.{listed_within}
use Rattle.new_names.proofs.laws.calls_stay_within.Goals as goal

pub returns : goal.returns
returns c listed tops inside start s call makes = listed_within listed tops inside start s call makes
