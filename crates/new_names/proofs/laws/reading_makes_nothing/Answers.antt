use Rattle.new_names.proofs.Looking.{unchanged_listed}
use Rattle.new_names.proofs.laws.reading_makes_nothing.Goals as goal

pub returns : goal.returns
returns c listed a b unchanged = unchanged_listed listed a b unchanged
