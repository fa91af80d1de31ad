use Rattle.heap_tuple.proofs.ExtentLemmas.{raised-mod, le-raised, raised-lt}
use Rattle.heap_tuple.proofs.laws.alignment_law.Goals as goal

pub returns-clause-multiple : goal.returns-clause-multiple
returns-clause-multiple c = raised-mod

pub returns-clause-not_below : goal.returns-clause-not_below
returns-clause-not_below c = le-raised

pub returns-clause-least : goal.returns-clause-least
returns-clause-least c = raised-lt
