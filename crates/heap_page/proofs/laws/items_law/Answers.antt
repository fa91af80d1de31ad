use Rattle.heap_page.proofs.ItemLemmas.{items_of-exact, items_of-rise}
use Rattle.heap_page.proofs.laws.items_law.Goals as goal

pub returns-clause-exact : goal.returns-clause-exact
returns-clause-exact c = items_of-exact

pub returns-clause-in_order : goal.returns-clause-in_order
returns-clause-in_order c = items_of-rise
