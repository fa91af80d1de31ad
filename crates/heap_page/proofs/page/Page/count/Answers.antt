use Rattle.heap_page.proofs.PageLemmas.{line_count-le}
use Rattle.heap_page.proofs.page.Page.count.Goals as goal

pub returns-clause-within : goal.returns-clause-within
returns-clause-within c = rw c.count_of.ensures (line_count-le c.self.inside.bytes.now c.self.invariant)
