use Rattle.std.proofs.Common.{◌∙◌}
use Rattle.heap_page.specs.Numbers.{u32_at}
use Rattle.heap_page.proofs.NumberLemmas.{little_from-tail}
use Rattle.heap_page.proofs.numbers.u32_at.Goals as goal

pub returns : goal.returns
unfolding u32_at
returns c = c.read_u32.ensures ∙ little_from-tail 4 c.args.place c.args.bytes.now c.requires
