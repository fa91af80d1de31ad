use Rattle.std.proofs.Common.{◌∙◌}
use Rattle.heap_tuple.specs.Numbers.{u16_at}
use Rattle.heap_tuple.proofs.NumberLemmas.{little_from-tail}
use Rattle.heap_tuple.proofs.numbers.u16_at.Goals as goal

pub returns : goal.returns
unfolding u16_at
returns c = c.read_u16.ensures ∙ little_from-tail 2 c.args.place c.args.bytes.now c.requires
