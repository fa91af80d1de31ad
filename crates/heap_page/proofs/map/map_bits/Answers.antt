use Rattle.std.proofs.Common.{arith}
use Rattle.heap_page.proofs.MapLemmas.{bits_of-at}
use Rattle.heap_page.proofs.map.map_bits.Goals as goal

pub returns-clause-bits : goal.returns-clause-bits
returns-clause-bits c =
    let found = c.in_ok-bits.ensures.lookup in
    bits_of-at c.args.vm.now c.args.block _ c.in_ok-bits.bits.now (omega arith) found.3.0 found.1
