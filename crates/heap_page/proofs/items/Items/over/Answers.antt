use Rattle.std.proofs.Common.{arith}
use Rattle.heap_page.proofs.PageLemmas.{line_count-le}
use Rattle.heap_page.proofs.items.Items.over.Goals as goal

pub overflow_add-result : goal.overflow_add-result
overflow_add-result c =
    let few = line_count-le c.args.page.now c.requires.sound in
    let counted = c.requires.counted in
    omega arith
