use Rattle.std.proofs.Common.{◌≡◌, ◌≤◌, sym, ap, ◌∙◌, arith}
use Rattle.heap_page.specs.Page.{line_count}
use Rattle.heap_page.proofs.PageLemmas.{tuple_within}
use Rattle.heap_page.proofs.page.Page.item.Goals as goal

pub item_of-requires : goal.item_of-requires
item_of-requires c =
    let page = c.self.inside.bytes.now in
    let counted : c.count.result ≡ line_count page = c.count.ensures.count ∙ ap line_count (sym c.self.view_is) in
    let last : c.args.n ≤ line_count page = omega arith in
    rw c.pointer_at.ensures (tuple_within page c.args.n c.self.invariant (omega arith) last)
