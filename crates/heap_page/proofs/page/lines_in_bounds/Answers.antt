use Rattle.std.proofs.Common.{sym, ◌∙◌, arith}
use Rattle.heap_page.specs.Page.{line_in_bounds, line_count}
use Rattle.heap_page.proofs.RangeLemmas.{list_all-range_all, list_all-range_not}
use Rattle.heap_page.proofs.page.lines_in_bounds.Goals as goal

pub returns-then-not-line_in_bounds : goal.returns-then-not-line_in_bounds
returns-then-not-line_in_bounds c =
    let page = c.args.bytes.now in
    let counted = c.count_of-line-end.ensures in
    sym (list_all-range_not (line_in_bounds page) 1 (line_count page) c.loop-line.line (omega arith) (omega arith) (sym c.line_in_bounds.ensures ∙ c.if-not-line_in_bounds.true))

pub returns : goal.returns
returns c =
    let page = c.args.bytes.now in
    let counted = c.count_of-line-end.ensures in
    sym (list_all-range_all (line_in_bounds page) 1 (line_count page) (λ k low high. c.loop-line.invariant k low (omega arith)))
