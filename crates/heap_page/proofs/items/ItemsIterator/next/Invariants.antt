use Rattle.std.proofs.Common.{◌≡◌, ◌-◌}
use Rattle.heap_page.specs.Cursor.{IsCursor, lines_left}
use Rattle.heap_page.proofs.items.ItemsIterator.next.Given as goal

-- the walk still stands in the page, and no normal line was passed over
abbrev pub invariant-loop-self : goal.invariant-loop-self
invariant-loop-self l =
    IsCursor l.self-inside.page.now l.self-inside.line l.self-inside.end
    × (lines_left l.self-inside.page.now l.self-inside.line l.self-inside.end ≡ l.fn.self)

abbrev pub decreases-loop-self : goal.decreases-loop-self
decreases-loop-self l = l.self-inside.end - l.self-inside.line
