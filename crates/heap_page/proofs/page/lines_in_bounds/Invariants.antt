use Rattle.std.proofs.Common.{◌≡◌, ◌≤◌, ◌<◌, ℕ, true}
use Rattle.heap_page.specs.Page.{line_in_bounds}
use Rattle.heap_page.proofs.page.lines_in_bounds.Given as goal

abbrev pub invariant-loop-line : goal.invariant-loop-line
invariant-loop-line l = (k : ℕ) → 1 ≤ k → k < l.line → line_in_bounds l.bytes k ≡ true
