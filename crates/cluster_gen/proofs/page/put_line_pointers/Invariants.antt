use Rattle.std.proofs.Common.{◌≡◌, ◌++◌}
use Rattle.cluster_gen.specs.Page.{line_pointers}
use Rattle.cluster_gen.proofs.page.put_line_pointers.Given as goal

abbrev pub invariant-loop-line : goal.invariant-loop-line
invariant-loop-line l = l.out.items ≡ l.fn.out.items ++ line_pointers l.line
