use Rattle.std.proofs.Common.{◌≡◌, ◌++◌}
use Rattle.cluster_gen.specs.Page.{rows_below}
use Rattle.cluster_gen.proofs.page.put_rows.Given as goal

abbrev pub invariant-loop-above : goal.invariant-loop-above
invariant-loop-above l = l.out.items ≡ l.fn.out.items ++ rows_below l.count l.above
