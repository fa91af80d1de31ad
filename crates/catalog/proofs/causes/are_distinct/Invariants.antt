use Rattle.std.proofs.Common.{◌≡◌, length}
use Rattle.std.specs.Prelude.{nat_eq}
use Rattle.catalog.specs.Lists.{are_distinct}
use Rattle.catalog.proofs.causes.are_distinct.Given as goal

abbrev pub invariant-loop-first : goal.invariant-loop-first
invariant-loop-first l = are_distinct nat_eq l.rest ≡ are_distinct nat_eq l.fn.numbers

abbrev pub decreases-loop-first : goal.decreases-loop-first
decreases-loop-first l = length l.rest
