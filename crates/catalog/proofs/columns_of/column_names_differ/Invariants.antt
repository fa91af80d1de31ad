use Rattle.std.proofs.Common.{◌≡◌, length}
use Rattle.catalog.specs.Lists.{are_distinct}
use Rattle.catalog.specs.Forms.{same_column}
use Rattle.catalog.proofs.columns_of.column_names_differ.Given as goal

abbrev pub invariant-loop-first : goal.invariant-loop-first
invariant-loop-first l = are_distinct same_column l.rest ≡ are_distinct same_column l.fn.columns

abbrev pub decreases-loop-first : goal.decreases-loop-first
decreases-loop-first l = length l.rest
