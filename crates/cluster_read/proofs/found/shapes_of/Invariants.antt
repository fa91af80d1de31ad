use Rattle.std.proofs.Common.{◌≡◌, map, take}
use Rattle.catalog.specs.Shapes.{kind_shape}
use Rattle.cluster_read.proofs.found.shapes_of.Given as goal

abbrev pub invariant-loop-column : goal.invariant-loop-column
invariant-loop-column l = l.shapes.items ≡ map (λ column. kind_shape column.kind) (take l.column-index l.columns)
