use Rattle.std.proofs.Common.{◌≡◌, ◌++◌}
use Rattle.std.specs.List.{flat_map, range_with_len}
use Rattle.cluster_gen.specs.Parts.{table_parts}
use Rattle.cluster_gen.proofs.tables.put_app.Given as goal

abbrev pub invariant-loop-table : goal.invariant-loop-table
invariant-loop-table l = l.parts.items ≡ l.initial.parts.items ++ flat_map (table_parts l.cluster.root) (range_with_len 0 l.table)
