use Rattle.std.proofs.Common.{◌≡◌, ◌++◌, drop}
use Rattle.std.specs.List.{flat_map}
use Rattle.relation_map.specs.Named.{table_named}
use Rattle.relation_map.proofs.named.add_tables.Given as goal

abbrev pub invariant-loop-i : goal.invariant-loop-i
invariant-loop-i l = l.relations.items ++ flat_map table_named (drop l.i l.database.tables) ≡ l.fn.relations.items ++ flat_map table_named l.database.tables
