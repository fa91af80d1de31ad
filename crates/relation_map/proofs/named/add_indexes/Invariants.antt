use Rattle.std.proofs.Common.{◌≡◌, ◌++◌, drop, map}
use Rattle.relation_map.specs.Named.{index_named}
use Rattle.relation_map.proofs.named.add_indexes.Given as goal

abbrev pub invariant-loop-i : goal.invariant-loop-i
invariant-loop-i l = l.relations.items ++ map (index_named l.database.tables) (drop l.i l.database.indexes) ≡ l.fn.relations.items ++ map (index_named l.database.tables) l.database.indexes
