use Rattle.std.proofs.Common.{◌≡◌, ◌++◌, drop, map}
use Rattle.catalog_server.specs.ReplayNames.{index_relation}
use Rattle.server_profile.proofs.relations.add_indexes.Given as goal

abbrev pub invariant-loop-i : goal.invariant-loop-i
invariant-loop-i l = l.relations.items ++ map index_relation (drop l.i l.database.indexes) ≡ l.fn.relations.items ++ map index_relation l.database.indexes
