use Rattle.std.proofs.Common.{◌≡◌, ◌++◌, drop}
use Rattle.std.specs.List.{flat_map}
use Rattle.catalog_server.specs.ReplayNames.{table_relations}
use Rattle.server_profile.proofs.relations.add_tables.Given as goal

abbrev pub invariant-loop-i : goal.invariant-loop-i
invariant-loop-i l = l.relations.items ++ flat_map table_relations (drop l.i l.database.tables) ≡ l.fn.relations.items ++ flat_map table_relations l.database.tables
