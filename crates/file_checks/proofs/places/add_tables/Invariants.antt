use Rattle.std.proofs.Common.{◌≡◌, ◌++◌, drop, map}
use Rattle.std.specs.List.{flat_map}
use Rattle.catalog.specs.declared.relations.Table.{Table}
use Rattle.catalog.specs.Spaces.{table_places}
use Rattle.relation_files.specs.Relations.{relation_at}
use Rattle.file_checks.proofs.places.add_tables.Given as goal

abbrev pub invariant-loop-i : goal.invariant-loop-i
invariant-loop-i l = l.relations.items ++ flat_map (λ (t : Table). map (relation_at l.database) (table_places t)) (drop l.i l.database.tables) ≡ l.fn.relations.items ++ flat_map (λ (t : Table). map (relation_at l.database) (table_places t)) l.database.tables
