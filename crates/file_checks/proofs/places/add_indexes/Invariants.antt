use Rattle.std.proofs.Common.{◌≡◌, ◌++◌, drop, map}
use Rattle.catalog.specs.declared.relations.Index.{Index}
use Rattle.catalog.specs.Spaces.{index_place}
use Rattle.relation_files.specs.Relations.{relation_at}
use Rattle.file_checks.proofs.places.add_indexes.Given as goal

abbrev pub invariant-loop-i : goal.invariant-loop-i
invariant-loop-i l = l.relations.items ++ map (λ (i : Index). relation_at l.database (index_place i)) (drop l.i l.database.indexes) ≡ l.fn.relations.items ++ map (λ (i : Index). relation_at l.database (index_place i)) l.database.indexes
