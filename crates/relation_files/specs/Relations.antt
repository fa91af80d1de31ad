-- The relations of a cluster that have files, in the order of its catalog: in each database each table with its toast
-- table and that one's index, then the indexes, then the sequences.
use Rattle.std.specs.Prelude.{ℕ, List, [], ◌∷◌, ◌++◌, map, Option, Some, None}
use Rattle.std.specs.List.{flat_map}
use Rattle.catalog.specs.declared.relations.Table.{Table}
use Rattle.catalog.specs.declared.relations.Toast.{Toast}
use Rattle.catalog.specs.declared.relations.Index.{Index}
use Rattle.catalog.specs.declared.relations.Sequence.{Sequence}
use Rattle.catalog.specs.Cluster.{DatabaseObjects, Cluster}
use Rattle.catalog.specs.Spaces.{FilePlace, table_places, index_place, sequence_place, file_places}
use Rattle.relation_files.specs.declared.relation.Relation.{Relation}

abbrev pub relation_at : DatabaseObjects → FilePlace → Relation
relation_at database place = record { database = database.oid; tablespace = place.tablespace; file = place.number }

unfoldable pub relations_in : DatabaseObjects → List Relation
relations_in database = map (relation_at database) (file_places database)

unfoldable pub relations_of : Cluster → List Relation
relations_of catalog = flat_map relations_in catalog.databases
