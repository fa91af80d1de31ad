-- The relations of a database, put together.
use Rattle.std.proofs.Common.{◌≡◌, ◌∙◌, ◌++◌, map, sym, ap}
use Rattle.std.specs.List.{flat_map}
use Rattle.catalog.specs.declared.relations.Table.{Table}
use Rattle.catalog.specs.declared.relations.Index.{Index}
use Rattle.catalog.specs.declared.relations.Sequence.{Sequence}
use Rattle.catalog.specs.Cluster.{DatabaseObjects}
use Rattle.catalog.specs.Spaces.{table_places, index_place, sequence_place, file_places}
use Rattle.relation_files.specs.Relations.{relation_at, relations_in}
use Rattle.file_checks.proofs.Lists.{map_append, map_flat, map_map}

pub relations_are : (d : DatabaseObjects) → flat_map (λ (t : Table). map (relation_at d) (table_places t)) d.tables ++ (map (λ (i : Index). relation_at d (index_place i)) d.indexes ++ map (λ (s : Sequence). relation_at d (sequence_place s)) d.sequences) ≡ relations_in d
unfolding relations_in file_places
relations_are d =
    let r = relation_at d in
    (λ k. sym (map_flat r table_places d.tables) k ++ (sym (map_map r index_place d.indexes) k ++ sym (map_map r sequence_place d.sequences) k))
    ∙ ap (λ l. map r (flat_map table_places d.tables) ++ l) (sym (map_append r (map index_place d.indexes) (map sequence_place d.sequences)))
    ∙ sym (map_append r (flat_map table_places d.tables) (map index_place d.indexes ++ map sequence_place d.sequences))
