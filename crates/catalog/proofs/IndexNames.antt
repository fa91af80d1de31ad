-- How the look-up of indexes by name stays right where an index joins that isn't refused.
use Rattle.std.proofs.Common.{◌≡◌, true, false, List, [], ◌∷◌, ◌++◌, length, Some, None}
use Rattle.object_places.specs.declared.NamePlaces.{NamePlaces}
use Rattle.catalog.specs.declared.owners.Tablespace.{Tablespace}
use Rattle.catalog.specs.declared.relations.Index.{Index}
use Rattle.catalog.specs.Cluster.{DatabaseObjects}
use Rattle.catalog.specs.Spaces.{SchemaName}
use Rattle.catalog.specs.Refusals.{index_refusal}
use Rattle.catalog.specs.Known.{IndexNamesKnown, index_of_name, name_at}
use Rattle.catalog.proofs.FreeLemmas.{index_name_free, index_has_table}
use Rattle.catalog.proofs.KnownLists.{index_names_kept, index_names_pushed}

-- its name is noted
pub index_names_noted : (tablespaces : List Tablespace) (d : DatabaseObjects) (i : Index) (p q : NamePlaces) → IndexNamesKnown d.tables d.indexes p → index_refusal tablespaces d i ≡ None
    → ((k : SchemaName) → index_of_name d.tables k i ≡ false → name_at q k ≡ name_at p k) → IndexNamesKnown d.tables d.indexes q
index_names_noted tablespaces d i p q known free others = index_names_kept d.tables d.indexes i p q known (index_name_free tablespaces d i free) others

-- it joins the list
pub index_names_joined : (tablespaces : List Tablespace) (d : DatabaseObjects) (i : Index) (p : NamePlaces) → IndexNamesKnown d.tables d.indexes p → index_refusal tablespaces d i ≡ None
    → ((k : SchemaName) → index_of_name d.tables k i ≡ true → name_at p k ≡ Some (length d.indexes)) → IndexNamesKnown d.tables (d.indexes ++ i ∷ []) p
index_names_joined tablespaces d i p known free placed = index_names_pushed d.tables d.indexes i p known (index_has_table tablespaces d i free) placed
