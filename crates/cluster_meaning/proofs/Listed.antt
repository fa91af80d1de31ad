-- A table that is found in a catalog, and its toast table, are among the catalog's relations.
use Rattle.std.proofs.Common.{◌≡◌, ◌∙◌, ℕ, List, [], ◌∷◌, ◌++◌, map, Option, Some, None, Contains, find, flat_map, option_map, option_and_then, refl, ap, sym, subst}
use Rattle.std.proofs.lemmas.List.Elements.{Contains-append_left}
use Rattle.catalog.specs.declared.relations.Table.{Table}
use Rattle.catalog.specs.declared.relations.Toast.{Toast}
use Rattle.catalog.specs.declared.relations.Index.{Index}
use Rattle.catalog.specs.declared.relations.Sequence.{Sequence}
use Rattle.catalog.specs.Cluster.{DatabaseObjects, Cluster}
use Rattle.catalog.specs.Spaces.{database_has, table_has, place_in, table_files, table_places, toast_files, index_place, sequence_place, file_places}
use Rattle.cluster_meaning.specs.Meaning.{FoundTable, table_in, found_table, table_relation, toast_relation, relation_in}
use Rattle.relation_files.specs.Relations.{relation_at, relations_in, relations_of}
use Rattle.cluster_meaning.proofs.Members.{first_one, later_one, found_one, mapped_one, flat_mapped_one}

-- where the table was found
pub record IsListed (catalog : Cluster) (found : FoundTable) : Type 0 where
  pub database : Contains catalog.databases found.database
  pub table : Contains found.database.tables found.table

in_database : (catalog : Cluster) (database : DatabaseObjects) (table : ℕ) (found : FoundTable) (o : Option Table) → Contains catalog.databases database → find (table_has table) database.tables ≡ o
    → option_map (λ one. record { database = database; table = one }) o ≡ Some found → IsListed catalog found
in_database catalog database table found None has is made = absurd (cc made)
in_database catalog database table found (Some one) has is made =
    let it : FoundTable = record { database = database; table = one } in
    let same : it ≡ found = cc made in
    subst (λ f. IsListed catalog f) same (record { database = has; table = found_one (table_has table) database.tables one is })

in_catalog : (catalog : Cluster) (database table : ℕ) (found : FoundTable) (o : Option DatabaseObjects) → find (database_has database) catalog.databases ≡ o
    → option_and_then (table_in table) o ≡ Some found → IsListed catalog found
in_catalog catalog database table found None is made = absurd (cc made)
in_catalog catalog database table found (Some one) is made =
    in_database catalog one table found (find (table_has table) one.tables) (found_one (database_has database) catalog.databases one is) refl made

-- a file of a table that was found is that of a relation
file_listed : (catalog : Cluster) (database table : ℕ) (found : FoundTable) (file : ℕ) → found_table catalog database table ≡ Some found → Contains (table_files found.table) file
    → Contains (relations_of catalog) (relation_in found.database found.table.tablespace file)
unfolding relations_of relations_in file_places
file_listed catalog database table found file is has =
    let listed : IsListed catalog found = in_catalog catalog database table found (find (database_has database) catalog.databases) refl is in
    let d = found.database in
    let place = place_in found.table.tablespace file in
    let in_table : Contains (table_places found.table) place = mapped_one (place_in found.table.tablespace) (table_files found.table) file has in
    let in_tables : Contains (flat_map table_places d.tables) place = flat_mapped_one table_places d.tables found.table place listed.table in_table in
    let in_places : Contains (file_places d) place = Contains-append_left (flat_map table_places d.tables) (map index_place d.indexes ++ map sequence_place d.sequences) place in_tables in
    flat_mapped_one relations_in catalog.databases d (relation_at d place) listed.database (mapped_one (relation_at d) (file_places d) place in_places)

pub table_listed : (catalog : Cluster) (database table : ℕ) (found : FoundTable) → found_table catalog database table ≡ Some found → Contains (relations_of catalog) (table_relation found)
table_listed catalog database table found is = file_listed catalog database table found found.table.file is (first_one found.table.file (toast_files found.table.toast))

pub toast_listed : (catalog : Cluster) (database table : ℕ) (found : FoundTable) → found_table catalog database table ≡ Some found
    → (toast : Toast) → found.table.toast ≡ Some toast → Contains (relations_of catalog) (toast_relation found toast)
toast_listed catalog database table found is toast has =
    let first : Contains (toast_files (Some toast)) toast.file = first_one toast.file (toast.index_file ∷ []) in
    file_listed catalog database table found toast.file is
    (later_one found.table.file (toast_files found.table.toast) toast.file (subst (λ o. Contains (toast_files o) toast.file) (sym has) first))
