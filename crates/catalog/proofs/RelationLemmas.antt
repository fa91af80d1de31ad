-- A valid database stays valid with one table or one index more.
use Rattle.std.proofs.Common.{◌≡◌, ℕ, true, false, List, [], ◌∷◌, ◌++◌, length, Option, Some, None, refl, sym, ap, subst}
use Rattle.std.specs.Prelude.{◌&&◌, nat_le, map}
use Rattle.std.specs.List.{list_all, find, flat_map}
use Rattle.catalog.specs.declared.owners.Role.{Role}
use Rattle.catalog.specs.declared.owners.Tablespace.{Tablespace}
use Rattle.catalog.specs.declared.enums.EnumType.{EnumType}
use Rattle.catalog.specs.declared.relations.Table.{Table}
use Rattle.catalog.specs.declared.relations.Index.{Index}
use Rattle.catalog.specs.declared.relations.Sequence.{Sequence}
use Rattle.catalog.specs.Lists.{are_distinct}
use Rattle.catalog.specs.Cluster.{DatabaseObjects}
use Rattle.catalog.specs.Spaces.{table_oids, relation_oids, type_oids, label_oids, SchemaName, enum_name, table_name, sequence_name, index_name, relation_names, type_names, FilePlace, same_place, table_places, index_place, sequence_place, file_places, table_files, schema_in, table_has}
use Rattle.catalog.specs.Forms.{is_32_bits, table_form, index_form, has_tablespace, keys_stand}
use Rattle.catalog.specs.Refusals.{table_refusal, index_refusal, files_taken}
use Rattle.catalog.specs.Changes.{add_table, add_index}
use Rattle.catalog.specs.Valid.{is_user_place, table_is_valid, index_is_valid, IsValidDatabase}
use Rattle.catalog.proofs.ListLemmas
use Rattle.catalog.proofs.CauseLemmas
use Rattle.catalog.proofs.DatabaseLemmas

-- ---- one table more: what speaks of a table still finds it

keys_grow : (tables : List Table) (t : Table) (keys : List ℕ) (oid : ℕ) (o : Option Table) → find (table_has oid) tables ≡ o → keys_stand keys o ≡ true → find (table_has oid) (tables ++ t ∷ []) ≡ o
keys_grow tables t keys oid None at h = cc
keys_grow tables t keys oid (Some x) at h = ListLemmas.find-left (table_has oid) tables (t ∷ []) x at

-- the table of a valid index is found as before
same_table : (tablespaces : List Tablespace) (tables : List Table) (t : Table) (i : Index) → index_is_valid tablespaces tables i ≡ true → find (table_has i.table) (tables ++ t ∷ []) ≡ find (table_has i.table) tables
same_table tablespaces tables t i h =
    keys_grow tables t i.keys i.table (find (table_has i.table) tables) refl (ListLemmas.and_right _ _ (ListLemmas.and_right _ _ (ListLemmas.and_left _ _ h)))

index_stays : (tablespaces : List Tablespace) (tables : List Table) (t : Table) (i : Index) → index_is_valid tablespaces tables i ≡ true → index_is_valid tablespaces (tables ++ t ∷ []) i ≡ true
index_stays tablespaces tables t i h =
    subst (λ (o : Option Table). (index_form i && (has_tablespace tablespaces i.tablespace && keys_stand i.keys o) && nat_le (length i.keys) 32) ≡ true) (sym (same_table tablespaces tables t i h)) h

index_name_stays : (tablespaces : List Tablespace) (tables : List Table) (t : Table) (i : Index) → index_is_valid tablespaces tables i ≡ true → index_name (tables ++ t ∷ []) i ≡ index_name tables i
index_name_stays tablespaces tables t i h =
    ap (λ (o : Option Table). let n : SchemaName = record { schema = schema_in o; name = i.name } in n) (same_table tablespaces tables t i h)

names_join : (tablespaces : List Tablespace) (d : DatabaseObjects) (t : Table) → list_all (index_is_valid tablespaces d.tables) d.indexes ≡ true → ListLemmas.Joined (table_name t ∷ []) (relation_names d) (relation_names (add_table t d))
unfolding relation_names
names_join tablespaces d t valid =
    let same : map (index_name (d.tables ++ t ∷ [])) d.indexes ≡ map (index_name d.tables) d.indexes =
    ListLemmas.map_same (index_is_valid tablespaces d.tables) (index_name (d.tables ++ t ∷ [])) (index_name d.tables) (index_name_stays tablespaces d.tables t) d.indexes valid in
    subst (λ (ns : List SchemaName). ListLemmas.Joined (table_name t ∷ []) (relation_names d) (map table_name (d.tables ++ t ∷ []) ++ (ns ++ map sequence_name d.sequences))) (sym same)
    (ListLemmas.joined_left _ _ _ (map (index_name d.tables) d.indexes ++ map sequence_name d.sequences) (ListLemmas.joined_map table_name d.tables t))

files_join : (t : Table) (before after : List FilePlace) → ListLemmas.Joined (table_places t) before after → list_all is_user_place before ≡ true → are_distinct same_place before ≡ true → list_all is_32_bits (table_files t) ≡ true → files_taken t.tablespace (table_files t) before ≡ false
    → (list_all is_user_place after ≡ true) × (are_distinct same_place after ≡ true)
files_join t before after parts user differ fit free = (
  ListLemmas.joined_all is_user_place (table_places t) before after parts user (CauseLemmas.user_places t.tablespace (table_files t) (CauseLemmas.user_numbers (table_files t) (ListLemmas.or_left _ _ free) fit)),
  ListLemmas.joined_distinct same_place DatabaseLemmas.same_place-turned (table_places t) before after parts differ (CauseLemmas.places_free t.tablespace (table_files t) before (ListLemmas.or_right _ _ free)),
)

pub table_keeps : (roles : List Role) (tablespaces : List Tablespace) (d : DatabaseObjects) (t : Table) → IsValidDatabase roles tablespaces d → table_form t ≡ true → list_all is_32_bits (table_oids t) ≡ true → is_32_bits t.row_type ≡ true → list_all is_32_bits (table_files t) ≡ true
    → table_refusal roles tablespaces d t ≡ None → IsValidDatabase roles tablespaces (add_table t d)
unfolding relation_oids type_oids label_oids type_names file_places
table_keeps roles tablespaces d t v formed oids_fit type_fits files_fit free =
    let f = CauseLemmas.no_cause _ _ _ _ _ free in
    let other_names = ListLemmas.or_right _ _ f.names in
    let files = files_join t (file_places d) (file_places (add_table t d)) (ListLemmas.joined_left _ _ _ (map index_place d.indexes ++ map sequence_place d.sequences) (ListLemmas.joined_flat table_places d.tables t)) v.file_numbers v.file_places_differ files_fit f.files in
    record {
      more_schemas = v.more_schemas;
      public_first = v.public_first;
      schemas = v.schemas;
      enums = v.enums;
      tables = ListLemmas.all-push (table_is_valid roles tablespaces d) d.tables t v.tables
          (ListLemmas.and_both _ _ (ListLemmas.and_both _ _ (ListLemmas.and_both _ _ formed (ListLemmas.not_false _ f.stands)) (CauseLemmas.not_above 1600 (length t.columns) f.few)) (ListLemmas.not_false _ (ListLemmas.or_right _ _ other_names)));
      indexes = ListLemmas.all-mono (index_is_valid tablespaces d.tables) (index_is_valid tablespaces (d.tables ++ t ∷ [])) (index_stays tablespaces d.tables t) d.indexes v.indexes;
      sequences = v.sequences;
      relation_oids_differ = DatabaseLemmas.oids_joined (table_oids t) (relation_oids d) (relation_oids (add_table t d))
          (ListLemmas.joined_left _ _ _ (map (λ (i : Index). i.oid) d.indexes ++ map (λ (s : Sequence). s.oid) d.sequences) (ListLemmas.joined_flat table_oids d.tables t)) v.relation_oids_differ oids_fit (ListLemmas.or_left _ _ f.oids);
      type_oids_differ = DatabaseLemmas.oid_joins t.row_type (type_oids d) (type_oids (add_table t d))
          (ListLemmas.joined_right _ _ _ (map (λ (k : EnumType). k.oid) d.enums) (ListLemmas.joined_map (λ (x : Table). x.row_type) d.tables t)) v.type_oids_differ type_fits (ListLemmas.or_right _ _ f.oids);
      label_oids_differ = v.label_oids_differ;
      schema_names_differ = v.schema_names_differ;
      relation_names_differ = DatabaseLemmas.name_joins (table_name t) (relation_names d) (relation_names (add_table t d)) (names_join tablespaces d t v.indexes) v.relation_names_differ (ListLemmas.or_left _ _ f.names);
      type_names_differ = DatabaseLemmas.name_joins (table_name t) (type_names d) (type_names (add_table t d))
          (ListLemmas.joined_right _ _ _ (map enum_name d.enums) (ListLemmas.joined_map table_name d.tables t)) v.type_names_differ (ListLemmas.or_left _ _ other_names);
      file_numbers = files.0;
      file_places_differ = files.1;
    }

-- ---- one index more

pub index_keeps : (roles : List Role) (tablespaces : List Tablespace) (d : DatabaseObjects) (i : Index) → IsValidDatabase roles tablespaces d → index_form i ≡ true → is_32_bits i.oid ≡ true → is_32_bits i.file ≡ true → index_refusal tablespaces d i ≡ None → IsValidDatabase roles tablespaces (add_index i d)
unfolding relation_oids type_oids label_oids relation_names type_names file_places
index_keeps roles tablespaces d i v formed fits file_fits free =
    let f = CauseLemmas.no_cause _ _ _ _ _ free in
    let places = DatabaseLemmas.place_joins (index_place i) (file_places d) (file_places (add_index i d))
    (ListLemmas.joined_right _ _ _ (flat_map table_places d.tables) (ListLemmas.joined_left _ _ _ (map sequence_place d.sequences) (ListLemmas.joined_map index_place d.indexes i))) v.file_numbers v.file_places_differ file_fits f.files in
    record {
      more_schemas = v.more_schemas;
      public_first = v.public_first;
      schemas = v.schemas;
      enums = v.enums;
      tables = v.tables;
      indexes = ListLemmas.all-push (index_is_valid tablespaces d.tables) d.indexes i v.indexes
          (ListLemmas.and_both _ _ (ListLemmas.and_both _ _ formed (ListLemmas.not_false _ f.stands)) (CauseLemmas.not_above 32 (length i.keys) f.few));
      sequences = v.sequences;
      relation_oids_differ = DatabaseLemmas.oid_joins i.oid (relation_oids d) (relation_oids (add_index i d))
          (ListLemmas.joined_right _ _ _ (flat_map table_oids d.tables) (ListLemmas.joined_left _ _ _ (map (λ (s : Sequence). s.oid) d.sequences) (ListLemmas.joined_map (λ (x : Index). x.oid) d.indexes i))) v.relation_oids_differ fits f.oids;
      type_oids_differ = v.type_oids_differ;
      label_oids_differ = v.label_oids_differ;
      schema_names_differ = v.schema_names_differ;
      relation_names_differ = DatabaseLemmas.name_joins (index_name d.tables i) (relation_names d) (relation_names (add_index i d))
          (ListLemmas.joined_right _ _ _ (map table_name d.tables) (ListLemmas.joined_left _ _ _ (map sequence_name d.sequences) (ListLemmas.joined_map (index_name d.tables) d.indexes i))) v.relation_names_differ f.names;
      type_names_differ = v.type_names_differ;
      file_numbers = places.0;
      file_places_differ = places.1;
    }
