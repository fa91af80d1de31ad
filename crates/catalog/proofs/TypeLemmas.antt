-- A valid database stays valid with one enum or one label more.
use Rattle.std.proofs.Common.{◌≡◌, ℕ, true, false, List, [], ◌∷◌, ◌++◌, length, Option, Some, None, refl, sym, ap, subst, ◌∙◌}
use Rattle.std.specs.Prelude.{not, map}
use Rattle.std.specs.List.{list_any, list_all, find}
use Rattle.std.proofs.lemmas.List.{map-append}
use Rattle.std.proofs.lemmas.List.Folds.{list_all-map, list_any-append}
use Rattle.catalog.specs.declared.types.ColumnKind.{ColumnKind}
use Rattle.catalog.specs.declared.types.ColumnKind.TheVariants.{Base, Enum, Dropped}
use Rattle.catalog.specs.declared.owners.Role.{Role}
use Rattle.catalog.specs.declared.owners.Tablespace.{Tablespace}
use Rattle.catalog.specs.declared.enums.Label.{Label}
use Rattle.catalog.specs.declared.enums.EnumType.{EnumType}
use Rattle.catalog.specs.declared.relations.Column.{Column}
use Rattle.catalog.specs.declared.relations.Table.{Table}
use Rattle.catalog.specs.Lists.{are_distinct, change_first}
use Rattle.catalog.specs.Cluster.{DatabaseObjects}
use Rattle.catalog.specs.Spaces.{relation_oids, type_oids, enum_label_oids, label_oids, SchemaName, same_name, enum_name, table_name, relation_names, type_names, file_places, enum_has}
use Rattle.catalog.specs.Forms.{is_32_bits, is_name, kind_stands, column_stands, has_enum, is_long, same_text}
use Rattle.catalog.specs.Refusals.{enum_refusal, label_refusal, label_refusal_in, oid_taken}
use Rattle.catalog.specs.Changes.{add_enum, add_label, labelled}
use Rattle.catalog.specs.Valid.{are_user_oids, enum_is_valid, table_is_valid, IsValidDatabase}
use Rattle.catalog.proofs.ListLemmas
use Rattle.catalog.proofs.CauseLemmas
use Rattle.catalog.proofs.DatabaseLemmas

-- the enum of a column, among more enums
kind_grows : (enums more : List EnumType) → ((oid : ℕ) → has_enum enums oid ≡ true → has_enum more oid ≡ true) → (kind : ColumnKind) → kind_stands enums kind ≡ true → kind_stands more kind ≡ true
kind_grows enums more grows (Base base) h = h
kind_grows enums more grows (Enum oid) h = grows oid h
kind_grows enums more grows (Dropped length align) h = h

tables_grow : (roles : List Role) (tablespaces : List Tablespace) (d : DatabaseObjects) (more : List EnumType) → ((oid : ℕ) → has_enum d.enums oid ≡ true → has_enum more oid ≡ true) → list_all (table_is_valid roles tablespaces d) d.tables ≡ true → list_all (table_is_valid roles tablespaces (record d { enums = more })) d.tables ≡ true
tables_grow roles tablespaces d more grows h =
    ListLemmas.all-mono (table_is_valid roles tablespaces d) (table_is_valid roles tablespaces (record d { enums = more }))
    (λ t k. ListLemmas.and_mono _ _ _ _ (ListLemmas.and_mono _ _ _ _ (ListLemmas.and_mono _ _ _ _ (λ x. x) (ListLemmas.and_mono _ _ _ _ (λ x. x)
    (ListLemmas.all-mono (column_stands d.enums) (column_stands more) (λ (column : Column). kind_grows d.enums more grows column.kind) t.columns))) (λ x. x)) (λ x. x) k) d.tables h

-- ---- one enum more

pub enum_keeps : (roles : List Role) (tablespaces : List Tablespace) (d : DatabaseObjects) (k : EnumType) → IsValidDatabase roles tablespaces d → is_name k.name ≡ true → is_32_bits k.oid ≡ true → list_all (λ (l : Label). is_32_bits l.oid) k.labels ≡ true
    → enum_refusal roles d k ≡ None → IsValidDatabase roles tablespaces (add_enum k d)
unfolding relation_oids type_oids label_oids relation_names type_names file_places
enum_keeps roles tablespaces d k v named fits labels_fit free =
    let f = CauseLemmas.no_cause _ _ _ _ _ free in
    let more : List EnumType = d.enums ++ k ∷ [] in
    record {
      more_schemas = v.more_schemas;
      public_first = v.public_first;
      schemas = v.schemas;
      enums = ListLemmas.all-push (enum_is_valid roles d) d.enums k v.enums
          (ListLemmas.and_both _ _ (ListLemmas.and_both _ _ (ListLemmas.and_both _ _ named (ListLemmas.not_false _ f.stands)) (ap not f.few)) (ListLemmas.not_false _ (ListLemmas.or_right _ _ f.names)));
      tables = tables_grow roles tablespaces d more (λ oid. ListLemmas.any-left (enum_has oid) d.enums (k ∷ [])) v.tables;
      indexes = v.indexes;
      sequences = v.sequences;
      relation_oids_differ = v.relation_oids_differ;
      type_oids_differ = DatabaseLemmas.oid_joins k.oid (type_oids d) (type_oids (add_enum k d))
          (ListLemmas.joined_left _ _ _ (map (λ (t : Table). t.row_type) d.tables) (ListLemmas.joined_map (λ (x : EnumType). x.oid) d.enums k)) v.type_oids_differ fits (ListLemmas.or_left _ _ f.oids);
      label_oids_differ = DatabaseLemmas.oids_joined (enum_label_oids k) (label_oids d) (label_oids (add_enum k d))
          (ListLemmas.joined_flat enum_label_oids d.enums k) v.label_oids_differ (list_all-map is_32_bits (λ (l : Label). l.oid) k.labels ∙ labels_fit) (ListLemmas.or_right _ _ f.oids);
      schema_names_differ = v.schema_names_differ;
      relation_names_differ = v.relation_names_differ;
      type_names_differ = DatabaseLemmas.name_joins (enum_name k) (type_names d) (type_names (add_enum k d))
          (ListLemmas.joined_left _ _ _ (map table_name d.tables) (ListLemmas.joined_map enum_name d.enums k)) v.type_names_differ (ListLemmas.or_left _ _ f.names);
      file_numbers = v.file_numbers;
      file_places_differ = v.file_places_differ;
    }

-- ---- one label more

same_text-turned : (a b : Label) → same_text a b ≡ same_text b a
same_text-turned a b = ListLemmas.bytes_eq-turned a.text b.text

-- an enum stays valid with one label more
labelled_valid : (roles : List Role) (d : DatabaseObjects) (k : EnumType) (l : Label) → is_long l ≡ false → list_any (same_text l) k.labels ≡ false → enum_is_valid roles d k ≡ true → enum_is_valid roles d (labelled l k) ≡ true
labelled_valid roles d k l short free h =
    let parts = ListLemmas.and_left _ _ h in
    let few : list_any is_long (k.labels ++ l ∷ []) ≡ false = list_any-append is_long k.labels (l ∷ []) ∙ ListLemmas.or_both _ _ (ListLemmas.not_true _ (ListLemmas.and_right _ _ parts)) (ListLemmas.or_both _ _ short refl) in
    ListLemmas.and_both _ _ (ListLemmas.and_both _ _ (ListLemmas.and_left _ _ parts) (ap not few))
    (ListLemmas.distinct-push same_text same_text-turned k.labels (l ∷ []) (ListLemmas.and_right _ _ h) (ListLemmas.clash_one same_text l k.labels free))

label_keeps_of : (roles : List Role) (tablespaces : List Tablespace) (d : DatabaseObjects) (kind : ℕ) (l : Label) (found : EnumType) → find (enum_has kind) d.enums ≡ Some found → IsValidDatabase roles tablespaces d → is_32_bits l.oid ≡ true
    → CauseLemmas.NoCause false (is_long l) (oid_taken l.oid (label_oids d)) (list_any (same_text l) found.labels) false → IsValidDatabase roles tablespaces (add_label kind l d)
unfolding relation_oids type_oids label_oids relation_names type_names file_places
label_keeps_of roles tablespaces d kind l found at v fits f =
    let more : List EnumType = change_first (enum_has kind) (labelled l) d.enums in
    record {
      more_schemas = v.more_schemas;
      public_first = v.public_first;
      schemas = v.schemas;
      enums = ListLemmas.all_change (enum_is_valid roles d) (enum_has kind) (labelled l) d.enums found at (labelled_valid roles d found l f.few f.names) v.enums;
      tables = tables_grow roles tablespaces d more (λ oid h. ListLemmas.any_change (enum_has oid) (enum_has kind) (labelled l) (λ x. refl) d.enums ∙ h) v.tables;
      indexes = v.indexes;
      sequences = v.sequences;
      relation_oids_differ = v.relation_oids_differ;
      type_oids_differ = subst (λ (os : List ℕ). are_user_oids (os ++ map (λ (t : Table). t.row_type) d.tables) ≡ true) (sym (ListLemmas.map-change (λ (x : EnumType). x.oid) (enum_has kind) (labelled l) (λ x. refl) d.enums)) v.type_oids_differ;
      label_oids_differ = DatabaseLemmas.oid_joins l.oid (label_oids d) (label_oids (add_label kind l d))
          (ListLemmas.joined_change enum_label_oids (enum_has kind) (labelled l) (l.oid ∷ []) (λ x. map-append (λ (y : Label). y.oid) x.labels (l ∷ [])) d.enums found at) v.label_oids_differ fits f.oids;
      schema_names_differ = v.schema_names_differ;
      relation_names_differ = v.relation_names_differ;
      type_names_differ = subst (λ (ns : List SchemaName). are_distinct same_name (ns ++ map table_name d.tables) ≡ true) (sym (ListLemmas.map-change enum_name (enum_has kind) (labelled l) (λ x. refl) d.enums)) v.type_names_differ;
      file_numbers = v.file_numbers;
      file_places_differ = v.file_places_differ;
    }

in_enum : (roles : List Role) (tablespaces : List Tablespace) (d : DatabaseObjects) (kind : ℕ) (l : Label) (o : Option EnumType) → find (enum_has kind) d.enums ≡ o → IsValidDatabase roles tablespaces d → is_32_bits l.oid ≡ true
    → label_refusal_in d l o ≡ None → IsValidDatabase roles tablespaces (add_label kind l d)
in_enum roles tablespaces d kind l None at v fits free = cc
in_enum roles tablespaces d kind l (Some found) at v fits free = label_keeps_of roles tablespaces d kind l found at v fits (CauseLemmas.no_cause _ _ _ _ _ free)

pub label_keeps : (roles : List Role) (tablespaces : List Tablespace) (d : DatabaseObjects) (kind : ℕ) (l : Label) → IsValidDatabase roles tablespaces d → is_32_bits l.oid ≡ true → label_refusal d kind l ≡ None → IsValidDatabase roles tablespaces (add_label kind l d)
label_keeps roles tablespaces d kind l v fits free = in_enum roles tablespaces d kind l (find (enum_has kind) d.enums) refl v fits free
