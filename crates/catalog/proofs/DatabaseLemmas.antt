-- A valid database stays valid with one object more.
use Rattle.std.proofs.Common.{◌≡◌, ℕ, Bool, true, false, List, [], ◌∷◌, ◌++◌, None, refl, ap}
use Rattle.std.specs.Prelude.{nat_eq, bytes_eq, map}
use Rattle.std.specs.List.{list_all, flat_map}
use Rattle.catalog.specs.declared.owners.Role.{Role}
use Rattle.catalog.specs.declared.owners.Tablespace.{Tablespace}
use Rattle.catalog.specs.declared.owners.Schema.{Schema}
use Rattle.catalog.specs.declared.relations.Index.{Index}
use Rattle.catalog.specs.declared.relations.Sequence.{Sequence}
use Rattle.catalog.specs.Lists.{are_distinct, clash}
use Rattle.catalog.specs.Cluster.{DatabaseObjects}
use Rattle.catalog.specs.Spaces.{table_oids, relation_oids, type_oids, label_oids, SchemaName, same_name, table_name, sequence_name, index_name, relation_names, type_names, schema_names, FilePlace, same_place, table_places, index_place, sequence_place, file_places}
use Rattle.catalog.specs.Forms.{is_32_bits, is_name, has_schema, schema_is}
use Rattle.catalog.specs.Refusals.{schema_refusal, sequence_refusal, oid_taken, oids_taken, name_taken, file_taken}
use Rattle.catalog.specs.Changes.{set_connections, add_schema, add_sequence}
use Rattle.catalog.specs.Valid.{is_user_number, is_user_place, are_user_oids, schema_is_valid, enum_is_valid, table_is_valid, sequence_is_valid, IsValidDatabase}
use Rattle.catalog.proofs.ListLemmas
use Rattle.catalog.proofs.CauseLemmas

pub same_name-turned : (a b : SchemaName) → same_name a b ≡ same_name b a
same_name-turned a b = rw (ListLemmas.bytes_eq-turned a.schema b.schema, ListLemmas.bytes_eq-turned a.name b.name) refl

pub same_place-turned : (a b : FilePlace) → same_place a b ≡ same_place b a
same_place-turned a b = rw (ListLemmas.nat_eq-turned a.tablespace b.tablespace, ListLemmas.nat_eq-turned a.number b.number) refl

-- ---- the spaces with one object more

pub oids_join : (new before after : List ℕ) → ListLemmas.Joined new before after → are_user_oids before ≡ true → list_all is_user_number new ≡ true → clash nat_eq new before ≡ false → are_user_oids after ≡ true
oids_join new before after parts differ user free =
    ListLemmas.and_both _ _ (ListLemmas.joined_all is_user_number new before after parts (ListLemmas.and_left _ _ differ) user)
    (ListLemmas.joined_distinct nat_eq ListLemmas.nat_eq-turned new before after parts (ListLemmas.and_right _ _ differ) free)

pub oid_joins : (oid : ℕ) (before after : List ℕ) → ListLemmas.Joined (oid ∷ []) before after → are_user_oids before ≡ true → is_32_bits oid ≡ true → oid_taken oid before ≡ false → are_user_oids after ≡ true
oid_joins oid before after parts differ fits free =
    oids_join (oid ∷ []) before after parts differ
    (ListLemmas.and_both _ _ (CauseLemmas.user_number oid (ListLemmas.or_left _ _ free) fits) refl)
    (ListLemmas.clash_one nat_eq oid before (ListLemmas.or_right _ _ free))

pub oids_joined : (oids before after : List ℕ) → ListLemmas.Joined oids before after → are_user_oids before ≡ true → list_all is_32_bits oids ≡ true → oids_taken oids before ≡ false → are_user_oids after ≡ true
oids_joined oids before after parts differ fit free =
    oids_join oids before after parts differ (CauseLemmas.user_numbers oids (ListLemmas.or_left _ _ free) fit) (ListLemmas.or_right _ _ free)

pub name_joins : (name : SchemaName) (before after : List SchemaName) → ListLemmas.Joined (name ∷ []) before after → are_distinct same_name before ≡ true → name_taken name before ≡ false → are_distinct same_name after ≡ true
name_joins name before after parts differ free =
    ListLemmas.joined_distinct same_name same_name-turned (name ∷ []) before after parts differ (ListLemmas.clash_one same_name name before free)

sequence_joins_oids : (d : DatabaseObjects) (s : Sequence) → ListLemmas.Joined (s.oid ∷ []) (relation_oids d) (relation_oids (add_sequence s d))
unfolding relation_oids
sequence_joins_oids d s =
    ListLemmas.joined_right _ _ _ (flat_map table_oids d.tables) (ListLemmas.joined_right _ _ _ (map (λ (i : Index). i.oid) d.indexes) (ListLemmas.joined_map (λ (x : Sequence). x.oid) d.sequences s))

sequence_joins_names : (d : DatabaseObjects) (s : Sequence) → ListLemmas.Joined (sequence_name s ∷ []) (relation_names d) (relation_names (add_sequence s d))
unfolding relation_names
sequence_joins_names d s =
    ListLemmas.joined_right _ _ _ (map table_name d.tables) (ListLemmas.joined_right _ _ _ (map (index_name d.tables) d.indexes) (ListLemmas.joined_map sequence_name d.sequences s))

sequence_joins_places : (d : DatabaseObjects) (s : Sequence) → ListLemmas.Joined (sequence_place s ∷ []) (file_places d) (file_places (add_sequence s d))
unfolding file_places
sequence_joins_places d s =
    ListLemmas.joined_right _ _ _ (flat_map table_places d.tables) (ListLemmas.joined_right _ _ _ (map index_place d.indexes) (ListLemmas.joined_map sequence_place d.sequences s))

pub place_joins : (place : FilePlace) (before after : List FilePlace) → ListLemmas.Joined (place ∷ []) before after → list_all is_user_place before ≡ true → are_distinct same_place before ≡ true → is_32_bits place.number ≡ true → file_taken place before ≡ false → (list_all is_user_place after ≡ true) × (are_distinct same_place after ≡ true)
place_joins place before after parts user differ fits free = (
  ListLemmas.joined_all is_user_place (place ∷ []) before after parts user (ListLemmas.and_both _ _ (CauseLemmas.user_number place.number (ListLemmas.or_left _ _ free) fits) refl),
  ListLemmas.joined_distinct same_place same_place-turned (place ∷ []) before after parts differ (ListLemmas.clash_one same_place place before (ListLemmas.or_right _ _ free)),
)

-- ---- one sequence more

pub sequence_keeps : (roles : List Role) (tablespaces : List Tablespace) (d : DatabaseObjects) (s : Sequence) → IsValidDatabase roles tablespaces d → is_name s.name ≡ true → is_32_bits s.oid ≡ true → is_32_bits s.file ≡ true
    → sequence_refusal roles d s ≡ None → IsValidDatabase roles tablespaces (add_sequence s d)
unfolding type_oids label_oids type_names
sequence_keeps roles tablespaces d s v named fits file_fits free =
    let f = CauseLemmas.no_cause _ _ _ _ _ free in
    let places = place_joins (sequence_place s) (file_places d) (file_places (add_sequence s d)) (sequence_joins_places d s) v.file_numbers v.file_places_differ file_fits f.files in
    record {
      more_schemas = v.more_schemas;
      public_first = v.public_first;
      schemas = v.schemas;
      enums = v.enums;
      tables = v.tables;
      indexes = v.indexes;
      sequences = ListLemmas.all-push (sequence_is_valid roles d) d.sequences s v.sequences (ListLemmas.and_both _ _ named (ListLemmas.not_false _ f.stands));
      relation_oids_differ = oid_joins s.oid (relation_oids d) (relation_oids (add_sequence s d)) (sequence_joins_oids d s) v.relation_oids_differ fits f.oids;
      type_oids_differ = v.type_oids_differ;
      label_oids_differ = v.label_oids_differ;
      schema_names_differ = v.schema_names_differ;
      relation_names_differ = name_joins (sequence_name s) (relation_names d) (relation_names (add_sequence s d)) (sequence_joins_names d s) v.relation_names_differ f.names;
      type_names_differ = v.type_names_differ;
      file_numbers = places.0;
      file_places_differ = places.1;
    }

-- ---- the connections

pub connections_keep : (roles : List Role) (tablespaces : List Tablespace) (d : DatabaseObjects) (on : Bool) → IsValidDatabase roles tablespaces d → IsValidDatabase roles tablespaces (set_connections on d)
unfolding relation_oids type_oids label_oids relation_names type_names file_places
connections_keep roles tablespaces d on v =
    record {
      more_schemas = v.more_schemas;
      public_first = v.public_first;
      schemas = v.schemas;
      enums = v.enums;
      tables = v.tables;
      indexes = v.indexes;
      sequences = v.sequences;
      relation_oids_differ = v.relation_oids_differ;
      type_oids_differ = v.type_oids_differ;
      label_oids_differ = v.label_oids_differ;
      schema_names_differ = v.schema_names_differ;
      relation_names_differ = v.relation_names_differ;
      type_names_differ = v.type_names_differ;
      file_numbers = v.file_numbers;
      file_places_differ = v.file_places_differ;
    }

-- ---- one schema more

pub schema_keeps : (roles : List Role) (tablespaces : List Tablespace) (d : DatabaseObjects) (s : Schema) → IsValidDatabase roles tablespaces d → is_name s.name ≡ true → schema_refusal roles d s ≡ None → IsValidDatabase roles tablespaces (add_schema s d)
unfolding relation_oids type_oids label_oids relation_names type_names file_places
schema_keeps roles tablespaces d s v named free =
    let f = CauseLemmas.no_cause _ _ _ _ _ free in
    let grows = λ (name : List ℕ) (h : has_schema d.schemas name ≡ true). ListLemmas.any-left (schema_is name) d.schemas (s ∷ []) h in
    record {
      more_schemas = v.more_schemas ++ s ∷ [];
      public_first = ap (λ (l : List Schema). l ++ s ∷ []) v.public_first;
      schemas = ListLemmas.all-push (schema_is_valid roles) d.schemas s v.schemas (ListLemmas.and_both _ _ named (ListLemmas.not_false _ f.stands));
      enums = ListLemmas.all-mono (enum_is_valid roles d) (enum_is_valid roles (add_schema s d))
          (λ k h. ListLemmas.and_mono _ _ _ _ (ListLemmas.and_mono _ _ _ _ (ListLemmas.and_mono _ _ _ _ (λ x. x) (ListLemmas.and_mono _ _ _ _ (λ x. x) (grows k.schema))) (λ x. x)) (λ x. x) h) d.enums v.enums;
      tables = ListLemmas.all-mono (table_is_valid roles tablespaces d) (table_is_valid roles tablespaces (add_schema s d))
          (λ t h. ListLemmas.and_mono _ _ _ _ (ListLemmas.and_mono _ _ _ _ (ListLemmas.and_mono _ _ _ _ (λ x. x) (ListLemmas.and_mono _ _ _ _ (ListLemmas.and_mono _ _ _ _ (λ x. x) (grows t.schema)) (λ x. x))) (λ x. x)) (λ x. x) h) d.tables v.tables;
      indexes = v.indexes;
      sequences = ListLemmas.all-mono (sequence_is_valid roles d) (sequence_is_valid roles (add_schema s d))
          (λ q h. ListLemmas.and_mono _ _ _ _ (λ x. x) (ListLemmas.and_mono _ _ _ _ (λ x. x) (grows q.schema)) h) d.sequences v.sequences;
      relation_oids_differ = v.relation_oids_differ;
      type_oids_differ = v.type_oids_differ;
      label_oids_differ = v.label_oids_differ;
      schema_names_differ = ListLemmas.joined_distinct bytes_eq ListLemmas.bytes_eq-turned (s.name ∷ []) (schema_names d) (schema_names (add_schema s d)) (ListLemmas.joined_map (λ (x : Schema). x.name) d.schemas s) v.schema_names_differ (ListLemmas.clash_one bytes_eq s.name (schema_names d) f.names);
      relation_names_differ = v.relation_names_differ;
      type_names_differ = v.type_names_differ;
      file_numbers = v.file_numbers;
      file_places_differ = v.file_places_differ;
    }
