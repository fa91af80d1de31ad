-- The starting catalog is valid, and a valid catalog stays valid with one object of the cluster more.
use Rattle.std.proofs.Common.{◌≡◌, ℕ, Bool, true, false, List, [], ◌∷◌, ◌++◌, None, refl, sym, ap, subst, ◌∙◌, append_assoc}
use Rattle.std.specs.Prelude.{nat_eq, bytes_eq, codes}
use Rattle.std.specs.List.{list_any, list_all}
use Rattle.std.proofs.lemmas.List.{map-append}
use Rattle.fs_model.specs.Names.{is_name as is_file_name}
use Rattle.catalog.specs.declared.owners.Role.{Role}
use Rattle.catalog.specs.declared.owners.Tablespace.{Tablespace}
use Rattle.catalog.specs.Lists.{are_distinct}
use Rattle.catalog.specs.Cluster.{DatabaseObjects, Cluster, bootstrap_role, fresh_database, first_role, first_tablespace, started}
use Rattle.catalog.specs.Spaces.{role_has, tablespace_has, role_oids, role_names, tablespace_oids, tablespace_names, database_oids, database_names, relation_oids, type_oids, label_oids, relation_names, type_names, file_places}
use Rattle.catalog.specs.Forms.{is_32_bits, is_name, has_role, has_tablespace}
use Rattle.catalog.specs.Refusals.{role_refusal, tablespace_refusal, database_refusal}
use Rattle.catalog.specs.Valid.{schema_is_valid, enum_is_valid, table_is_valid, index_is_valid, sequence_is_valid, IsValidDatabase, AreValidDatabases, DatabaseHead, head_of, first_heads, role_is_valid, tablespace_is_valid, head_is_valid, IsValid}
use Rattle.catalog.proofs.ListLemmas
use Rattle.catalog.proofs.CauseLemmas

-- ---- more roles and more tablespaces around a database

roles_grow : (roles : List Role) (r : Role) (tablespaces : List Tablespace) (d : DatabaseObjects) → IsValidDatabase roles tablespaces d → IsValidDatabase (roles ++ r ∷ []) tablespaces d
roles_grow roles r tablespaces d v =
    let grows = λ (oid : ℕ) (h : has_role roles oid ≡ true). ListLemmas.any-left (role_has oid) roles (r ∷ []) h in
    record {
      more_schemas = v.more_schemas;
      public_first = v.public_first;
      schemas = ListLemmas.all-mono (schema_is_valid roles) (schema_is_valid (roles ++ r ∷ [])) (λ s h. ListLemmas.and_mono _ _ _ _ (λ x. x) (grows s.owner) h) d.schemas v.schemas;
      enums = ListLemmas.all-mono (enum_is_valid roles d) (enum_is_valid (roles ++ r ∷ []) d)
          (λ k h. ListLemmas.and_mono _ _ _ _ (ListLemmas.and_mono _ _ _ _ (ListLemmas.and_mono _ _ _ _ (λ x. x) (ListLemmas.and_mono _ _ _ _ (grows k.owner) (λ x. x))) (λ x. x)) (λ x. x) h) d.enums v.enums;
      tables = ListLemmas.all-mono (table_is_valid roles tablespaces d) (table_is_valid (roles ++ r ∷ []) tablespaces d)
          (λ t h. ListLemmas.and_mono _ _ _ _ (ListLemmas.and_mono _ _ _ _ (ListLemmas.and_mono _ _ _ _ (λ x. x) (ListLemmas.and_mono _ _ _ _ (ListLemmas.and_mono _ _ _ _ (ListLemmas.and_mono _ _ _ _ (grows t.owner) (λ x. x)) (λ x. x)) (λ x. x))) (λ x. x)) (λ x. x) h) d.tables v.tables;
      indexes = v.indexes;
      sequences = ListLemmas.all-mono (sequence_is_valid roles d) (sequence_is_valid (roles ++ r ∷ []) d)
          (λ q h. ListLemmas.and_mono _ _ _ _ (λ x. x) (ListLemmas.and_mono _ _ _ _ (grows q.owner) (λ x. x)) h) d.sequences v.sequences;
      relation_oids_differ = v.relation_oids_differ;
      type_oids_differ = v.type_oids_differ;
      label_oids_differ = v.label_oids_differ;
      schema_names_differ = v.schema_names_differ;
      relation_names_differ = v.relation_names_differ;
      type_names_differ = v.type_names_differ;
      file_numbers = v.file_numbers;
      file_places_differ = v.file_places_differ;
    }

tablespaces_grow : (roles : List Role) (tablespaces : List Tablespace) (s : Tablespace) (d : DatabaseObjects) → IsValidDatabase roles tablespaces d → IsValidDatabase roles (tablespaces ++ s ∷ []) d
tablespaces_grow roles tablespaces s d v =
    let grows = λ (oid : ℕ) (h : has_tablespace tablespaces oid ≡ true). ListLemmas.any-left (tablespace_has oid) tablespaces (s ∷ []) h in
    record {
      more_schemas = v.more_schemas;
      public_first = v.public_first;
      schemas = v.schemas;
      enums = v.enums;
      tables = ListLemmas.all-mono (table_is_valid roles tablespaces d) (table_is_valid roles (tablespaces ++ s ∷ []) d)
          (λ t h. ListLemmas.and_mono _ _ _ _ (ListLemmas.and_mono _ _ _ _ (ListLemmas.and_mono _ _ _ _ (λ x. x) (ListLemmas.and_mono _ _ _ _ (ListLemmas.and_mono _ _ _ _ (ListLemmas.and_mono _ _ _ _ (λ x. x) (grows t.tablespace)) (λ x. x)) (λ x. x))) (λ x. x)) (λ x. x) h) d.tables v.tables;
      indexes = ListLemmas.all-mono (index_is_valid tablespaces d.tables) (index_is_valid (tablespaces ++ s ∷ []) d.tables)
          (λ i h. ListLemmas.and_mono _ _ _ _ (ListLemmas.and_mono _ _ _ _ (λ x. x) (ListLemmas.and_mono _ _ _ _ (grows i.tablespace) (λ x. x))) (λ x. x) h) d.indexes v.indexes;
      sequences = v.sequences;
      relation_oids_differ = v.relation_oids_differ;
      type_oids_differ = v.type_oids_differ;
      label_oids_differ = v.label_oids_differ;
      schema_names_differ = v.schema_names_differ;
      relation_names_differ = v.relation_names_differ;
      type_names_differ = v.type_names_differ;
      file_numbers = v.file_numbers;
      file_places_differ = v.file_places_differ;
    }

all_grow : (roles more_roles : List Role) (tablespaces more_tablespaces : List Tablespace) → ((d : DatabaseObjects) → IsValidDatabase roles tablespaces d → IsValidDatabase more_roles more_tablespaces d) → (ds : List DatabaseObjects) → AreValidDatabases roles tablespaces ds → AreValidDatabases more_roles more_tablespaces ds
all_grow roles more_roles tablespaces more_tablespaces grows [] v = tt
all_grow roles more_roles tablespaces more_tablespaces grows (d ∷ ds) v = (grows d v.0, all_grow roles more_roles tablespaces more_tablespaces grows ds v.1)

-- ---- one role, one tablespace, one database more

number_joins : (n : ℕ) (before after : List ℕ) → ListLemmas.Joined (n ∷ []) before after → are_distinct nat_eq before ≡ true → list_any (nat_eq n) before ≡ false → are_distinct nat_eq after ≡ true
number_joins n before after parts differ free =
    ListLemmas.joined_distinct nat_eq ListLemmas.nat_eq-turned (n ∷ []) before after parts differ (ListLemmas.clash_one nat_eq n before free)

text_joins : (n : List ℕ) (before after : List (List ℕ)) → ListLemmas.Joined (n ∷ []) before after → are_distinct bytes_eq before ≡ true → list_any (bytes_eq n) before ≡ false → are_distinct bytes_eq after ≡ true
text_joins n before after parts differ free =
    ListLemmas.joined_distinct bytes_eq ListLemmas.bytes_eq-turned (n ∷ []) before after parts differ (ListLemmas.clash_one bytes_eq n before free)

pub role_keeps : (c : Cluster) (r : Role) → IsValid c → is_name r.name ≡ true → is_32_bits r.oid ≡ true → role_refusal c.roles r ≡ None → IsValid (record c { roles = c.roles ++ r ∷ [] })
role_keeps c r v named fits free =
    let f = CauseLemmas.no_cause _ _ _ _ _ free in
    let grows = λ (oid : ℕ) (h : has_role c.roles oid ≡ true). ListLemmas.any-left (role_has oid) c.roles (r ∷ []) h in
    record {
      more_roles = v.more_roles ++ r ∷ [];
      more_tablespaces = v.more_tablespaces;
      more_heads = v.more_heads;
      bootstrap = v.bootstrap;
      roles_are = ap (λ (l : List Role). l ++ r ∷ []) v.roles_are;
      tablespaces_are = v.tablespaces_are;
      databases_are = v.databases_are;
      roles = ListLemmas.all-push role_is_valid v.more_roles r v.roles (ListLemmas.and_both _ _ named (CauseLemmas.user_number r.oid (ListLemmas.or_left _ _ f.oids) fits));
      tablespaces = ListLemmas.all-mono (tablespace_is_valid c.roles) (tablespace_is_valid (c.roles ++ r ∷ []))
          (λ s h. ListLemmas.and_mono _ _ _ _ (ListLemmas.and_mono _ _ _ _ (λ x. x) (grows s.owner)) (λ x. x) h) v.more_tablespaces v.tablespaces;
      heads = ListLemmas.all-mono (head_is_valid c.roles) (head_is_valid (c.roles ++ r ∷ [])) (λ s h. ListLemmas.and_mono _ _ _ _ (λ x. x) (grows s.owner) h) v.more_heads v.heads;
      role_oids_differ = number_joins r.oid (role_oids c.roles) (role_oids (c.roles ++ r ∷ [])) (ListLemmas.joined_map (λ (x : Role). x.oid) c.roles r) v.role_oids_differ (ListLemmas.or_right _ _ f.oids);
      role_names_differ = text_joins r.name (role_names c.roles) (role_names (c.roles ++ r ∷ [])) (ListLemmas.joined_map (λ (x : Role). x.name) c.roles r) v.role_names_differ f.names;
      tablespace_oids_differ = v.tablespace_oids_differ;
      tablespace_names_differ = v.tablespace_names_differ;
      database_oids_differ = v.database_oids_differ;
      database_names_differ = v.database_names_differ;
      databases = all_grow c.roles (c.roles ++ r ∷ []) c.tablespaces c.tablespaces (roles_grow c.roles r c.tablespaces) c.databases v.databases;
    }

pub tablespace_keeps : (c : Cluster) (s : Tablespace) → IsValid c → is_name s.name ≡ true → is_32_bits s.oid ≡ true → list_all is_file_name s.location ≡ true → tablespace_refusal c.roles c.tablespaces s ≡ None → IsValid (record c { tablespaces = c.tablespaces ++ s ∷ [] })
tablespace_keeps c s v named fits located free =
    let f = CauseLemmas.no_cause _ _ _ _ _ free in
    record {
      more_roles = v.more_roles;
      more_tablespaces = v.more_tablespaces ++ s ∷ [];
      more_heads = v.more_heads;
      bootstrap = v.bootstrap;
      roles_are = v.roles_are;
      tablespaces_are = ap (λ (l : List Tablespace). l ++ s ∷ []) v.tablespaces_are;
      databases_are = v.databases_are;
      roles = v.roles;
      tablespaces = ListLemmas.all-push (tablespace_is_valid c.roles) v.more_tablespaces s v.tablespaces
          (ListLemmas.and_both _ _ (ListLemmas.and_both _ _ (ListLemmas.and_both _ _ named (CauseLemmas.user_number s.oid (ListLemmas.or_left _ _ f.oids) fits)) (ListLemmas.not_false _ f.stands)) located);
      heads = v.heads;
      role_oids_differ = v.role_oids_differ;
      role_names_differ = v.role_names_differ;
      tablespace_oids_differ = number_joins s.oid (tablespace_oids c.tablespaces) (tablespace_oids (c.tablespaces ++ s ∷ [])) (ListLemmas.joined_map (λ (x : Tablespace). x.oid) c.tablespaces s) v.tablespace_oids_differ (ListLemmas.or_right _ _ f.oids);
      tablespace_names_differ = text_joins s.name (tablespace_names c.tablespaces) (tablespace_names (c.tablespaces ++ s ∷ [])) (ListLemmas.joined_right _ _ _ (codes "pg_global" ∷ []) (ListLemmas.joined_map (λ (x : Tablespace). x.name) c.tablespaces s)) v.tablespace_names_differ f.names;
      database_oids_differ = v.database_oids_differ;
      database_names_differ = v.database_names_differ;
      databases = all_grow c.roles c.roles c.tablespaces (c.tablespaces ++ s ∷ []) (tablespaces_grow c.roles c.tablespaces s) c.databases v.databases;
    }

fresh_valid : (roles : List Role) (tablespaces : List Tablespace) (oid : ℕ) (name : List ℕ) (owner : ℕ) (on : Bool) → has_role roles bootstrap_role ≡ true → IsValidDatabase roles tablespaces (fresh_database oid name owner on)
unfolding relation_oids type_oids label_oids relation_names type_names file_places
fresh_valid roles tablespaces oid name owner on h =
    record {
      more_schemas = [];
      public_first = refl;
      schemas = ListLemmas.and_both _ _ h refl;
      enums = refl;
      tables = refl;
      indexes = refl;
      sequences = refl;
      relation_oids_differ = refl;
      type_oids_differ = refl;
      label_oids_differ = refl;
      schema_names_differ = refl;
      relation_names_differ = refl;
      type_names_differ = refl;
      file_numbers = refl;
      file_places_differ = refl;
    }

one_more : (roles : List Role) (tablespaces : List Tablespace) (ds : List DatabaseObjects) (d : DatabaseObjects) → AreValidDatabases roles tablespaces ds → IsValidDatabase roles tablespaces d → AreValidDatabases roles tablespaces (ds ++ d ∷ [])
one_more roles tablespaces [] d v w = (w, tt)
one_more roles tablespaces (x ∷ ds) d v w = (v.0, one_more roles tablespaces ds d v.1 w)

bootstrap_stands : (c : Cluster) → IsValid c → has_role c.roles bootstrap_role ≡ true
bootstrap_stands c v = ap (λ (l : List Role). has_role l bootstrap_role) v.roles_are

pub database_keeps : (c : Cluster) (d : DatabaseObjects) → IsValid c → is_name d.name ≡ true → is_32_bits d.oid ≡ true → d ≡ fresh_database d.oid d.name d.owner d.connections → database_refusal c.roles c.databases d ≡ None → IsValid (record c { databases = c.databases ++ d ∷ [] })
database_keeps c d v named fits fresh free =
    let f = CauseLemmas.no_cause _ _ _ _ _ free in
    let valid : IsValidDatabase c.roles c.tablespaces d = subst (λ (x : DatabaseObjects). IsValidDatabase c.roles c.tablespaces x) (sym fresh) (fresh_valid c.roles c.tablespaces d.oid d.name d.owner d.connections (bootstrap_stands c v)) in
    record {
      more_roles = v.more_roles;
      more_tablespaces = v.more_tablespaces;
      more_heads = v.more_heads ++ head_of d ∷ [];
      bootstrap = v.bootstrap;
      roles_are = v.roles_are;
      tablespaces_are = v.tablespaces_are;
      databases_are = map-append head_of c.databases (d ∷ []) ∙ ap (λ (l : List DatabaseHead). l ++ head_of d ∷ []) v.databases_are ∙ append_assoc first_heads v.more_heads (head_of d ∷ []);
      roles = v.roles;
      tablespaces = v.tablespaces;
      heads = ListLemmas.all-push (head_is_valid c.roles) v.more_heads (head_of d) v.heads
          (ListLemmas.and_both _ _ (ListLemmas.and_both _ _ named (CauseLemmas.user_number d.oid (ListLemmas.or_left _ _ f.oids) fits)) (ListLemmas.not_false _ f.stands));
      role_oids_differ = v.role_oids_differ;
      role_names_differ = v.role_names_differ;
      tablespace_oids_differ = v.tablespace_oids_differ;
      tablespace_names_differ = v.tablespace_names_differ;
      database_oids_differ = number_joins d.oid (database_oids c.databases) (database_oids (c.databases ++ d ∷ [])) (ListLemmas.joined_map (λ (x : DatabaseObjects). x.oid) c.databases d) v.database_oids_differ (ListLemmas.or_right _ _ f.oids);
      database_names_differ = text_joins d.name (database_names c.databases) (database_names (c.databases ++ d ∷ [])) (ListLemmas.joined_map (λ (x : DatabaseObjects). x.name) c.databases d) v.database_names_differ f.names;
      databases = one_more c.roles c.tablespaces c.databases d v.databases valid;
    }

-- ---- the start

pub started_valid : (name : List ℕ) → is_name name ≡ true → IsValid (started name)
started_valid name named =
    record {
      more_roles = [];
      more_tablespaces = [];
      more_heads = [];
      bootstrap = named;
      roles_are = refl;
      tablespaces_are = refl;
      databases_are = refl;
      roles = refl;
      tablespaces = refl;
      heads = refl;
      role_oids_differ = refl;
      role_names_differ = refl;
      tablespace_oids_differ = refl;
      tablespace_names_differ = refl;
      database_oids_differ = refl;
      database_names_differ = refl;
      databases = (
        fresh_valid (first_role name ∷ []) (first_tablespace ∷ []) 1 (codes "template1") bootstrap_role true refl,
        (
          fresh_valid (first_role name ∷ []) (first_tablespace ∷ []) 4 (codes "template0") bootstrap_role false refl,
          (fresh_valid (first_role name ∷ []) (first_tablespace ∷ []) 5 (codes "postgres") bootstrap_role true refl, tt),
        ),
      );
    }
