-- The statements of a database's contents lead from the database as it is made to the whole.
use Rattle.std.proofs.Common.{◌≡◌, ℕ, Bool, true, false, cond, List, [], ◌∷◌, ◌++◌, map, drop, Option, Some, None, Ok, refl, sym, ap, subst, ◌∙◌}
use Rattle.std.specs.Prelude.{nat_eq, bytes_eq, option_map}
use Rattle.std.specs.List.{list_any, find, flat_map}
use Rattle.catalog.specs.declared.owners.Role.{Role}
use Rattle.catalog.specs.declared.owners.Tablespace.{Tablespace}
use Rattle.catalog.specs.declared.owners.Schema.{Schema}
use Rattle.catalog.specs.declared.enums.EnumType.{EnumType}
use Rattle.catalog.specs.declared.relations.Table.{Table}
use Rattle.catalog.specs.Lists.{are_distinct}
use Rattle.catalog.specs.Cluster.{DatabaseObjects, Cluster, public_schema, fresh_database}
use Rattle.catalog.specs.Spaces.{database_has, role_names, tablespace_names, type_oids}
use Rattle.catalog.specs.Lookups.{database_is}
use Rattle.catalog.specs.Valid.{IsValidDatabase}
use Rattle.catalog.proofs.ListLemmas.{and_left, and_right}
use Rattle.catalog.specs.Refusals.{schema_refusal}
use Rattle.catalog_laws.specs.Unrefused.{EachBehind, with_enums, with_tables, with_indexes, IsUnrefusedDatabase}
use Rattle.dump_grammar.specs.declared.statement.Statement.{Statement}
use Rattle.dump_grammar.specs.declared.statement.Statement.TheVariants.{Connect}
use Rattle.dump_grammar.specs.Canonical.{is_empty, holds_nothing, schema_statements, enum_statements, table_statements, index_statements, sequence_statements, object_statements, content_statements}
use Rattle.dump_rules.specs.Rules.{State, no_numbers, connected, step, Replays}
use Rattle.dump_laws.specs.Replayed.{at}
use Rattle.dump_laws.proofs.Lookups.{distinct_front, bytes_eq-itself, enum_names_differ, table_names_differ}
use Rattle.dump_laws.proofs.Replaying.{Replays-append}
use Rattle.dump_laws.proofs.Databases.{find_at, with_one, within, IsPlace}
use Rattle.dump_laws.proofs.Schemas.{with_schemas, schemas_replay}
use Rattle.dump_laws.proofs.Enums.{enums_replay}
use Rattle.dump_laws.proofs.Tables.{tables_replay}
use Rattle.dump_laws.proofs.Indexes.{indexes_replay}
use Rattle.dump_laws.proofs.Sequences.{sequences_replay}

-- ---- the objects, in order

enum_oids_differ : (d : DatabaseObjects) → are_distinct nat_eq (type_oids d) ≡ true → are_distinct nat_eq (map (λ (k : EnumType). k.oid) d.enums) ≡ true
unfolding type_oids
enum_oids_differ d differ = distinct_front nat_eq (map (λ (k : EnumType). k.oid) d.enums) (map (λ (t : Table). t.row_type) d.tables) differ

-- all but the schemas
abbrev later_statements : List Role → List Tablespace → DatabaseObjects → List Statement
later_statements roles tablespaces d =
    flat_map (enum_statements roles) d.enums
    ++ (flat_map (table_statements roles tablespaces d.enums) d.tables
    ++ (flat_map (index_statements tablespaces d.tables) d.indexes
    ++ flat_map (sequence_statements roles) d.sequences))

later_replay : (c : Cluster) (before after : List DatabaseObjects) (d : DatabaseObjects) → IsPlace c before d.oid → IsValidDatabase c.roles c.tablespaces d → IsUnrefusedDatabase c.roles c.tablespaces d
    → Replays (within c before after (with_enums d [])) (later_statements c.roles c.tablespaces d) (within c before after d)
later_replay c before after d place v free =
    let enums = enum_names_differ d v.type_names_differ in
    let tables = table_names_differ d v.relation_names_differ in
    let index_lines : List Statement = flat_map (index_statements c.tablespaces d.tables) d.indexes in
    let sequence_lines : List Statement = flat_map (sequence_statements c.roles) d.sequences in
    let table_lines : List Statement = flat_map (table_statements c.roles c.tablespaces d.enums) d.tables in
    Replays-append (within c before after (with_enums d [])) (within c before after (with_tables d [])) (within c before after d) (flat_map (enum_statements c.roles) d.enums) (table_lines ++ (index_lines ++ sequence_lines))
    (enums_replay c before after d place (enum_oids_differ d (and_right _ _ v.type_oids_differ)) enums free.enums free.labels)
    (Replays-append (within c before after (with_tables d [])) (within c before after (with_indexes d [])) (within c before after d) table_lines (index_lines ++ sequence_lines) (tables_replay c before after d place enums free.tables)
    (Replays-append (within c before after (with_indexes d [])) (within c before after (record d { sequences = [] })) (within c before after d) index_lines sequence_lines (indexes_replay c before after d place tables free.indexes) (sequences_replay c before after d place free.sequences)))

-- from the database with `public` alone
objects_replay : (c : Cluster) (before after : List DatabaseObjects) (d : DatabaseObjects) → IsPlace c before d.oid → IsValidDatabase c.roles c.tablespaces d → IsUnrefusedDatabase c.roles c.tablespaces d
    → Replays (within c before after (with_schemas d (public_schema ∷ []))) (object_statements c.roles c.tablespaces d) (within c before after d)
objects_replay c before after d place v free =
    let start : State = within c before after (with_schemas d (public_schema ∷ [])) in
    let free_more : EachBehind (λ ss s. schema_refusal c.roles (record d { schemas = ss }) s ≡ None) (public_schema ∷ v.more_schemas) =
    subst (λ (l : List Schema). EachBehind (λ ss s. schema_refusal c.roles (record d { schemas = ss }) s ≡ None) l) v.public_first free.schemas in
    let schemas : Replays start (flat_map (schema_statements c.roles) (drop 1 d.schemas)) (within c before after (with_enums d [])) =
    subst (λ (l : List Schema). Replays start (flat_map (schema_statements c.roles) (drop 1 l)) (within c before after (with_schemas d l))) (sym v.public_first)
    (schemas_replay c before after d (public_schema ∷ []) v.more_schemas place free_more) in
    Replays-append start (within c before after (with_enums d [])) (within c before after d) (flat_map (schema_statements c.roles) (drop 1 d.schemas)) (later_statements c.roles c.tablespaces d)
    schemas (later_replay c before after d place v free)

-- ---- a database that holds nothing is as it was made

empty_is : {A : Type 0} (xs : List A) → is_empty xs ≡ true → xs ≡ []
empty_is [] h = refl
empty_is (x ∷ xs) h = absurd cc

public_alone : (schemas more : List Schema) → schemas ≡ public_schema ∷ more → is_empty (drop 1 schemas) ≡ true → schemas ≡ public_schema ∷ []
public_alone schemas more is h =
    let none : is_empty more ≡ true = ap (λ (l : List Schema). is_empty (drop 1 l)) (sym is) ∙ h in
    is ∙ ap (λ (l : List Schema). public_schema ∷ l) (empty_is more none)

nothing_held : (d : DatabaseObjects) (more : List Schema) → d.schemas ≡ public_schema ∷ more → holds_nothing d ≡ true → fresh_database d.oid d.name d.owner d.connections ≡ d
nothing_held d more is h =
    let first = and_left _ _ h in
    let second = and_left _ _ first in
    let third = and_left _ _ second in
    let schemas : d.schemas ≡ public_schema ∷ [] = public_alone d.schemas more is (and_left _ _ third) in
    let enums : d.enums ≡ [] = empty_is d.enums (and_right _ _ third) in
    let tables : d.tables ≡ [] = empty_is d.tables (and_right _ _ second) in
    let indexes : d.indexes ≡ [] = empty_is d.indexes (and_right _ _ first) in
    let sequences : d.sequences ≡ [] = empty_is d.sequences (and_right _ _ h) in
    sym (λ i. record d { schemas = schemas i; enums = enums i; tables = tables i; indexes = indexes i; sequences = sequences i })

-- ---- all of them

step_connect : (c : Cluster) (before after : List DatabaseObjects) (d : DatabaseObjects) (n : Option ℕ) → c.databases ≡ before ++ fresh_database d.oid d.name d.owner d.connections ∷ after → list_any (database_is d.name) before ≡ false
    → step (at c n) (Connect d.name) ≡ Ok (within c before after (with_schemas d (public_schema ∷ [])))
unfolding step
step_connect c before after d n is unnamed =
    let made : DatabaseObjects = fresh_database d.oid d.name d.owner d.connections in
    ap (λ (l : List DatabaseObjects). connected (at c n) (option_map (λ (x : DatabaseObjects). x.oid) (find (database_is d.name) l))) is
    ∙ ap (λ (o : Option DatabaseObjects). connected (at c n) (option_map (λ (x : DatabaseObjects). x.oid) o)) (find_at (database_is d.name) before made after unnamed (bytes_eq-itself d.name))
    ∙ ap (λ (l : List DatabaseObjects). Ok (at (record c { databases = l }) (Some d.oid))) is

pub contents_replay : (c : Cluster) (before after : List DatabaseObjects) (d : DatabaseObjects) (n : Option ℕ)
    → c.databases ≡ before ++ fresh_database d.oid d.name d.owner d.connections ∷ after
    → list_any (database_has d.oid) before ≡ false → list_any (database_is d.name) before ≡ false
    → are_distinct bytes_eq (role_names c.roles) ≡ true → are_distinct bytes_eq (tablespace_names c.tablespaces) ≡ true
    → IsValidDatabase c.roles c.tablespaces d → IsUnrefusedDatabase c.roles c.tablespaces d
    → (m : Option ℕ) × Replays (record { catalog = c; session = record { numbers = no_numbers; connected = n } }) (content_statements c.roles c.tablespaces d)
    (record { catalog = record c { databases = before ++ d ∷ after }; session = record { numbers = no_numbers; connected = m } })
contents_replay c before after d n is alone unnamed roles tablespaces v free =
    let done : Cluster = with_one c before after d in
    let lines : List Statement = Connect d.name ∷ object_statements c.roles c.tablespaces d in
    let P : Bool → Type 0 = λ b. holds_nothing d ≡ b → (m : Option ℕ) × Replays (at c n) (cond b [] lines) (at done m) in
    elim (holds_nothing d) as P [
      | true ↦ λ nothing. (
        n,
        ap (λ (l : List DatabaseObjects). at (record c { databases = l }) n) (is ∙ ap (λ (x : DatabaseObjects). before ++ x ∷ after) (nothing_held d v.more_schemas v.public_first nothing)),
      )
      | false ↦ λ _. (
        Some d.oid,
        (
          within c before after (with_schemas d (public_schema ∷ [])),
          step_connect c before after d n is unnamed,
          objects_replay c before after d (record { roles_differ = roles; tablespaces_differ = tablespaces; alone = alone }) v free,
        ),
      )
    ] refl
