-- What each call makes of a catalog, or why it refuses.
use Rattle.std.specs.Prelude.{ℕ, Bool, [], ◌∷◌, ◌++◌, Option, Some, None, Result, Ok, Err}
use Rattle.std.specs.List.{find}
use Rattle.catalog.specs.declared.error.CatalogError.{CatalogError}
use Rattle.catalog.specs.declared.error.CatalogError.TheVariants.{NoSuch}
use Rattle.catalog.specs.declared.owners.Role.{Role}
use Rattle.catalog.specs.declared.owners.Tablespace.{Tablespace}
use Rattle.catalog.specs.declared.owners.Schema.{Schema}
use Rattle.catalog.specs.declared.enums.Label.{Label}
use Rattle.catalog.specs.declared.enums.EnumType.{EnumType}
use Rattle.catalog.specs.declared.relations.Table.{Table}
use Rattle.catalog.specs.declared.relations.Index.{Index}
use Rattle.catalog.specs.declared.relations.Sequence.{Sequence}
use Rattle.catalog.specs.Lists.{change_first}
use Rattle.catalog.specs.Cluster.{DatabaseObjects, Cluster}
use Rattle.catalog.specs.Spaces.{database_has, enum_has}
use Rattle.catalog.specs.Refusals.{role_refusal, tablespace_refusal, database_refusal, schema_refusal, enum_refusal, label_refusal, table_refusal, index_refusal, sequence_refusal}

-- a value, unless it is refused
abbrev pub unless : {A : Type 0} → Option CatalogError → A → Result A CatalogError
unless None made = Ok made
unless (Some error) made = Err error

-- ---- objects of the cluster

abbrev pub with_role : Cluster → Role → Result Cluster CatalogError
with_role c role = unless (role_refusal c.roles role) (record c { roles = c.roles ++ role ∷ [] })

abbrev pub with_tablespace : Cluster → Tablespace → Result Cluster CatalogError
with_tablespace c tablespace =
    unless (tablespace_refusal c.roles c.tablespaces tablespace) (record c { tablespaces = c.tablespaces ++ tablespace ∷ [] })

abbrev pub with_database : Cluster → DatabaseObjects → Result Cluster CatalogError
with_database c database =
    unless (database_refusal c.roles c.databases database) (record c { databases = c.databases ++ database ∷ [] })

-- ---- objects of a database

abbrev pub refusal_in : (DatabaseObjects → Option CatalogError) → Option DatabaseObjects → Option CatalogError
refusal_in refusal None = Some NoSuch
refusal_in refusal (Some d) = refusal d

-- the catalog with the database of that OID changed, unless there is none or it refuses
abbrev pub with_change : Cluster → ℕ → (DatabaseObjects → Option CatalogError) → (DatabaseObjects → DatabaseObjects) → Result Cluster CatalogError
with_change c database refusal change =
    unless (refusal_in refusal (find (database_has database) c.databases))
    (record c { databases = change_first (database_has database) change c.databases })

abbrev pub set_connections : Bool → DatabaseObjects → DatabaseObjects
set_connections on d = record d { connections = on }

abbrev pub with_connections : Cluster → ℕ → Bool → Result Cluster CatalogError
with_connections c database on = with_change c database (λ _. None) (set_connections on)

abbrev pub add_schema : Schema → DatabaseObjects → DatabaseObjects
add_schema schema d = record d { schemas = d.schemas ++ schema ∷ [] }

abbrev pub with_schema : Cluster → ℕ → Schema → Result Cluster CatalogError
with_schema c database schema = with_change c database (λ d. schema_refusal c.roles d schema) (add_schema schema)

abbrev pub add_enum : EnumType → DatabaseObjects → DatabaseObjects
add_enum kind d = record d { enums = d.enums ++ kind ∷ [] }

abbrev pub with_enum : Cluster → ℕ → EnumType → Result Cluster CatalogError
with_enum c database kind = with_change c database (λ d. enum_refusal c.roles d kind) (add_enum kind)

abbrev pub labelled : Label → EnumType → EnumType
labelled label kind = record kind { labels = kind.labels ++ label ∷ [] }

abbrev pub add_label : ℕ → Label → DatabaseObjects → DatabaseObjects
add_label kind label d = record d { enums = change_first (enum_has kind) (labelled label) d.enums }

abbrev pub with_label : Cluster → ℕ → ℕ → Label → Result Cluster CatalogError
with_label c database kind label = with_change c database (λ d. label_refusal d kind label) (add_label kind label)

abbrev pub add_table : Table → DatabaseObjects → DatabaseObjects
add_table table d = record d { tables = d.tables ++ table ∷ [] }

abbrev pub with_table : Cluster → ℕ → Table → Result Cluster CatalogError
with_table c database table =
    with_change c database (λ d. table_refusal c.roles c.tablespaces d table) (add_table table)

abbrev pub add_index : Index → DatabaseObjects → DatabaseObjects
add_index index d = record d { indexes = d.indexes ++ index ∷ [] }

abbrev pub with_index : Cluster → ℕ → Index → Result Cluster CatalogError
with_index c database index =
    with_change c database (λ d. index_refusal c.tablespaces d index) (add_index index)

abbrev pub add_sequence : Sequence → DatabaseObjects → DatabaseObjects
add_sequence sequence d = record d { sequences = d.sequences ++ sequence ∷ [] }

abbrev pub with_sequence : Cluster → ℕ → Sequence → Result Cluster CatalogError
with_sequence c database sequence =
    with_change c database (λ d. sequence_refusal c.roles d sequence) (add_sequence sequence)
