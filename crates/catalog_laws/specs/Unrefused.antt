-- No object is refused against those before it.
use Rattle.std.specs.Prelude.{◌≡◌, false, List, [], ◌∷◌, ◌++◌, None}
use Rattle.catalog.specs.declared.owners.Role.{Role}
use Rattle.catalog.specs.declared.owners.Tablespace.{Tablespace}
use Rattle.catalog.specs.declared.enums.EnumType.{EnumType}
use Rattle.catalog.specs.declared.relations.Table.{Table}
use Rattle.catalog.specs.declared.relations.Index.{Index}
use Rattle.catalog.specs.Cluster.{DatabaseObjects, Cluster}
use Rattle.catalog.specs.Refusals.{is_system_number, role_refusal, tablespace_refusal, database_refusal, schema_refusal, enum_refusal, label_refusal, table_refusal, index_refusal, sequence_refusal}

-- each entry of a list, with those before it
abbrev pub EachBehind : {A : Type 0} → (List A → A → Type 0) → List A → Type 0
EachBehind {A = A} P xs = (before : List A) (x : A) (after : List A) → xs ≡ before ++ x ∷ after → P before x

-- a database as it is before its first table, with these enums; and before its first index, and its first sequence, with
-- these tables and these indexes
abbrev pub with_enums : DatabaseObjects → List EnumType → DatabaseObjects
with_enums d enums = record d { enums = enums; tables = []; indexes = []; sequences = [] }

abbrev pub with_tables : DatabaseObjects → List Table → DatabaseObjects
with_tables d tables = record d { tables = tables; indexes = []; sequences = [] }

abbrev pub with_indexes : DatabaseObjects → List Index → DatabaseObjects
with_indexes d indexes = record d { indexes = indexes; sequences = [] }

pub record IsUnrefusedDatabase (roles : List Role) (tablespaces : List Tablespace) (d : DatabaseObjects) : Type 0 where
  pub schemas : EachBehind (λ before schema. schema_refusal roles (record d { schemas = before }) schema ≡ None) d.schemas
  pub enums : EachBehind (λ before kind. enum_refusal roles (with_enums d before) kind ≡ None) d.enums
  pub labels : EachBehind (λ before kind. EachBehind (λ labels label. label_refusal (with_enums d (before ++ record kind { labels = labels } ∷ [])) kind.oid label ≡ None) kind.labels) d.enums
  pub tables : EachBehind (λ before table. table_refusal roles tablespaces (with_tables d before) table ≡ None) d.tables
  pub indexes : EachBehind (λ before index. index_refusal tablespaces (with_indexes d before) index ≡ None) d.indexes
  pub sequences : EachBehind (λ before sequence. sequence_refusal roles (record d { sequences = before }) sequence ≡ None) d.sequences

pub record IsUnrefused (c : Cluster) : Type 0 where
  pub roles : EachBehind (λ before role. is_system_number role.oid ≡ false → role_refusal before role ≡ None) c.roles
  pub tablespaces : EachBehind (λ before tablespace. is_system_number tablespace.oid ≡ false → tablespace_refusal c.roles before tablespace ≡ None) c.tablespaces
  pub databases : EachBehind (λ before database. is_system_number database.oid ≡ false → database_refusal c.roles before database ≡ None) c.databases
  pub contents : EachBehind (λ before database. IsUnrefusedDatabase c.roles c.tablespaces database) c.databases
