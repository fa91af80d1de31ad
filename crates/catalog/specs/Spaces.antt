-- The spaces in which OIDs, names and file numbers are to differ.
use Rattle.std.specs.Prelude.{ℕ, Bool, ◌&&◌, nat_eq, bytes_eq, List, [], ◌∷◌, ◌++◌, map, Option, Some, None, codes}
use Rattle.std.specs.List.{find, flat_map}
use Rattle.catalog.specs.declared.owners.Role.{Role}
use Rattle.catalog.specs.declared.owners.Tablespace.{Tablespace}
use Rattle.catalog.specs.declared.owners.Schema.{Schema}
use Rattle.catalog.specs.declared.enums.Label.{Label}
use Rattle.catalog.specs.declared.enums.EnumType.{EnumType}
use Rattle.catalog.specs.declared.relations.Toast.{Toast}
use Rattle.catalog.specs.declared.relations.Table.{Table}
use Rattle.catalog.specs.declared.relations.Index.{Index}
use Rattle.catalog.specs.declared.relations.Sequence.{Sequence}
use Rattle.catalog.specs.Cluster.{DatabaseObjects, default_tablespace}

-- ---- by OID

abbrev pub role_has : ℕ → Role → Bool
role_has oid role = nat_eq role.oid oid

abbrev pub tablespace_has : ℕ → Tablespace → Bool
tablespace_has oid tablespace = nat_eq tablespace.oid oid

abbrev pub database_has : ℕ → DatabaseObjects → Bool
database_has oid database = nat_eq database.oid oid

abbrev pub enum_has : ℕ → EnumType → Bool
enum_has oid kind = nat_eq kind.oid oid

abbrev pub table_has : ℕ → Table → Bool
table_has oid table = nat_eq table.oid oid

-- ---- the spaces of a cluster: OIDs and names of roles, of tablespaces and of databases

abbrev pub role_oids : List Role → List ℕ
role_oids roles = map (λ role. role.oid) roles

abbrev pub role_names : List Role → List (List ℕ)
role_names roles = map (λ role. role.name) roles

abbrev pub tablespace_oids : List Tablespace → List ℕ
tablespace_oids tablespaces = map (λ tablespace. tablespace.oid) tablespaces

-- `pg_global` holds the tables that all databases share, and is not in the list
abbrev pub tablespace_names : List Tablespace → List (List ℕ)
tablespace_names tablespaces = codes "pg_global" ∷ map (λ tablespace. tablespace.name) tablespaces

abbrev pub database_oids : List DatabaseObjects → List ℕ
database_oids databases = map (λ database. database.oid) databases

abbrev pub database_names : List DatabaseObjects → List (List ℕ)
database_names databases = map (λ database. database.name) databases

-- ---- the spaces of OIDs of a database

abbrev pub toast_oids : Option Toast → List ℕ
toast_oids None = []
toast_oids (Some toast) = toast.oid ∷ toast.index_oid ∷ []

abbrev pub table_oids : Table → List ℕ
table_oids table = table.oid ∷ toast_oids table.toast

-- of tables, toast tables and their indexes, indexes and sequences
unfoldable pub relation_oids : DatabaseObjects → List ℕ
relation_oids d =
    flat_map table_oids d.tables ++ (map (λ (i : Index). i.oid) d.indexes ++ map (λ (s : Sequence). s.oid) d.sequences)

-- of enums and row types
unfoldable pub type_oids : DatabaseObjects → List ℕ
type_oids d = map (λ (k : EnumType). k.oid) d.enums ++ map (λ (t : Table). t.row_type) d.tables

abbrev pub enum_label_oids : EnumType → List ℕ
enum_label_oids kind = map (λ (l : Label). l.oid) kind.labels

unfoldable pub label_oids : DatabaseObjects → List ℕ
label_oids d = flat_map enum_label_oids d.enums

-- ---- the spaces of names of a database

abbrev pub schema_names : DatabaseObjects → List (List ℕ)
schema_names d = map (λ (s : Schema). s.name) d.schemas

-- a name in a schema
pub record SchemaName : Type 0 where
  pub schema : List ℕ
  pub name : List ℕ

abbrev pub same_name : SchemaName → SchemaName → Bool
same_name a b = bytes_eq a.schema b.schema && bytes_eq a.name b.name

abbrev pub enum_name : EnumType → SchemaName
enum_name kind = record { schema = kind.schema; name = kind.name }

abbrev pub table_name : Table → SchemaName
table_name table = record { schema = table.schema; name = table.name }

abbrev pub sequence_name : Sequence → SchemaName
sequence_name sequence = record { schema = sequence.schema; name = sequence.name }

abbrev pub schema_in : Option Table → List ℕ
schema_in None = []
schema_in (Some table) = table.schema

-- the schema of the table of that OID
abbrev pub schema_of : List Table → ℕ → List ℕ
schema_of tables oid = schema_in (find (table_has oid) tables)

-- an index is in the schema of its table
abbrev pub index_name : List Table → Index → SchemaName
index_name tables index = record { schema = schema_of tables index.table; name = index.name }

-- of tables, indexes and sequences
unfoldable pub relation_names : DatabaseObjects → List SchemaName
relation_names d =
    map table_name d.tables ++ (map (index_name d.tables) d.indexes ++ map sequence_name d.sequences)

-- of enums and row types; a row type has the name of its table
unfoldable pub type_names : DatabaseObjects → List SchemaName
type_names d = map enum_name d.enums ++ map table_name d.tables

-- ---- the space of file numbers of a database

-- a file number in a tablespace
pub record FilePlace : Type 0 where
  pub tablespace : ℕ
  pub number : ℕ

abbrev pub same_place : FilePlace → FilePlace → Bool
same_place a b = nat_eq a.tablespace b.tablespace && nat_eq a.number b.number

abbrev pub place_in : ℕ → ℕ → FilePlace
place_in tablespace number = record { tablespace = tablespace; number = number }

abbrev pub toast_files : Option Toast → List ℕ
toast_files None = []
toast_files (Some toast) = toast.file ∷ toast.index_file ∷ []

abbrev pub table_files : Table → List ℕ
table_files table = table.file ∷ toast_files table.toast

-- a toast table and its index stand in the tablespace of their table
abbrev pub table_places : Table → List FilePlace
table_places table = map (place_in table.tablespace) (table_files table)

abbrev pub index_place : Index → FilePlace
index_place index = place_in index.tablespace index.file

abbrev pub sequence_place : Sequence → FilePlace
sequence_place sequence = place_in default_tablespace sequence.file

unfoldable pub file_places : DatabaseObjects → List FilePlace
file_places d =
    flat_map table_places d.tables ++ (map index_place d.indexes ++ map sequence_place d.sequences)
