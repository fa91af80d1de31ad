-- The statements of a catalog, in order.
use Rattle.std.specs.Prelude.{◌≡◌, ℕ, Bool, true, false, ◌&&◌, not, nat_eq, List, [], ◌∷◌, ◌++◌, drop, map, Option, Some, None, if◌then◌else◌}
use Rattle.std.specs.List.{list_all, find, flat_map}
use Rattle.std.specs.Str.{is_utf8}
use Rattle.fs_model.specs.PathText.{text_of as path_text}
use Rattle.catalog.specs.declared.types.ColumnKind.{ColumnKind}
use Rattle.catalog.specs.declared.types.ColumnKind.TheVariants as columns
use Rattle.catalog.specs.declared.owners.Role.{Role}
use Rattle.catalog.specs.declared.owners.Tablespace.{Tablespace}
use Rattle.catalog.specs.declared.owners.Schema.{Schema}
use Rattle.catalog.specs.declared.enums.Label.{Label}
use Rattle.catalog.specs.declared.enums.EnumType.{EnumType}
use Rattle.catalog.specs.declared.relations.Toast.{Toast}
use Rattle.catalog.specs.declared.relations.Column.{Column}
use Rattle.catalog.specs.declared.relations.Table.{Table}
use Rattle.catalog.specs.declared.relations.Index.{Index}
use Rattle.catalog.specs.declared.relations.Sequence.{Sequence}
use Rattle.catalog.specs.Cluster.{DatabaseObjects, Cluster}
use Rattle.catalog.specs.Spaces.{role_has, tablespace_has, enum_has, table_has}
use Rattle.catalog.specs.Refusals.{is_system_number}
use Rattle.dump_grammar.specs.declared.statement.NextKind.TheVariants as kinds
use Rattle.dump_grammar.specs.declared.statement.Statement.{Statement}
use Rattle.dump_grammar.specs.declared.statement.Statement.TheVariants.{Bootstrap, SetNext, CreateRole, CreateTablespace, CreateDatabase, AlterDatabase, Connect, CreateSchema, CreateEnum, AddLabel, CreateTable, CreateIndex, CreateSequence}
use Rattle.dump_grammar.specs.declared.columns.NamedKind.{NamedKind}
use Rattle.dump_grammar.specs.declared.columns.NamedKind.TheVariants as named
use Rattle.dump_grammar.specs.declared.columns.ColumnText.{ColumnText}
use Rattle.dump_grammar.specs.Spelling.{is_written_missing, lines_of}

-- ---- names of what an OID stands for; empty where nothing has it, which no valid catalog meets

-- a schema and a name in it
pub record Place : Type 0 where
  pub schema : List ℕ
  pub name : List ℕ

abbrev pub nowhere : Place
nowhere = record { schema = []; name = [] }

abbrev pub role_in : Option Role → List ℕ
role_in None = []
role_in (Some role) = role.name

abbrev pub role_name : List Role → ℕ → List ℕ
role_name roles oid = role_in (find (role_has oid) roles)

abbrev pub tablespace_in : Option Tablespace → List ℕ
tablespace_in None = []
tablespace_in (Some tablespace) = tablespace.name

abbrev pub tablespace_name : List Tablespace → ℕ → List ℕ
tablespace_name tablespaces oid = tablespace_in (find (tablespace_has oid) tablespaces)

abbrev pub enum_in : Option EnumType → Place
enum_in None = nowhere
enum_in (Some kind) = record { schema = kind.schema; name = kind.name }

abbrev pub enum_place : List EnumType → ℕ → Place
enum_place enums oid = enum_in (find (enum_has oid) enums)

abbrev pub table_in : Option Table → Place
table_in None = nowhere
table_in (Some table) = record { schema = table.schema; name = table.name }

abbrev pub table_place : List Table → ℕ → Place
table_place tables oid = table_in (find (table_has oid) tables)

-- ---- roles, tablespaces and databases; those that each cluster starts with have OIDs of the system

abbrev pub role_statements : Role → List Statement
role_statements role = if is_system_number role.oid then [] else SetNext kinds.Role role.oid ∷ CreateRole role.name ∷ []

abbrev pub tablespace_statements : List Role → Tablespace → List Statement
tablespace_statements roles t =
    if is_system_number t.oid then []
    else SetNext kinds.Tablespace t.oid ∷ CreateTablespace t.name (role_name roles t.owner) t.location ∷ []

abbrev pub same_flag : Bool → Bool → Bool
same_flag true b = b
same_flag false b = not b

-- where a database's connections aren't as they start
abbrev pub flag_statements : Bool → DatabaseObjects → List Statement
flag_statements starts d = if same_flag d.connections starts then [] else AlterDatabase d.name d.connections ∷ []

-- `template0`, of the OID 4, starts with its connections off
abbrev pub starts_on : DatabaseObjects → Bool
starts_on d = not (nat_eq d.oid 4)

abbrev pub database_statements : List Role → DatabaseObjects → List Statement
database_statements roles d =
    if is_system_number d.oid then flag_statements (starts_on d) d
    else SetNext kinds.Database d.oid ∷ CreateDatabase d.name (role_name roles d.owner) ∷ flag_statements true d

-- ---- what a database holds

abbrev pub schema_statements : List Role → Schema → List Statement
schema_statements roles schema = CreateSchema schema.name (role_name roles schema.owner) ∷ []

abbrev pub label_statements : EnumType → Label → List Statement
label_statements kind label = SetNext kinds.Label label.oid ∷ AddLabel kind.schema kind.name label.text ∷ []

abbrev pub enum_statements : List Role → EnumType → List Statement
enum_statements roles kind =
    SetNext kinds.TypeOid kind.oid ∷ CreateEnum kind.schema kind.name (role_name roles kind.owner) ∷ flat_map (label_statements kind) kind.labels

abbrev pub enum_kind : Place → NamedKind
enum_kind place = named.Enum place.schema place.name

abbrev pub kind_text : List EnumType → ColumnKind → NamedKind
kind_text enums (columns.Base base) = named.Base base
kind_text enums (columns.Enum oid) = enum_kind (enum_place enums oid)
kind_text enums (columns.Dropped length align) = named.Dropped length align

abbrev pub column_text : List EnumType → Column → ColumnText
column_text enums column = record { name = column.name; kind = kind_text enums column.kind; missing = column.missing }

abbrev pub toast_statements : Option Toast → List Statement
toast_statements None = []
toast_statements (Some toast) =
    SetNext kinds.Toast toast.oid ∷ SetNext kinds.ToastFile toast.file ∷ SetNext kinds.ToastIndex toast.index_oid ∷ SetNext kinds.ToastIndexFile toast.index_file ∷ []

abbrev pub create_table : List Role → List Tablespace → List EnumType → Table → Statement
create_table roles tablespaces enums table =
    CreateTable table.schema table.name (role_name roles table.owner) (tablespace_name tablespaces table.tablespace) (map (column_text enums) table.columns)

abbrev pub table_statements : List Role → List Tablespace → List EnumType → Table → List Statement
table_statements roles tablespaces enums table =
    SetNext kinds.TypeOid table.row_type ∷ SetNext kinds.Table table.oid ∷ SetNext kinds.TableFile table.file
    ∷ (toast_statements table.toast ++ create_table roles tablespaces enums table ∷ [])

abbrev pub create_index : List Tablespace → Place → Index → Statement
create_index tablespaces place index = CreateIndex index.name place.schema place.name (tablespace_name tablespaces index.tablespace) index.keys

abbrev pub index_statements : List Tablespace → List Table → Index → List Statement
index_statements tablespaces tables index =
    SetNext kinds.Index index.oid ∷ SetNext kinds.IndexFile index.file ∷ create_index tablespaces (table_place tables index.table) index ∷ []

abbrev pub sequence_statements : List Role → Sequence → List Statement
sequence_statements roles sequence =
    SetNext kinds.Sequence sequence.oid ∷ SetNext kinds.SequenceFile sequence.file ∷ CreateSequence sequence.schema sequence.name (role_name roles sequence.owner) ∷ []

-- the schema `public`, which comes first, is always there
abbrev pub object_statements : List Role → List Tablespace → DatabaseObjects → List Statement
object_statements roles tablespaces d =
    flat_map (schema_statements roles) (drop 1 d.schemas)
    ++ (flat_map (enum_statements roles) d.enums
    ++ (flat_map (table_statements roles tablespaces d.enums) d.tables
    ++ (flat_map (index_statements tablespaces d.tables) d.indexes
    ++ flat_map (sequence_statements roles) d.sequences)))

abbrev pub is_empty : {A : Type 0} → List A → Bool
is_empty [] = true
is_empty (x ∷ xs) = false

-- nothing besides `public`
abbrev pub holds_nothing : DatabaseObjects → Bool
holds_nothing d = is_empty (drop 1 d.schemas) && is_empty d.enums && is_empty d.tables && is_empty d.indexes && is_empty d.sequences

abbrev pub content_statements : List Role → List Tablespace → DatabaseObjects → List Statement
content_statements roles tablespaces d = if holds_nothing d then [] else Connect d.name ∷ object_statements roles tablespaces d

-- ---- the whole

-- all but the first
abbrev pub more_statements : Cluster → List Statement
more_statements c =
    flat_map role_statements c.roles
    ++ (flat_map (tablespace_statements c.roles) c.tablespaces
    ++ (flat_map (database_statements c.roles) c.databases
    ++ flat_map (content_statements c.roles c.tablespaces) c.databases))

abbrev pub statements_of : Cluster → List Statement
statements_of c = Bootstrap c.bootstrap ∷ more_statements c

-- the canonical text of a catalog
abbrev pub canonical : Cluster → List ℕ
canonical c = lines_of (statements_of c)

-- ---- catalogs whose text can be written: the locations are text and the missing values are bytes

abbrev pub is_text_location : Tablespace → Bool
is_text_location t = is_utf8 (path_text t.location)

abbrev pub is_byte_column : Column → Bool
is_byte_column column = is_written_missing column.missing

abbrev pub is_byte_table : Table → Bool
is_byte_table table = list_all is_byte_column table.columns

abbrev pub is_byte_database : DatabaseObjects → Bool
is_byte_database d = list_all is_byte_table d.tables

pub record IsWritableCatalog (c : Cluster) : Type 0 where
  pub locations : list_all is_text_location c.tablespaces ≡ true
  pub missing_values : list_all is_byte_database c.databases ≡ true
