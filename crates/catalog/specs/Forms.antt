-- The form that each object has by itself, and what it takes to be there.
use Rattle.std.specs.Prelude.{ℕ, ◌-◌, ◌^◌, ℤ, pos, negsuc, Bool, true, false, ◌&&◌, nat_lt, nat_le, nat_eq, bytes_eq, List, [], length, slice_get, Option, Some, None, is_some, is_none}
use Rattle.std.specs.List.{list_any, list_all, find}
use Rattle.catalog.specs.declared.types.ColumnKind.{ColumnKind}
use Rattle.catalog.specs.declared.types.ColumnKind.TheVariants.{Base, Enum, Dropped}
use Rattle.catalog.specs.declared.owners.Role.{Role}
use Rattle.catalog.specs.declared.owners.Tablespace.{Tablespace}
use Rattle.catalog.specs.declared.owners.Schema.{Schema}
use Rattle.catalog.specs.declared.enums.Label.{Label}
use Rattle.catalog.specs.declared.enums.EnumType.{EnumType}
use Rattle.catalog.specs.declared.relations.Column.{Column}
use Rattle.catalog.specs.declared.relations.Table.{Table}
use Rattle.catalog.specs.declared.relations.Index.{Index}
use Rattle.catalog.specs.declared.relations.Sequence.{Sequence}
use Rattle.catalog.specs.Cluster.{DatabaseObjects}
use Rattle.catalog.specs.Spaces.{role_has, tablespace_has, enum_has, table_has}

-- ---- the form that an object has by itself

-- 1 to 63 bytes, none of them zero
abbrev pub is_name : List ℕ → Bool
is_name text = nat_lt 0 (length text) && nat_le (length text) 63 && list_all (λ b. nat_lt 0 b) text

abbrev pub is_32_bits : ℕ → Bool
is_32_bits n = nat_lt n (2 ^ 32)

-- a fixed length, or -1 for fields that say their own
abbrev pub is_length : ℤ → Bool
is_length (pos n) = nat_le n 32767
is_length (negsuc n) = nat_eq n 0

-- whether a column wasn't dropped
abbrev pub live_kind : ColumnKind → Bool
live_kind (Base base) = true
live_kind (Enum oid) = true
live_kind (Dropped length align) = false

abbrev pub is_live : Column → Bool
is_live column = live_kind column.kind

-- a dropped column has the empty name, no missing value and such a length; each other has a name
abbrev pub column_form_of : Column → ColumnKind → Bool
column_form_of column (Base base) = is_name column.name
column_form_of column (Enum oid) = is_name column.name
column_form_of column (Dropped length align) = bytes_eq column.name [] && is_none column.missing && is_length length

abbrev pub column_form : Column → Bool
column_form column = column_form_of column column.kind

abbrev pub table_form : Table → Bool
table_form table = is_name table.name && list_all column_form table.columns

-- an index is over at least one column
abbrev pub index_form : Index → Bool
index_form index = is_name index.name && nat_lt 0 (length index.keys)

-- ---- what an object speaks of is there

abbrev pub has_role : List Role → ℕ → Bool
has_role roles oid = list_any (role_has oid) roles

abbrev pub has_tablespace : List Tablespace → ℕ → Bool
has_tablespace tablespaces oid = list_any (tablespace_has oid) tablespaces

abbrev pub schema_is : List ℕ → Schema → Bool
schema_is name schema = bytes_eq schema.name name

abbrev pub has_schema : List Schema → List ℕ → Bool
has_schema schemas name = list_any (schema_is name) schemas

abbrev pub has_enum : List EnumType → ℕ → Bool
has_enum enums oid = list_any (enum_has oid) enums

-- the enum of a column
abbrev pub kind_stands : List EnumType → ColumnKind → Bool
kind_stands enums (Base base) = true
kind_stands enums (Enum oid) = has_enum enums oid
kind_stands enums (Dropped length align) = true

abbrev pub column_stands : List EnumType → Column → Bool
column_stands enums column = kind_stands enums column.kind

abbrev pub enum_stands : List Role → DatabaseObjects → EnumType → Bool
enum_stands roles d kind = has_role roles kind.owner && has_schema d.schemas kind.schema

abbrev pub table_stands : List Role → List Tablespace → DatabaseObjects → Table → Bool
table_stands roles tablespaces d table =
    has_role roles table.owner && has_tablespace tablespaces table.tablespace && has_schema d.schemas table.schema && list_all (column_stands d.enums) table.columns

-- a key counts columns from 1, dropped ones too
abbrev pub key_stands : List Column → ℕ → Bool
key_stands columns key = nat_lt 0 key && is_some (slice_get columns (key - 1))

abbrev pub keys_stand : List ℕ → Option Table → Bool
keys_stand keys None = false
keys_stand keys (Some table) = list_all (key_stands table.columns) keys

-- its tablespace, its table, and the columns of that table
abbrev pub index_stands : List Tablespace → List Table → Index → Bool
index_stands tablespaces tables index =
    has_tablespace tablespaces index.tablespace && keys_stand index.keys (find (table_has index.table) tables)

abbrev pub sequence_stands : List Role → DatabaseObjects → Sequence → Bool
sequence_stands roles d sequence = has_role roles sequence.owner && has_schema d.schemas sequence.schema

-- ---- limits, and what is to differ within one object

abbrev pub is_long : Label → Bool
is_long label = nat_lt 63 (length label.text)

abbrev pub same_text : Label → Label → Bool
same_text a b = bytes_eq a.text b.text

-- two columns that weren't dropped, of one name
abbrev pub same_column : Column → Column → Bool
same_column a b = is_live a && is_live b && bytes_eq a.name b.name
