-- The columns of a cluster in the order of its catalog, and the first of a type that can't be carried over.
use Rattle.std.specs.Prelude.{ℕ, ◌+◌, Bool, true, false, nat_le, List, [], ◌∷◌, length, Option}
use Rattle.std.specs.List.{flat_map, list_all, find}
use Rattle.std.specs.Option.{option_map}
use Rattle.catalog.specs.declared.types.BaseType.{BaseType}
use Rattle.catalog.specs.declared.types.BaseType.TheVariants.{Bool as BoolType, Int2, Int4, Oid, Float4, Date, RegCollation, RegConfig, RegDictionary, RegNamespace, RegOper, RegOperator, RegProc, RegProcedure, Int8, Float8, Timestamp, TimestampTz, Uuid, Name, AclItem, Text, VarChar, Bytea, Numeric, Jsonb}
use Rattle.catalog.specs.declared.types.ColumnKind.{ColumnKind}
use Rattle.catalog.specs.declared.types.ColumnKind.TheVariants.{Base, Enum, Dropped}
use Rattle.catalog.specs.declared.relations.Column.{Column}
use Rattle.catalog.specs.declared.relations.Table.{Table}
use Rattle.catalog.specs.Cluster.{DatabaseObjects, Cluster}
use Rattle.catalog_checks.specs.declared.columns.ColumnPlace.{ColumnPlace}
use Rattle.catalog_checks.specs.declared.columns.TypeTest.{TypeTest}
use Rattle.catalog_checks.specs.declared.columns.TypeTest.TheVariants.{Reg, Acl}

-- ---- the types

-- values of these are OIDs that a new cluster gives anew
abbrev pub is_reg_type : BaseType → Bool
is_reg_type RegCollation = true
is_reg_type RegConfig = true
is_reg_type RegDictionary = true
is_reg_type RegNamespace = true
is_reg_type RegOper = true
is_reg_type RegOperator = true
is_reg_type RegProc = true
is_reg_type RegProcedure = true
is_reg_type base = false

abbrev pub is_acl_type : BaseType → Bool
is_acl_type AclItem = true
is_acl_type base = false

-- a column of a type of that group
abbrev pub passes : TypeTest → ColumnKind → Bool
passes Reg (Base base) = is_reg_type base
passes Acl (Base base) = is_acl_type base
passes test (Enum oid) = false
passes test (Dropped length align) = false

-- ---- the columns in their order

-- a column with where it stands
pub record PlacedColumn : Type 0 where
  pub place : ColumnPlace
  pub kind : ColumnKind

-- columns of a table, of which the first has the number n
abbrev pub placed : ℕ → ℕ → ℕ → List Column → List PlacedColumn
placed database table n [] = []
placed database table n (column ∷ columns) =
    record { place = record { database = database; table = table; column = n }; kind = column.kind } ∷ placed database table (n + 1) columns

-- dropped columns have numbers too
abbrev pub table_columns : ℕ → Table → List PlacedColumn
table_columns database table = placed database table.oid 1 table.columns

abbrev pub database_columns : DatabaseObjects → List PlacedColumn
database_columns d = flat_map (table_columns d.oid) d.tables

abbrev pub columns_of : Cluster → List PlacedColumn
columns_of c = flat_map database_columns c.databases

-- ---- the first of them

abbrev pub is_refused : TypeTest → PlacedColumn → Bool
is_refused test column = passes test column.kind

abbrev pub place_of : PlacedColumn → ColumnPlace
place_of column = column.place

-- where the first column of a type of the group stands
abbrev pub first_place : TypeTest → List PlacedColumn → Option ColumnPlace
first_place test columns = option_map place_of (find (is_refused test) columns)

abbrev pub first_reg_column : Cluster → Option ColumnPlace
first_reg_column c = first_place Reg (columns_of c)

abbrev pub first_acl_column : Cluster → Option ColumnPlace
first_acl_column c = first_place Acl (columns_of c)

-- ---- how many there are

abbrev pub has_few_columns : Table → Bool
has_few_columns table = nat_le (length table.columns) 1600

abbrev pub have_few_columns : DatabaseObjects → Bool
have_few_columns d = list_all has_few_columns d.tables
