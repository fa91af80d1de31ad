-- The catalogs of the two clusters.
use Rattle.std.specs.Prelude.{ℕ, ◌+◌, ◌*◌, true, List, [], ◌∷◌, ◌++◌, map, codes, Some, None}
use Rattle.std.specs.Fmt.{decimal}
use Rattle.std.specs.List.{range_with_len}
use Rattle.catalog.specs.declared.types.BaseType.{BaseType}
use Rattle.catalog.specs.declared.types.BaseType.TheVariants.{Int4, Text}
use Rattle.catalog.specs.declared.types.ColumnKind.TheVariants.{Base}
use Rattle.catalog.specs.declared.relations.Column.{Column}
use Rattle.catalog.specs.declared.relations.Table.{Table}
use Rattle.catalog.specs.Cluster.{Cluster, DatabaseObjects, started, first_databases, fresh_database, bootstrap_role, default_tablespace}

abbrev pub app_name : List ℕ
app_name = codes "app"

-- the OID of the row type of the table of a number; the table, its toast table and that one's index have the OIDs and the
-- files that follow it
abbrev pub row_type_of : ℕ → ℕ
row_type_of table = 16400 + 10 * table

abbrev pub table_name : ℕ → List ℕ
table_name table = codes "t" ++ decimal table

abbrev pub column_named : List ℕ → BaseType → Column
column_named name base = record { name = name; kind = Base base; missing = None }

abbrev pub columns : List Column
columns = column_named (codes "id") Int4 ∷ column_named (codes "note") Text ∷ []

-- the table of a number
abbrev pub table_numbered : ℕ → Table
table_numbered table = record {
  oid = row_type_of table + 1;
  row_type = row_type_of table;
  schema = codes "public";
  name = table_name table;
  owner = bootstrap_role;
  tablespace = default_tablespace;
  file = row_type_of table + 1;
  toast = Some (record {
    oid = row_type_of table + 2;
    file = row_type_of table + 2;
    index_oid = row_type_of table + 3;
    index_file = row_type_of table + 3;
  });
  columns = columns;
}

-- the database of the tables
abbrev pub app : ℕ → DatabaseObjects
app tables = record (fresh_database 16384 app_name bootstrap_role true) { tables = map table_numbered (range_with_len 0 tables) }

-- that of a cluster that the role `postgres` has just made
abbrev pub new_catalog : Cluster
new_catalog = started (codes "postgres")

-- the same with the database of so many tables
unfoldable pub old_catalog : ℕ → Cluster
old_catalog tables = record new_catalog { databases = first_databases ++ app tables ∷ [] }
