-- The tables of a valid catalog have few columns.
use Rattle.std.proofs.Common.{◌≡◌, ℕ, Bool, true, false, ◌&&◌, List, [], ◌∷◌, refl, arith}
use Rattle.std.specs.List.{list_all}
use Rattle.catalog.specs.declared.owners.Role.{Role}
use Rattle.catalog.specs.declared.owners.Tablespace.{Tablespace}
use Rattle.catalog.specs.declared.relations.Table.{Table}
use Rattle.catalog.specs.Cluster.{DatabaseObjects, Cluster}
use Rattle.catalog.specs.Forms.{table_form, table_stands, same_column}
use Rattle.catalog.specs.Lists.{are_distinct}
use Rattle.catalog.specs.Valid.{IsValid, IsValidDatabase, AreValidDatabases, table_is_valid}
use Rattle.catalog_checks.specs.Columns.{has_few_columns, have_few_columns}

pub front : (a b : Bool) → (a && b) ≡ true → a ≡ true
front true b e = refl
front false b e = e

pub back : (a b : Bool) → (a && b) ≡ true → b ≡ true
back true b e = e
back false b e = absurd (cc e)

both : (a b : Bool) → a ≡ true → b ≡ true → (a && b) ≡ true
both true b e f = f
both false b e f = e

few : (roles : List Role) (tablespaces : List Tablespace) (d : DatabaseObjects) (table : Table) → table_is_valid roles tablespaces d table ≡ true → has_few_columns table ≡ true
few roles tablespaces d table valid =
    back (table_form table && table_stands roles tablespaces d table) (has_few_columns table)
    (front (table_form table && table_stands roles tablespaces d table && has_few_columns table) (are_distinct same_column table.columns) valid)

all_few : (roles : List Role) (tablespaces : List Tablespace) (d : DatabaseObjects) (tables : List Table) → list_all (table_is_valid roles tablespaces d) tables ≡ true → list_all has_few_columns tables ≡ true
all_few roles tablespaces d [] valid = refl
all_few roles tablespaces d (table ∷ tables) valid =
    both (has_few_columns table) (list_all has_few_columns tables)
    (few roles tablespaces d table (front (table_is_valid roles tablespaces d table) (list_all (table_is_valid roles tablespaces d) tables) valid))
    (all_few roles tablespaces d tables (back (table_is_valid roles tablespaces d table) (list_all (table_is_valid roles tablespaces d) tables) valid))

each_few : (roles : List Role) (tablespaces : List Tablespace) (ds : List DatabaseObjects) → AreValidDatabases roles tablespaces ds → list_all have_few_columns ds ≡ true
each_few roles tablespaces [] valid = refl
each_few roles tablespaces (d ∷ ds) valid =
    both (have_few_columns d) (list_all have_few_columns ds) (all_few roles tablespaces d d.tables valid.0.tables) (each_few roles tablespaces ds valid.1)

pub valid_few : (c : Cluster) → IsValid c → list_all have_few_columns c.databases ≡ true
valid_few c valid = each_few c.roles c.tablespaces c.databases valid.databases
