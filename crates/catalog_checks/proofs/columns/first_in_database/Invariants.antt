use Rattle.std.proofs.Common.{◌≡◌, drop, flat_map}
use Rattle.catalog_checks.specs.Columns.{table_columns, database_columns, first_place}
use Rattle.catalog_checks.proofs.columns.first_in_database.Given as goal

abbrev pub invariant-loop-i : goal.invariant-loop-i
invariant-loop-i l = first_place l.test (flat_map (table_columns l.database.oid) (drop l.i l.database.tables)) ≡ first_place l.test (database_columns l.database)
