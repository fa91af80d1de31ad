use Rattle.std.proofs.Common.{◌≡◌, drop, flat_map}
use Rattle.catalog_checks.specs.Columns.{database_columns, columns_of, first_place}
use Rattle.catalog_checks.proofs.columns.first_in_cluster.Given as goal

abbrev pub invariant-loop-i : goal.invariant-loop-i
invariant-loop-i l = first_place l.test (flat_map database_columns (drop l.i l.catalog.databases)) ≡ first_place l.test (columns_of l.catalog)
