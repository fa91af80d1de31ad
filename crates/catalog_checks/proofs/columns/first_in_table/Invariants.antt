use Rattle.std.proofs.Common.{◌≡◌, ◌+◌, drop}
use Rattle.catalog_checks.specs.Columns.{placed, table_columns, first_place}
use Rattle.catalog_checks.proofs.columns.first_in_table.Given as goal

abbrev pub invariant-loop-column : goal.invariant-loop-column
invariant-loop-column l = record {
  number : l.number ≡ l.column-index;
  first : first_place l.test (placed l.database l.table.oid (l.column-index + 1) (drop l.column-index l.table.columns)) ≡ first_place l.test (table_columns l.database l.table);
}
