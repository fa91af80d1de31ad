use Rattle.std.proofs.Common.{◌≡◌, true}
use Rattle.std.specs.List.{list_all}
use Rattle.catalog.specs.Forms.{column_form}
use Rattle.catalog_tests.proofs.calls.columns.Given as goal

abbrev pub invariant-loop : goal.invariant-loop
invariant-loop l = list_all column_form l.columns.items ≡ true
