use Rattle.catalog_checks.specs.Columns.{is_refused}
use Rattle.catalog_checks.proofs.Finding.{found_first, first_found}
use Rattle.catalog_checks.proofs.laws.first_is_first.Goals as goal

pub returns : goal.returns
returns c test columns column = (found_first (is_refused test) columns column, first_found (is_refused test) columns column)
