use Rattle.catalog_checks.proofs.Validity.{valid_few}
use Rattle.catalog_checks.proofs.columns.first_reg_column.Goals as goal

pub first_in_cluster-requires : goal.first_in_cluster-requires
first_in_cluster-requires c = valid_few c.args.catalog.now c.bootstrap-valid.ensures.valid
