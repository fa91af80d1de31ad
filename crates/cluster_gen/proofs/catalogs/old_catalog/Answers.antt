use Rattle.cluster_gen.proofs.Clusters.{app_added, table_added}
use Rattle.cluster_gen.proofs.catalogs.old_catalog.Goals as goal

pub loop-table-init : goal.loop-table-init
loop-table-init c = app_added c.in_ok-catalog.catalog c.add_app.new.catalog c.in_ok-catalog.ensures c.in_ok-add_app.ensures

pub loop-table-preserved : goal.loop-table-preserved
loop-table-preserved c = table_added c.loop-table.table c.loop-table.catalog c.add_table.new.catalog c.loop-table.invariant c.in_ok-add_table.ensures
