use Rattle.std.proofs.Common.{ap, ◌∙◌}
use Rattle.catalog.specs.Forms.{table_form}
use Rattle.cluster_gen.proofs.Names.{table_has_form}
use Rattle.cluster_gen.proofs.catalogs.add_table.Goals as goal

pub add_table-requires : goal.add_table-requires
add_table-requires c = ap table_form c.in_ok-made.ensures ∙ table_has_form c.args.table c.requires
