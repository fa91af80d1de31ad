use Rattle.std.proofs.Common.{sym}
use Rattle.relation_map.specs.Named.{table_named}
use Rattle.relation_map.proofs.Lists.{adding}
use Rattle.relation_map.proofs.named.add_tables.Goals as goal

pub loop-i-preserved : goal.loop-i-preserved
loop-i-preserved c =
    adding table_named c.args.database.now.tables c.loop-i.i c.in-Some.table.now c.loop-i.relations.items c.add_table.new.relations.items _ (sym c.in-Some.ensures) c.in_ok-add_table-in-Some.ensures c.loop-i.invariant
