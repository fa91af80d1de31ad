use Rattle.std.proofs.Common.{map, sym}
use Rattle.catalog.specs.declared.relations.Table.{Table}
use Rattle.catalog.specs.Spaces.{table_places}
use Rattle.relation_files.specs.Relations.{relation_at}
use Rattle.file_checks.proofs.Lists.{adding}
use Rattle.file_checks.proofs.places.add_tables.Goals as goal

pub loop-i-preserved : goal.loop-i-preserved
loop-i-preserved c =
    adding (λ (t : Table). map (relation_at c.args.database.now) (table_places t)) c.args.database.now.tables c.loop-i.i c.in-Some.table.now c.loop-i.relations.items c.add_table.new.relations.items _ (sym c.in-Some.ensures) c.in_ok-add_table-in-Some.ensures c.loop-i.invariant
