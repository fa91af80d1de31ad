use Rattle.std.proofs.Common.{sym}
use Rattle.dump_grammar.specs.Canonical.{table_statements, is_byte_table}
use Rattle.dump_print.proofs.Appends.{going, tested}
use Rattle.dump_print.proofs.contents.put_tables.Goals as goal

pub loop-i-preserved : goal.loop-i-preserved
loop-i-preserved c =
    let xs = c.args.database.now.tables in
    let here = sym c.in-Some.ensures in
    record {
      text = going (table_statements c.args.catalog.now.roles c.args.catalog.now.tablespaces c.args.database.now.enums) xs c.loop-i.i c.in-Some.table.now c.loop-i.out.items c.put_table.new.out.items _ here c.in_ok-put_table-in-Some.ensures.text c.loop-i.invariant.text;
      bytes = tested is_byte_table xs c.loop-i.i c.in-Some.table.now here c.in_ok-put_table-in-Some.ensures.bytes c.loop-i.invariant.bytes;
    }
