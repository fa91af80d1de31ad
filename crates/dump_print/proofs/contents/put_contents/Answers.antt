use Rattle.std.proofs.Common.{sym}
use Rattle.dump_grammar.specs.Canonical.{content_statements, is_byte_database}
use Rattle.dump_print.proofs.Appends.{going, tested}
use Rattle.dump_print.proofs.contents.put_contents.Goals as goal

pub loop-i-preserved : goal.loop-i-preserved
loop-i-preserved c =
    let xs = c.args.catalog.now.databases in
    let here = sym c.in-Some.ensures in
    record {
      text = going (content_statements c.args.catalog.now.roles c.args.catalog.now.tablespaces) xs c.loop-i.i c.in-Some.database.now c.loop-i.out.items c.put_content.new.out.items _ here c.in_ok-put_content-in-Some.ensures.text c.loop-i.invariant.text;
      bytes = tested is_byte_database xs c.loop-i.i c.in-Some.database.now here c.in_ok-put_content-in-Some.ensures.bytes c.loop-i.invariant.bytes;
    }
