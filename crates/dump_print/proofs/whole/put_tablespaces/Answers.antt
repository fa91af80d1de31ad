use Rattle.std.proofs.Common.{sym}
use Rattle.dump_grammar.specs.Canonical.{tablespace_statements, is_text_location}
use Rattle.dump_print.proofs.Appends.{going, tested}
use Rattle.dump_print.proofs.whole.put_tablespaces.Goals as goal

pub loop-i-preserved : goal.loop-i-preserved
loop-i-preserved c =
    let xs = c.args.catalog.now.tablespaces in
    let here = sym c.in-Some.ensures in
    record {
      text = going (tablespace_statements c.args.catalog.now.roles) xs c.loop-i.i c.in-Some.tablespace.now c.loop-i.out.items c.put_tablespace.new.out.items _ here c.in_ok-put_tablespace-in-Some.ensures.text c.loop-i.invariant.text;
      locations = tested is_text_location xs c.loop-i.i c.in-Some.tablespace.now here c.in_ok-put_tablespace-in-Some.ensures.location c.loop-i.invariant.locations;
    }
