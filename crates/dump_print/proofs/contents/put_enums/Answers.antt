use Rattle.std.proofs.Common.{sym}
use Rattle.dump_grammar.specs.Canonical.{enum_statements}
use Rattle.dump_print.proofs.Appends.{going}
use Rattle.dump_print.proofs.contents.put_enums.Goals as goal

pub loop-i-preserved : goal.loop-i-preserved
loop-i-preserved c =
    going (enum_statements c.args.catalog.now.roles) c.args.database.now.enums c.loop-i.i c.in-Some.kind.now c.loop-i.out.items c.put_enum.new.out.items _ (sym c.in-Some.ensures) c.in_ok-put_enum-in-Some.ensures c.loop-i.invariant
