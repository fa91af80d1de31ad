use Rattle.std.proofs.Common.{sym}
use Rattle.dump_grammar.specs.Canonical.{database_statements}
use Rattle.dump_print.proofs.Appends.{going}
use Rattle.dump_print.proofs.whole.put_databases.Goals as goal

pub loop-i-preserved : goal.loop-i-preserved
loop-i-preserved c =
    going (database_statements c.args.catalog.now.roles) c.args.catalog.now.databases c.loop-i.i c.in-Some.database.now c.loop-i.out.items c.put_database.new.out.items _ (sym c.in-Some.ensures) c.in_ok-put_database-in-Some.ensures c.loop-i.invariant
