use Rattle.std.proofs.Common.{sym}
use Rattle.dump_grammar.specs.Canonical.{role_statements}
use Rattle.dump_print.proofs.Appends.{going}
use Rattle.dump_print.proofs.whole.put_roles.Goals as goal

pub loop-i-preserved : goal.loop-i-preserved
loop-i-preserved c =
    going (role_statements) c.args.catalog.now.roles c.loop-i.i c.in-Some.role.now c.loop-i.out.items c.put_role.new.out.items _ (sym c.in-Some.ensures) c.in_ok-put_role-in-Some.ensures c.loop-i.invariant
