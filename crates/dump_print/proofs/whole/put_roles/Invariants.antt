use Rattle.std.proofs.Common.{◌≡◌, ◌++◌}
use Rattle.dump_grammar.specs.Canonical.{role_statements}
use Rattle.dump_print.proofs.Appends.{lines_from}
use Rattle.dump_print.proofs.whole.put_roles.Given as goal

abbrev pub invariant-loop-i : goal.invariant-loop-i
invariant-loop-i l =
    l.out.items ++ lines_from (role_statements) l.i l.catalog.roles ≡ l.fn.out.items ++ lines_from (role_statements) 0 l.catalog.roles
