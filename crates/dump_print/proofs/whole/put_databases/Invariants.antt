use Rattle.std.proofs.Common.{◌≡◌, ◌++◌}
use Rattle.dump_grammar.specs.Canonical.{database_statements}
use Rattle.dump_print.proofs.Appends.{lines_from}
use Rattle.dump_print.proofs.whole.put_databases.Given as goal

abbrev pub invariant-loop-i : goal.invariant-loop-i
invariant-loop-i l =
    l.out.items ++ lines_from (database_statements l.catalog.roles) l.i l.catalog.databases ≡ l.fn.out.items ++ lines_from (database_statements l.catalog.roles) 0 l.catalog.databases
