use Rattle.std.proofs.Common.{◌≡◌, ◌++◌}
use Rattle.dump_grammar.specs.Canonical.{index_statements}
use Rattle.dump_print.proofs.Appends.{lines_from}
use Rattle.dump_print.proofs.contents.put_indexes.Given as goal

abbrev pub invariant-loop-i : goal.invariant-loop-i
invariant-loop-i l =
    l.out.items ++ lines_from (index_statements l.catalog.tablespaces l.database.tables) l.i l.database.indexes
    ≡ l.fn.out.items ++ lines_from (index_statements l.catalog.tablespaces l.database.tables) 0 l.database.indexes
