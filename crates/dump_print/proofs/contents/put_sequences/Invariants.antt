use Rattle.std.proofs.Common.{◌≡◌, ◌++◌}
use Rattle.dump_grammar.specs.Canonical.{sequence_statements}
use Rattle.dump_print.proofs.Appends.{lines_from}
use Rattle.dump_print.proofs.contents.put_sequences.Given as goal

abbrev pub invariant-loop-i : goal.invariant-loop-i
invariant-loop-i l =
    l.out.items ++ lines_from (sequence_statements l.catalog.roles) l.i l.database.sequences ≡ l.fn.out.items ++ lines_from (sequence_statements l.catalog.roles) 0 l.database.sequences
