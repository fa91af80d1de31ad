use Rattle.std.proofs.Common.{◌≡◌, ◌++◌}
use Rattle.dump_grammar.specs.Canonical.{schema_statements}
use Rattle.dump_print.proofs.Appends.{lines_from}
use Rattle.dump_print.proofs.contents.put_schemas.Given as goal

abbrev pub invariant-loop-i : goal.invariant-loop-i
invariant-loop-i l =
    l.out.items ++ lines_from (schema_statements l.catalog.roles) l.i l.database.schemas ≡ l.fn.out.items ++ lines_from (schema_statements l.catalog.roles) 1 l.database.schemas
