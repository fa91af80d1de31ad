use Rattle.std.proofs.Common.{◌≡◌, ◌++◌, drop}
use Rattle.std.specs.List.{list_all}
use Rattle.dump_grammar.specs.Canonical.{content_statements, is_byte_database}
use Rattle.dump_print.proofs.Appends.{lines_from}
use Rattle.dump_print.proofs.contents.put_contents.Given as goal

abbrev pub invariant-loop-i : goal.invariant-loop-i
invariant-loop-i l = record {
  text :
      l.out.items ++ lines_from (content_statements l.catalog.roles l.catalog.tablespaces) l.i l.catalog.databases
      ≡ l.fn.out.items ++ lines_from (content_statements l.catalog.roles l.catalog.tablespaces) 0 l.catalog.databases;
  bytes : list_all is_byte_database (drop l.i l.catalog.databases) ≡ list_all is_byte_database l.catalog.databases;
}
