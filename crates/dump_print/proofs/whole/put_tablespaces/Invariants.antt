use Rattle.std.proofs.Common.{◌≡◌, ◌++◌, drop}
use Rattle.std.specs.List.{list_all}
use Rattle.dump_grammar.specs.Canonical.{tablespace_statements, is_text_location}
use Rattle.dump_print.proofs.Appends.{lines_from}
use Rattle.dump_print.proofs.whole.put_tablespaces.Given as goal

abbrev pub invariant-loop-i : goal.invariant-loop-i
invariant-loop-i l = record {
  text : l.out.items ++ lines_from (tablespace_statements l.catalog.roles) l.i l.catalog.tablespaces ≡ l.fn.out.items ++ lines_from (tablespace_statements l.catalog.roles) 0 l.catalog.tablespaces;
  locations : list_all is_text_location (drop l.i l.catalog.tablespaces) ≡ list_all is_text_location l.catalog.tablespaces;
}
