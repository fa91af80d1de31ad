use Rattle.std.proofs.Common.{◌≡◌, ◌++◌, drop}
use Rattle.std.specs.List.{list_all}
use Rattle.dump_grammar.specs.Canonical.{table_statements, is_byte_table}
use Rattle.dump_print.proofs.Appends.{lines_from}
use Rattle.dump_print.proofs.contents.put_tables.Given as goal

abbrev pub invariant-loop-i : goal.invariant-loop-i
invariant-loop-i l = record {
  text :
      l.out.items ++ lines_from (table_statements l.catalog.roles l.catalog.tablespaces l.database.enums) l.i l.database.tables
      ≡ l.fn.out.items ++ lines_from (table_statements l.catalog.roles l.catalog.tablespaces l.database.enums) 0 l.database.tables;
  bytes : list_all is_byte_table (drop l.i l.database.tables) ≡ list_all is_byte_table l.database.tables;
}
