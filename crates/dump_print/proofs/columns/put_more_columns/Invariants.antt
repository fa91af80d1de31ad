use Rattle.std.proofs.Common.{◌≡◌, ◌++◌, drop}
use Rattle.std.specs.List.{list_all}
use Rattle.dump_grammar.specs.Canonical.{is_byte_column}
use Rattle.dump_print.specs.Parts.{more_text, written_column}
use Rattle.dump_print.proofs.columns.put_more_columns.Given as goal

abbrev pub invariant-loop-column : goal.invariant-loop-column
invariant-loop-column l = record {
  text : l.out.items ++ more_text (written_column l.database.enums) (drop l.column-index l.columns) ≡ l.fn.out.items ++ more_text (written_column l.database.enums) l.columns;
  bytes : list_all is_byte_column (drop l.column-index l.columns) ≡ list_all is_byte_column l.columns;
}
