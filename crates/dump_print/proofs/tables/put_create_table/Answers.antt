use Rattle.std.proofs.Common.{◌++◌, ◌∙◌, ap}
use Rattle.dump_print.specs.Parts.{line_text, list_text, written_column}
use Rattle.dump_print.proofs.Appends.{joined}
use Rattle.dump_print.proofs.Lines.{table_line}
use Rattle.dump_print.proofs.tables.put_create_table.Goals as goal

pub returns-clause-text : goal.returns-clause-text
unfolding line_text
returns-clause-text c =
    let enums = c.args.database.now.enums in
    let head = c.put_table_head.new.out.items in
    joined _ _ _ _ _ _ c.in_ok-put_table_head.ensures
    (c.in_ok-put_columns.ensures.text ∙ ap (λ l. head ++ list_text (written_column enums) l) c.items.ensures)
    (table_line c.args.catalog.now.roles c.args.catalog.now.tablespaces enums c.args.table.now)
