use Rattle.std.proofs.Common.{◌++◌, ◌∙◌, ap}
use Rattle.std.specs.Fmt.{decimal}
use Rattle.dump_print.specs.Parts.{line_text, list_text}
use Rattle.dump_print.proofs.Appends.{joined}
use Rattle.dump_print.proofs.Lines.{index_line}
use Rattle.dump_print.proofs.tables.put_create_index.Goals as goal

pub returns : goal.returns
unfolding line_text
returns c =
    let head = c.put_index_head.new.out.items in
    joined _ _ _ _ _ _ c.in_ok-put_index_head.ensures
    (c.in_ok-put_keys.ensures ∙ ap (λ l. head ++ list_text decimal l) c.items.ensures)
    (index_line c.args.catalog.now.tablespaces c.args.database.now.tables c.args.index.now)
