use Rattle.std.proofs.Common.{◌≡◌, Some, None, sym, ap, ◌∙◌}
use Rattle.std.specs.Option.{option_copied}
use Rattle.catalog.specs.Spaces.{table_has}
use Rattle.catalog.proofs.KnownLists.{found_of_any}
use Rattle.catalog.proofs.additions.put_index_name.Goals as goal

pub returns-in-None-clause-placed : goal.returns-in-None-clause-placed
returns-in-None-clause-placed c = λ key h.
    let there = found_of_any (table_has c.args.index.now.table) c.args.tables.now c.requires in
    let gone : Some there.0 ≡ None = sym there.1 ∙ sym c.of_oid.ensures ∙ ap option_copied c.in-None.is in
    cc
