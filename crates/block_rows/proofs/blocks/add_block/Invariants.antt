use Rattle.std.proofs.Common.{◌≡◌, ◌++◌, filter_map, ℕ, List, Option}
use Rattle.heap_page.specs.Page.{items_of}
use Rattle.cluster_meaning.specs.Meaning.{Reading}
use Rattle.block_rows.specs.declared.rows.Row.{Row}
use Rattle.block_rows.specs.Sources.{reading_of}
use Rattle.block_rows.specs.Rows.{row_of, item_seen, counted_all}
use Rattle.block_rows.proofs.blocks.add_block.Given as goal

abbrev pub invariant-loop-line : goal.invariant-loop-line
invariant-loop-line g l =
    let reading : Reading = reading_of l.reader.source (g.L.Lookup.fates l.reader.look.now) (g.L.Lookup.updaters l.reader.look.now) in
    let row : ℕ × List ℕ → Option Row = row_of reading l.reader.snapshot.now l.number in
    record {
      rows : l.rows.rows.items ++ filter_map row l.line-iterator ≡ l.initial.rows.rows.items ++ filter_map row (items_of l.block);
      unread : l.rows.unread.items ≡ l.initial.rows.unread.items;
      unknown : counted_all (item_seen reading l.reader.snapshot.now) l.line-iterator l.rows.unknown ≡ counted_all (item_seen reading l.reader.snapshot.now) (items_of l.block) l.initial.rows.unknown;
    }
