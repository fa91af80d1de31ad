use Rattle.std.proofs.Common.{◌∙◌, ℕ, List}
use Rattle.cluster_meaning.specs.Meaning.{Reading}
use Rattle.block_rows.specs.Sources.{reading_of}
use Rattle.block_rows.specs.Rows.{row_of, item_seen}
use Rattle.block_rows.proofs.FieldSteps.{rows_more, count_more}
use Rattle.block_rows.proofs.blocks.add_block.Goals as goal

pub loop-line-preserved : goal.loop-line-preserved
loop-line-preserved g c =
    let reading : Reading = reading_of c.args.reader.now.source (g.L.Lookup.fates c.args.reader.now.look.now) (g.L.Lookup.updaters c.args.reader.now.look.now) in
    let snapshot = c.args.reader.now.snapshot.now in
    let item : ℕ × List ℕ = (c.in-Some.line, c.in-Some.tuple.now) in
    let added = c.in_ok-add_tuple.ensures in
    record {
      rows = rows_more (row_of reading snapshot c.args.number) c.loop-line.rows.rows.items c.add_tuple.new.rows.rows.items _ item c.loop-line.line-iterator c.next.new.self c.in-Some.ensures.steps added.rows c.loop-line.invariant.rows;
      unread = added.unread ∙ c.loop-line.invariant.unread;
      unknown = count_more (item_seen reading snapshot) c.loop-line.rows.unknown c.add_tuple.new.rows.unknown _ item c.loop-line.line-iterator c.next.new.self c.in-Some.ensures.steps added.unknown c.loop-line.invariant.unknown;
    }
