use Rattle.std.proofs.Common.{◌+◌, ◌-◌, ◌^◌, ◌≤◌, length, take}
use Rattle.cluster_meaning.specs.Blocks.{blocks_in, numbered}
use Rattle.cluster_meaning.specs.Meaning.{Reading}
use Rattle.block_rows.specs.Sources.{reading_of}
use Rattle.block_rows.specs.Rows.{AddsRows}
use Rattle.fork_scan.proofs.pieces.add_piece_rows.Given as goal

abbrev pub invariant-loop-n : goal.invariant-loop-n
invariant-loop-n g l =
    let reading : Reading = reading_of l.reader.source (g.L.Lookup.fates l.reader.look.now) (g.L.Lookup.updaters l.reader.look.now) in
    l.blocks ≤ length (blocks_in l.piece) → l.first + l.blocks ≤ 2 ^ 32 - 1 → AddsRows reading l.reader.snapshot.now (numbered l.first (take l.n (blocks_in l.piece))) l.fn.rows l.rows
