use Rattle.std.proofs.Common.{◌≡◌, ◌++◌, ◌≤◌, length, take, flat_map}
use Rattle.cluster_meaning.specs.Blocks.{blocks_in}
use Rattle.cluster_meaning.specs.Chunks.{chunks_in}
use Rattle.fork_scan.proofs.pieces.add_piece_chunks.Given as goal

abbrev pub invariant-loop-n : goal.invariant-loop-n
invariant-loop-n l = l.blocks ≤ length (blocks_in l.piece) → l.chunks.items ≡ l.fn.chunks.items ++ flat_map chunks_in (take l.n (blocks_in l.piece))
