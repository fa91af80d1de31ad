use Rattle.std.proofs.Common.{◌≡◌, ◌<◌, ◌+◌, ◌*◌, ℕ, List, length, take, IfSome, slice_get, subst, sym, arith}
use Rattle.std.proofs.lemmas.List.{append-nil}
use Rattle.cluster_meaning.specs.Blocks.{blocks_in}
use Rattle.cluster_meaning.specs.Chunks.{chunks_in}
use Rattle.fork_read.proofs.Pieces.{block_at}
use Rattle.fork_scan.proofs.Steps.{in_piece_more}
use Rattle.fork_scan.proofs.pieces.add_piece_chunks.Goals as goal

pub loop-n-init : goal.loop-n-init
loop-n-init c stand = sym (append-nil c.args.chunks.now.items)

pub loop-n-preserved : goal.loop-n-preserved
loop-n-preserved c stand =
    let n : ℕ = c.loop-n.n in
    let piece : List ℕ = c.args.piece.now in
    let got : List ℕ = c.block_of.result.now in
    let blocks : List (List ℕ) = blocks_in piece in
    let found : IfSome (slice_get blocks n) (λ block. got ≡ block) = subst (λ l. IfSome (slice_get blocks n) (λ block. l ≡ block)) (sym c.block_of.ensures) (block_at piece n) in
    let lt : n < length blocks = omega (arith, c.loop-n-test.true, stand) in
    in_piece_more chunks_in blocks n got c.args.chunks.now.items c.loop-n.chunks.items c.add_chunks.new.chunks.items lt found (c.loop-n.invariant stand) c.in_ok-add_chunks.ensures
