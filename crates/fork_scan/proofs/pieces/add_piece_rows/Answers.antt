use Rattle.std.proofs.Common.{◌≡◌, ◌<◌, ◌+◌, ◌%◌, ◌^◌, ◌++◌, ◌∷◌, [], ℕ, List, length, take, IfSome, slice_get, subst, sym, arith}
use Rattle.cluster_meaning.specs.Blocks.{blocks_in, numbered}
use Rattle.cluster_meaning.specs.Meaning.{Reading}
use Rattle.block_rows.specs.Sources.{reading_of}
use Rattle.block_rows.specs.Rows.{AddsRows}
use Rattle.block_rows.proofs.Adding.{adds_none, adds_block, adds_then}
use Rattle.fork_read.proofs.Pieces.{block_at}
use Rattle.fork_scan.proofs.Steps.{block_more}
use Rattle.fork_scan.proofs.pieces.add_piece_rows.Goals as goal

pub loop-n-init : goal.loop-n-init
loop-n-init g c stand numbers =
    adds_none (reading_of c.args.reader.now.source (g.L.Lookup.fates c.args.reader.now.look.now) (g.L.Lookup.updaters c.args.reader.now.look.now)) c.args.reader.now.snapshot.now c.args.rows.now

pub loop-n-preserved : goal.loop-n-preserved
loop-n-preserved g c stand numbers =
    let first : ℕ = c.args.first in
    let n : ℕ = c.loop-n.n in
    let piece : List ℕ = c.args.piece.now in
    let got : List ℕ = c.block_of.result.now in
    let blocks : List (List ℕ) = blocks_in piece in
    let xs : List (ℕ × List ℕ) = numbered first (take n blocks) in
    let found : IfSome (slice_get blocks n) (λ block. got ≡ block) = subst (λ l. IfSome (slice_get blocks n) (λ block. l ≡ block)) (sym c.block_of.ensures) (block_at piece n) in
    let lt : n < length blocks = omega (arith, c.loop-n-test.true, stand) in
    let all : numbered first (take (n + 1) blocks) ≡ xs ++ (first + n, got) ∷ [] = block_more first n blocks got lt found in
    let reading : Reading = reading_of c.args.reader.now.source (g.L.Lookup.fates c.args.reader.now.look.now) (g.L.Lookup.updaters c.args.reader.now.look.now) in
    let snapshot = c.args.reader.now.snapshot.now in
    let number : (first + n) % 2 ^ 32 ≡ first + n = omega (arith, c.loop-n-test.true, numbers) in
    let added = c.in_ok-add_block.ensures in
    let one : AddsRows reading snapshot (((first + n) % 2 ^ 32, got) ∷ []) c.loop-n.rows c.add_block.new.rows =
    adds_block reading snapshot ((first + n) % 2 ^ 32) got c.loop-n.rows c.add_block.new.rows added.rows added.unread added.unknown in
    let here : AddsRows reading snapshot ((first + n, got) ∷ []) c.loop-n.rows c.add_block.new.rows = subst (λ k. AddsRows reading snapshot ((k, got) ∷ []) c.loop-n.rows c.add_block.new.rows) number one in
    subst (λ l. AddsRows reading snapshot l c.args.rows.now c.add_block.new.rows) (sym all)
    (adds_then reading snapshot xs ((first + n, got) ∷ []) c.args.rows.now c.loop-n.rows c.add_block.new.rows (c.loop-n.invariant stand numbers) here)
