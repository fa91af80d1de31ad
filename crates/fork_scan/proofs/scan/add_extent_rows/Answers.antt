use Rattle.std.proofs.Common.{◌≡◌, ◌∙◌, ◌<◌, ◌+◌, ◌%◌, ◌^◌, ◌++◌, ◌∷◌, [], ℕ, List, Result, Ok, IfOk, length, take, IfSome, slice_get, None, subst, sym, ap, arith}
use Rattle.std.proofs.Common.{◌*◌, ◌-◌, ◌≤◌, drop, min}
use Rattle.std.specs.Int.{div_ceil}
use Rattle.fs_model.specs.declared.error.FsError.{FsError}
use Rattle.fs_model.specs.State.{FsState}
use Rattle.cluster_meaning.specs.Blocks.{blocks_in, numbered}
use Rattle.cluster_meaning.specs.Meaning.{Reading}
use Rattle.block_rows.specs.Sources.{reading_of}
use Rattle.block_rows.specs.Rows.{AddsRows}
use Rattle.block_rows.proofs.Adding.{adds_none, adds_then}
use Rattle.fs_model.specs.Observed.{Observed}
use Rattle.fork_read.specs.Extents.{file_blocks, piece_blocks}
use Rattle.fs_model.proofs.Observing.{no_reads}
use Rattle.fork_scan.specs.Scans.{chunks_at}
use Rattle.fork_scan.proofs.Steps.{piece_before, reads_on, reads_more, piece_more, piece_length, pieces_all}
use Rattle.fs_model.specs.WellFormed.{WellFormed}
use Rattle.fork_read.proofs.Found.{decided_as}
use Rattle.fork_scan.proofs.scan.add_extent_rows.Goals as goal

pub overflow_mul-n : goal.overflow_mul-n
overflow_mul-n g c = omega (arith, c.loop-piece-test.true, c.pieces_of-piece-end.ensures.fits)

pub loop-piece-init : goal.loop-piece-init
loop-piece-init g c =
    let before : Observed = record { told = g.F.Fs.told c.args.fs.now; firm = g.F.Fs.firm c.args.fs.now; depth = g.F.Fs.depth c.args.fs.now; trail = g.F.Fs.trail c.args.fs.now; counts = g.F.Fs.counts c.args.fs.now } in
    record { reads = no_reads before; rows = λ told backed. adds_none (reading_of c.args.reader.now.source (g.L.Lookup.fates c.args.reader.now.look.now) (g.L.Lookup.updaters c.args.reader.now.look.now)) c.args.reader.now.snapshot.now c.args.rows.now }

pub returns-in-Err-clause-reads : goal.returns-in-Err-clause-reads
returns-in-Err-clause-reads g c =
    let before : Observed = record { told = g.F.Fs.told c.args.fs.now; firm = g.F.Fs.firm c.args.fs.now; depth = g.F.Fs.depth c.args.fs.now; trail = g.F.Fs.trail c.args.fs.now; counts = g.F.Fs.counts c.args.fs.now } in
    let here : Observed = record { told = g.F.Fs.told c.loop-piece.fs; firm = g.F.Fs.firm c.loop-piece.fs; depth = g.F.Fs.depth c.loop-piece.fs; trail = g.F.Fs.trail c.loop-piece.fs; counts = g.F.Fs.counts c.loop-piece.fs } in
    let after : Observed = record { told = g.F.Fs.told c.read_piece.new.fs; firm = g.F.Fs.firm c.read_piece.new.fs; depth = g.F.Fs.depth c.read_piece.new.fs; trail = g.F.Fs.trail c.read_piece.new.fs; counts = g.F.Fs.counts c.read_piece.new.fs } in
    reads_on before here after c.in-Err.error c.read_piece.result c.in-Err.is c.loop-piece.invariant.reads c.read_piece.ensures.reads

pub returns-in-Err-add_piece_rows-clause-reads : goal.returns-in-Err-add_piece_rows-clause-reads
returns-in-Err-add_piece_rows-clause-reads g c =
    let before : Observed = record { told = g.F.Fs.told c.args.fs.now; firm = g.F.Fs.firm c.args.fs.now; depth = g.F.Fs.depth c.args.fs.now; trail = g.F.Fs.trail c.args.fs.now; counts = g.F.Fs.counts c.args.fs.now } in
    let here : Observed = record { told = g.F.Fs.told c.loop-piece.fs; firm = g.F.Fs.firm c.loop-piece.fs; depth = g.F.Fs.depth c.loop-piece.fs; trail = g.F.Fs.trail c.loop-piece.fs; counts = g.F.Fs.counts c.loop-piece.fs } in
    let after : Observed = record { told = g.F.Fs.told c.read_piece.new.fs; firm = g.F.Fs.firm c.read_piece.new.fs; depth = g.F.Fs.depth c.read_piece.new.fs; trail = g.F.Fs.trail c.read_piece.new.fs; counts = g.F.Fs.counts c.read_piece.new.fs } in
    reads_more before here after c.in-Ok.count c.read_piece.result c.in-Ok.is c.loop-piece.invariant.reads c.read_piece.ensures.reads

pub loop-piece-preserved : goal.loop-piece-preserved
loop-piece-preserved g c =
    let before : Observed = record { told = g.F.Fs.told c.args.fs.now; firm = g.F.Fs.firm c.args.fs.now; depth = g.F.Fs.depth c.args.fs.now; trail = g.F.Fs.trail c.args.fs.now; counts = g.F.Fs.counts c.args.fs.now } in
    let here : Observed = record { told = g.F.Fs.told c.loop-piece.fs; firm = g.F.Fs.firm c.loop-piece.fs; depth = g.F.Fs.depth c.loop-piece.fs; trail = g.F.Fs.trail c.loop-piece.fs; counts = g.F.Fs.counts c.loop-piece.fs } in
    let after : Observed = record { told = g.F.Fs.told c.read_piece.new.fs; firm = g.F.Fs.firm c.read_piece.new.fs; depth = g.F.Fs.depth c.read_piece.new.fs; trail = g.F.Fs.trail c.read_piece.new.fs; counts = g.F.Fs.counts c.read_piece.new.fs } in
    record {
      reads = reads_more before here after c.in-Ok.count c.read_piece.result c.in-Ok.is c.loop-piece.invariant.reads c.read_piece.ensures.reads;
      rows = λ told backed.
          (let s : FsState = (g.F.Fs.trail c.args.fs.now).present in
          let path = c.args.extent.now.path in
          let first : ℕ = c.args.extent.now.first in
          let blocks : ℕ = c.args.extent.now.blocks in
          let n : ℕ = c.loop-piece.piece * 128 in
          let into : List ℕ = c.read_piece.new.into in
          let got : List ℕ = take c.in-Ok.count into in
          let file : List (List ℕ) = file_blocks s path in
          let xs : List (ℕ × List ℕ) = numbered first (take n (take blocks file)) in
          let same : (g.F.Fs.trail c.loop-piece.fs).present ≡ s = (c.loop-piece.invariant.reads.unchanged told).present in
          let Read : FsState → Result ℕ FsError → Type 0 = λ st r. IfOk r (λ count. blocks_in (take count into) ≡ piece_blocks st path n) in
          let read : Read s c.read_piece.result = subst (λ st. Read st c.read_piece.result) same (c.read_piece.ensures.blocks (c.loop-piece.invariant.reads.told ∙ told)) in
          let piece : List (List ℕ) = blocks_in got in
          let is : piece ≡ take 128 (drop n file) = subst (Read s) c.in-Ok.is read in
          let lt : n < blocks = piece_before c.loop-piece.piece c.pieces_of-piece-end.result c.args.extent.now.blocks c.loop-piece-test.true c.pieces_of-piece-end.ensures.count in
          let m : ℕ = c.min-blocks.result in
          let few : min 128 (blocks - n) ≡ m = sym c.min-blocks.ensures in
          let next : (c.loop-piece.piece + 1) * 128 ≡ n + 128 = omega arith in
          let all : numbered first (take ((c.loop-piece.piece + 1) * 128) (take blocks file)) ≡ xs ++ numbered (first + n) (take m piece) =
          ap (λ k. numbered first (take k (take blocks file))) next ∙ piece_more first blocks n file piece lt backed.stand is ∙ ap (λ k. xs ++ numbered (first + n) (take k piece)) few in
          let long : m ≤ length piece = subst (λ k. k ≤ length piece) few (piece_length blocks n file piece lt backed.stand is) in
          let reading : Reading = reading_of c.args.reader.now.source (g.L.Lookup.fates c.args.reader.now.look.now) (g.L.Lookup.updaters c.args.reader.now.look.now) in
          let snapshot = c.args.reader.now.snapshot.now in
          let number : (first + n) % 2 ^ 32 ≡ first + n = omega (arith, lt, backed.numbers) in
          let fits : (first + n) % 2 ^ 32 + m ≤ 2 ^ 32 - 1 = omega (arith, lt, few, backed.numbers) in
          let one : AddsRows reading snapshot (numbered ((first + n) % 2 ^ 32) (take m piece)) c.loop-piece.rows c.add_piece_rows.new.rows = c.in-Ok-add_piece_rows.ensures long fits in
          let here : AddsRows reading snapshot (numbered (first + n) (take m piece)) c.loop-piece.rows c.add_piece_rows.new.rows =
          subst (λ k. AddsRows reading snapshot (numbered k (take m piece)) c.loop-piece.rows c.add_piece_rows.new.rows) number one in
          subst (λ l. AddsRows reading snapshot l c.args.rows.now c.add_piece_rows.new.rows) (sym all)
          (adds_then reading snapshot xs (numbered (first + n) (take m piece)) c.args.rows.now c.loop-piece.rows c.add_piece_rows.new.rows (c.loop-piece.invariant.rows told backed) here));
    }

pub returns-in-Err-clause-unrefused : goal.returns-in-Err-clause-unrefused
returns-in-Err-clause-unrefused g c told formed backed =
    let s : FsState = (g.F.Fs.trail c.args.fs.now).present in
    let path = c.args.extent.now.path in
    let n : ℕ = c.loop-piece.piece * 128 in
    let same : (g.F.Fs.trail c.loop-piece.fs).present ≡ s = (c.loop-piece.invariant.reads.unchanged told).present in
    let before : n < c.args.extent.now.blocks = piece_before c.loop-piece.piece c.pieces_of-piece-end.result c.args.extent.now.blocks c.loop-piece-test.true c.pieces_of-piece-end.ensures.count in
    let lt : n < length (file_blocks s path) = omega (arith, before, backed.stand) in
    decided_as (Unit {0}) (Unit {0}) None c.in-Err.error
    (c.in-Err.ensures.unrefused (c.loop-piece.invariant.reads.told ∙ told) (subst WellFormed (sym same) formed) (subst (λ st. n < length (file_blocks st path)) (sym same) lt))

pub returns-clause-rows : goal.returns-clause-rows
returns-clause-rows g c told backed =
    let s : FsState = (g.F.Fs.trail c.args.fs.now).present in
    let reading : Reading = reading_of c.args.reader.now.source (g.L.Lookup.fates c.args.reader.now.look.now) (g.L.Lookup.updaters c.args.reader.now.look.now) in
    let blocks : ℕ = c.args.extent.now.blocks in
    let le : div_ceil blocks 128 ≤ c.loop-piece.piece = subst (λ k. k ≤ c.loop-piece.piece) c.pieces_of-piece-end.ensures.count c.loop-piece-test.false in
    subst (λ l. AddsRows reading c.args.reader.now.snapshot.now (numbered c.args.extent.now.first l) c.args.rows.now c.loop-piece.rows)
    (pieces_all c.loop-piece.piece blocks (file_blocks s c.args.extent.now.path) le backed.stand) (c.loop-piece.invariant.rows told backed)
