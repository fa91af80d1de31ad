use Rattle.std.proofs.Common.{◌≡◌, ◌∙◌, ◌+◌, ◌++◌, ℕ, List, [], true, None, take, flat_map, subst, sym, ap, get_or}
use Rattle.std.proofs.lemmas.List.{append-nil, take_all}
use Rattle.std.specs.List.{AllByRecursion}
use Rattle.fs_model.specs.State.{FsState}
use Rattle.cluster_meaning.specs.Meaning.{Reading}
use Rattle.block_rows.specs.Sources.{reading_of}
use Rattle.block_rows.specs.Rows.{AddsRows}
use Rattle.block_rows.proofs.Adding.{adds_none, adds_then}
use Rattle.fs_model.specs.Observed.{Observed}
use Rattle.fs_model.proofs.Observing.{no_reads}
use Rattle.fork_read.specs.declared.extents.Extent.{Extent}
use Rattle.fork_read.specs.Extents.{IsBacked, extent_blocks}
use Rattle.toast_read.specs.declared.chunk.Chunk.{Chunk}
use Rattle.fork_scan.specs.Scans.{chunks_at}
use Rattle.fork_scan.proofs.Steps.{runs_on, runs_more, all_at, over_more, gathered}
use Rattle.fs_model.specs.WellFormed.{WellFormed}
use Rattle.fork_read.proofs.Found.{decided_as}
use Rattle.fork_scan.proofs.scan.add_all_chunks.Goals as goal

pub loop-extent-init : goal.loop-extent-init
loop-extent-init g c =
    let before : Observed = record { told = g.F.Fs.told c.args.fs.now; firm = g.F.Fs.firm c.args.fs.now; depth = g.F.Fs.depth c.args.fs.now; trail = g.F.Fs.trail c.args.fs.now; counts = g.F.Fs.counts c.args.fs.now } in
    record { reads = no_reads before; chunks = λ told backed. sym (append-nil c.args.chunks.now.items) }

pub returns-in-Err-clause-reads : goal.returns-in-Err-clause-reads
returns-in-Err-clause-reads g c =
    let before : Observed = record { told = g.F.Fs.told c.args.fs.now; firm = g.F.Fs.firm c.args.fs.now; depth = g.F.Fs.depth c.args.fs.now; trail = g.F.Fs.trail c.args.fs.now; counts = g.F.Fs.counts c.args.fs.now } in
    let here : Observed = record { told = g.F.Fs.told c.loop-extent.fs; firm = g.F.Fs.firm c.loop-extent.fs; depth = g.F.Fs.depth c.loop-extent.fs; trail = g.F.Fs.trail c.loop-extent.fs; counts = g.F.Fs.counts c.loop-extent.fs } in
    let after : Observed = record { told = g.F.Fs.told c.add_extent_chunks.new.fs; firm = g.F.Fs.firm c.add_extent_chunks.new.fs; depth = g.F.Fs.depth c.add_extent_chunks.new.fs; trail = g.F.Fs.trail c.add_extent_chunks.new.fs; counts = g.F.Fs.counts c.add_extent_chunks.new.fs } in
    runs_on before here after c.in-Err.error c.add_extent_chunks.result c.in-Err.is c.loop-extent.invariant.reads c.add_extent_chunks.ensures.reads

pub loop-extent-preserved : goal.loop-extent-preserved
loop-extent-preserved g c =
    let before : Observed = record { told = g.F.Fs.told c.args.fs.now; firm = g.F.Fs.firm c.args.fs.now; depth = g.F.Fs.depth c.args.fs.now; trail = g.F.Fs.trail c.args.fs.now; counts = g.F.Fs.counts c.args.fs.now } in
    let here : Observed = record { told = g.F.Fs.told c.loop-extent.fs; firm = g.F.Fs.firm c.loop-extent.fs; depth = g.F.Fs.depth c.loop-extent.fs; trail = g.F.Fs.trail c.loop-extent.fs; counts = g.F.Fs.counts c.loop-extent.fs } in
    let after : Observed = record { told = g.F.Fs.told c.add_extent_chunks.new.fs; firm = g.F.Fs.firm c.add_extent_chunks.new.fs; depth = g.F.Fs.depth c.add_extent_chunks.new.fs; trail = g.F.Fs.trail c.add_extent_chunks.new.fs; counts = g.F.Fs.counts c.add_extent_chunks.new.fs } in
    record {
      reads = runs_more before here after _ c.add_extent_chunks.result c.in-Ok.is c.loop-extent.invariant.reads c.add_extent_chunks.ensures.reads;
      chunks = λ told backed.
          (let s : FsState = (g.F.Fs.trail c.args.fs.now).present in
          let xs : List Extent = c.args.extents.now in
          let i : ℕ = c.loop-extent.extent-index in
          let x : Extent = c.extent-item.result in
          let same : (g.F.Fs.trail c.loop-extent.fs).present ≡ s = (c.loop-extent.invariant.reads.unchanged told).present in
          let stands : IsBacked s x = subst (IsBacked s) (sym c.extent-item.is) (all_at (IsBacked s) xs i x backed c.loop-extent-test.true) in
          let all : flat_map (extent_blocks s) (take (i + 1) xs) ≡ flat_map (extent_blocks s) (take i xs) ++ extent_blocks s x = over_more (extent_blocks s) xs i x c.loop-extent-test.true c.extent-item.is in
          let Adds : FsState → Type 0 = λ st. IsBacked st x → c.add_extent_chunks.new.chunks.items ≡ c.loop-extent.chunks.items ++ flat_map chunks_at (extent_blocks st x) in
          let one : Adds s = subst Adds same (c.in-Ok.ensures.chunks (c.loop-extent.invariant.reads.told ∙ told)) in
          subst (λ l. c.add_extent_chunks.new.chunks.items ≡ c.args.chunks.now.items ++ flat_map chunks_at l) (sym all)
          (gathered chunks_at c.args.chunks.now.items c.loop-extent.chunks.items c.add_extent_chunks.new.chunks.items (flat_map (extent_blocks s) (take i xs)) (extent_blocks s x) (c.loop-extent.invariant.chunks told backed) (one stands)));
    }

pub returns-clause-chunks : goal.returns-clause-chunks
returns-clause-chunks g c told backed =
    let s : FsState = (g.F.Fs.trail c.args.fs.now).present in
    subst (λ (l : List Extent). c.loop-extent.chunks.items ≡ c.args.chunks.now.items ++ flat_map chunks_at (flat_map (extent_blocks s) l))
    (take_all c.loop-extent.extent-index c.args.extents.now c.loop-extent-test.false) (c.loop-extent.invariant.chunks told backed)

pub returns-in-Err-clause-unrefused : goal.returns-in-Err-clause-unrefused
returns-in-Err-clause-unrefused g c told formed backed =
    let s : FsState = (g.F.Fs.trail c.args.fs.now).present in
    let xs : List Extent = c.args.extents.now in
    let i : ℕ = c.loop-extent.extent-index in
    let x : Extent = c.extent-item.result in
    let same : (g.F.Fs.trail c.loop-extent.fs).present ≡ s = (c.loop-extent.invariant.reads.unchanged told).present in
    let stands : IsBacked s x = subst (IsBacked s) (sym c.extent-item.is) (all_at (IsBacked s) xs i x backed c.loop-extent-test.true) in
    decided_as (Unit {0}) (Unit {0}) None c.in-Err.error
    (c.in-Err.ensures.unrefused (c.loop-extent.invariant.reads.told ∙ told) (subst WellFormed (sym same) formed) (subst (λ st. IsBacked st x) (sym same) stands))
