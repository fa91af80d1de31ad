use Rattle.std.proofs.Common.{◌≡◌, ◌∙◌, ◌++◌, ℕ, List, [], None, Result, IfOk, flat_map, subst, sym, ap}
use Rattle.std.specs.List.{AllByRecursion}
use Rattle.fs_model.specs.State.{FsState}
use Rattle.fs_model.specs.Trail.{error_of, unless_lack, DecidedBy}
use Rattle.fs_model.specs.Observed.{Observed}
use Rattle.fs_model.proofs.Observing.{no_reads, reads_then}
use Rattle.relation_files.specs.Places.{fork_files}
use Rattle.relation_files.specs.Sites.{site_at}
use Rattle.relation_files.specs.declared.relation.Fork.TheVariants.{Main}
use Rattle.cluster_meaning.specs.Blocks.{blocks_of, numbered}
use Rattle.cluster_meaning.specs.Chunks.{chunks_in, chunks_of_blocks}
use Rattle.cluster_meaning.specs.Meaning.{Reading}
use Rattle.block_rows.specs.declared.rows.Rows.{Rows}
use Rattle.block_rows.specs.Sources.{reading_of}
use Rattle.block_rows.specs.Rows.{AddsRows, TellsRows}
use Rattle.block_rows.proofs.Adding.{tells_rows}
use Rattle.toast_read.specs.declared.chunk.Chunk.{Chunk}
use Rattle.fork_read.specs.declared.extents.Extent.{Extent}
use Rattle.fork_read.specs.Extents.{IsBacked, extent_blocks}
use Rattle.fork_scan.specs.Scans.{chunks_at}
use Rattle.fork_scan.proofs.Steps.{lacked, chunks_of_numbered}
use Rattle.fork_read.proofs.Found.{decided_as}
use Rattle.fs_model.specs.WellFormed.{WellFormed}
use Rattle.fork_scan.proofs.forks.fork_chunks.Goals as goal

pub returns-clause-reads : goal.returns-clause-reads
returns-clause-reads g c =
    let before : Observed = record { told = g.F.Fs.told c.args.fs.now; firm = g.F.Fs.firm c.args.fs.now; depth = g.F.Fs.depth c.args.fs.now; trail = g.F.Fs.trail c.args.fs.now; counts = g.F.Fs.counts c.args.fs.now } in
    let here : Observed = record { told = g.F.Fs.told c.extents_of.new.fs; firm = g.F.Fs.firm c.extents_of.new.fs; depth = g.F.Fs.depth c.extents_of.new.fs; trail = g.F.Fs.trail c.extents_of.new.fs; counts = g.F.Fs.counts c.extents_of.new.fs } in
    let after : Observed = record { told = g.F.Fs.told c.read_chunks.new.fs; firm = g.F.Fs.firm c.read_chunks.new.fs; depth = g.F.Fs.depth c.read_chunks.new.fs; trail = g.F.Fs.trail c.read_chunks.new.fs; counts = g.F.Fs.counts c.read_chunks.new.fs } in
    reads_then before here after None (unless_lack (error_of c.read_chunks.result)) tt c.in-Ok.ensures.reads c.read_chunks.ensures.reads

pub returns-clause-chunks : goal.returns-clause-chunks
returns-clause-chunks g c told formed =
    let s : FsState = (g.F.Fs.trail c.args.fs.now).present in
    let here : FsState = (g.F.Fs.trail c.extents_of.new.fs).present in
    let same : here ≡ s = (c.in-Ok.ensures.reads.unchanged told).present in
    let blocks : List (List ℕ) = blocks_of c.args.relseg_size (fork_files s (site_at c.args.site.now) c.args.relation Main) in
    let lent : c.deref.result.now ≡ c.in-Ok.extents.items = c.deref.ensures.value in
    let Told : FsState → List Extent → Type 0 = λ st l. AllByRecursion (IsBacked st) l → flat_map (extent_blocks st) l ≡ numbered 0 blocks → IfOk c.read_chunks.result (λ chunks. chunks.items ≡ chunks_of_blocks blocks) in
    let tells : Told here c.deref.result.now = c.read_chunks.ensures.chunks blocks (c.in-Ok.ensures.reads.told ∙ told) in
    subst (λ st. Told st c.in-Ok.extents.items) same (subst (Told here) lent tells) (c.in-Ok.ensures.backed told formed) (c.in-Ok.ensures.blocks told formed)

pub returns-in-Err-clause-unrefused : goal.returns-in-Err-clause-unrefused
returns-in-Err-clause-unrefused g c told formed = decided_as (Unit {0}) (Unit {0}) None c.in-Err.error c.in-Err.ensures.unrefused

pub returns-clause-unrefused : goal.returns-clause-unrefused
returns-clause-unrefused g c told formed =
    let s : FsState = (g.F.Fs.trail c.args.fs.now).present in
    let here : FsState = (g.F.Fs.trail c.extents_of.new.fs).present in
    let same : here ≡ s = (c.in-Ok.ensures.reads.unchanged told).present in
    let lent : c.deref.result.now ≡ c.in-Ok.extents.items = c.deref.ensures.value in
    c.read_chunks.ensures.unrefused (c.in-Ok.ensures.reads.told ∙ told) (subst WellFormed (sym same) formed)
    (subst (AllByRecursion (IsBacked here)) (sym lent) (subst (λ st. AllByRecursion (IsBacked st) c.in-Ok.extents.items) (sym same) (c.in-Ok.ensures.backed told formed)))
