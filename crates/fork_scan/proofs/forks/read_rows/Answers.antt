use Rattle.std.proofs.Common.{◌≡◌, ◌∙◌, ◌++◌, ℕ, List, [], None, Result, IfOk, flat_map, subst, sym, ap, refl}
use Rattle.std.specs.List.{AllByRecursion}
use Rattle.fs_model.specs.State.{FsState}
use Rattle.fs_model.specs.Trail.{error_of, unless_lack}
use Rattle.fs_model.specs.Observed.{Observed}
use Rattle.fs_model.proofs.Observing.{no_reads, reads_then}
use Rattle.relation_files.specs.Places.{fork_files}
use Rattle.relation_files.specs.Sites.{site_at}
use Rattle.relation_files.specs.declared.relation.Fork.TheVariants.{Main}
use Rattle.cluster_meaning.specs.Blocks.{blocks_of, numbered}
use Rattle.cluster_meaning.specs.Chunks.{chunks_in, chunks_of_blocks}
use Rattle.cluster_meaning.specs.Meaning.{Reading}
use Rattle.block_rows.specs.declared.rows.Rows.{Rows}
use Rattle.block_rows.specs.Sources.{reading_of}
use Rattle.block_rows.specs.Rows.{AddsRows, TellsRows}
use Rattle.block_rows.proofs.Adding.{tells_rows}
use Rattle.toast_read.specs.declared.chunk.Chunk.{Chunk}
use Rattle.fork_read.specs.declared.extents.Extent.{Extent}
use Rattle.fork_read.specs.Extents.{IsBacked, extent_blocks}
use Rattle.fork_scan.specs.Scans.{chunks_at}
use Rattle.fork_scan.proofs.Steps.{lacked, chunks_of_numbered, lack_free}
use Rattle.fork_scan.proofs.forks.read_rows.Goals as goal

pub returns-in_err-buffer-clause-reads : goal.returns-in_err-buffer-clause-reads
returns-in_err-buffer-clause-reads g c =
    let before : Observed = record { told = g.F.Fs.told c.args.fs.now; firm = g.F.Fs.firm c.args.fs.now; depth = g.F.Fs.depth c.args.fs.now; trail = g.F.Fs.trail c.args.fs.now; counts = g.F.Fs.counts c.args.fs.now } in
    lacked before before c.from_residual.result c.from_residual.ensures.1 (no_reads before)

pub returns-in-Ok-clause-rows : goal.returns-in-Ok-clause-rows
returns-in-Ok-clause-rows g c blocks told backed all =
    let s : FsState = (g.F.Fs.trail c.args.fs.now).present in
    let reading : Reading = reading_of c.args.reader.now.source (g.L.Lookup.fates c.args.reader.now.look.now) (g.L.Lookup.updaters c.args.reader.now.look.now) in
    let snapshot = c.args.reader.now.snapshot.now in
    let none : Rows = record { rows = c.new.result; unread = c.new-2.result; unknown = 0 } in
    let rows : Rows = c.add_rows.new.rows in
    tells_rows reading snapshot blocks none rows c.new.ensures.items c.new-2.ensures.items refl
    (subst (λ (l : List (ℕ × List ℕ)). AddsRows reading snapshot l none rows) all (c.in-Ok.ensures.rows told backed))

pub returns-in_err-buffer-clause-unrefused : goal.returns-in_err-buffer-clause-unrefused
returns-in_err-buffer-clause-unrefused g c told formed backed = lack_free None c.from_residual.result c.from_residual.ensures.1
