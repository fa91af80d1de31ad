use Rattle.std.proofs.Common.{◌≡◌, ◌*◌, true, None, take}
use Rattle.fs_model.specs.State.{FsState}
use Rattle.heap_page.specs.declared.layout.TheConstants.{PAGE_SIZE}
use Rattle.cluster_meaning.specs.Blocks.{numbered}
use Rattle.cluster_meaning.specs.Meaning.{Reading}
use Rattle.block_rows.specs.Sources.{reading_of}
use Rattle.block_rows.specs.Rows.{AddsRows}
use Rattle.fs_model.specs.Observed.{Observed, OnlyReads}
use Rattle.fork_read.specs.Extents.{IsBacked, file_blocks}
use Rattle.fork_scan.proofs.scan.add_extent_rows.Given as goal

abbrev pub invariant-loop-piece : goal.invariant-loop-piece
invariant-loop-piece g l =
    let s : FsState = (g.F.Fs.trail l.fn.fs).present in
    let reading : Reading = reading_of l.reader.source (g.L.Lookup.fates l.reader.look.now) (g.L.Lookup.updaters l.reader.look.now) in
    record {
      reads : OnlyReads (record { told = g.F.Fs.told l.fn.fs; firm = g.F.Fs.firm l.fn.fs; depth = g.F.Fs.depth l.fn.fs; trail = g.F.Fs.trail l.fn.fs; counts = g.F.Fs.counts l.fn.fs }) (record { told = g.F.Fs.told l.fs; firm = g.F.Fs.firm l.fs; depth = g.F.Fs.depth l.fs; trail = g.F.Fs.trail l.fs; counts = g.F.Fs.counts l.fs }) None;
      rows : g.F.Fs.told l.fn.fs ≡ true → IsBacked s l.extent → AddsRows reading l.reader.snapshot.now (numbered l.extent.first (take (l.piece * 128) (take l.extent.blocks (file_blocks s l.extent.path)))) l.fn.rows l.rows;
    }
