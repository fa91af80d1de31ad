use Rattle.std.proofs.Common.{◌≡◌, ◌++◌, true, None, take, flat_map}
use Rattle.std.specs.List.{AllByRecursion}
use Rattle.fs_model.specs.State.{FsState}
use Rattle.fs_model.specs.Observed.{Observed, OnlyReads}
use Rattle.fork_read.specs.Extents.{IsBacked, extent_blocks}
use Rattle.fork_scan.specs.Scans.{chunks_at}
use Rattle.fork_scan.proofs.scan.add_all_chunks.Given as goal

abbrev pub invariant-loop-extent : goal.invariant-loop-extent
invariant-loop-extent g l =
    let s : FsState = (g.F.Fs.trail l.fn.fs).present in
    record {
      reads : OnlyReads (record { told = g.F.Fs.told l.fn.fs; firm = g.F.Fs.firm l.fn.fs; depth = g.F.Fs.depth l.fn.fs; trail = g.F.Fs.trail l.fn.fs; counts = g.F.Fs.counts l.fn.fs }) (record { told = g.F.Fs.told l.fs; firm = g.F.Fs.firm l.fs; depth = g.F.Fs.depth l.fs; trail = g.F.Fs.trail l.fs; counts = g.F.Fs.counts l.fs }) None;
      chunks : g.F.Fs.told l.fn.fs ≡ true → AllByRecursion (IsBacked s) l.extents → l.chunks.items ≡ l.fn.chunks.items ++ flat_map chunks_at (flat_map (extent_blocks s) (take l.extent-index l.extents));
    }
