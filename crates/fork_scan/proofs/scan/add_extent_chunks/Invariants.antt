use Rattle.std.proofs.Common.{◌≡◌, ◌++◌, ◌*◌, true, None, take, flat_map}
use Rattle.fs_model.specs.State.{FsState}
use Rattle.cluster_meaning.specs.Blocks.{numbered}
use Rattle.fs_model.specs.Observed.{Observed, OnlyReads}
use Rattle.fork_read.specs.Extents.{IsBacked, file_blocks}
use Rattle.fork_scan.specs.Scans.{chunks_at}
use Rattle.fork_scan.proofs.scan.add_extent_chunks.Given as goal

abbrev pub invariant-loop-piece : goal.invariant-loop-piece
invariant-loop-piece g l =
    let s : FsState = (g.F.Fs.trail l.fn.fs).present in
    record {
      reads : OnlyReads (record { told = g.F.Fs.told l.fn.fs; firm = g.F.Fs.firm l.fn.fs; depth = g.F.Fs.depth l.fn.fs; trail = g.F.Fs.trail l.fn.fs; counts = g.F.Fs.counts l.fn.fs }) (record { told = g.F.Fs.told l.fs; firm = g.F.Fs.firm l.fs; depth = g.F.Fs.depth l.fs; trail = g.F.Fs.trail l.fs; counts = g.F.Fs.counts l.fs }) None;
      chunks : g.F.Fs.told l.fn.fs ≡ true → IsBacked s l.extent → l.chunks.items ≡ l.fn.chunks.items ++ flat_map chunks_at (numbered l.extent.first (take (l.piece * 128) (take l.extent.blocks (file_blocks s l.extent.path))));
    }
