use Rattle.std.proofs.Common.{◌≡◌, ◌-◌, true, None}
use Rattle.fs_model.specs.State.{FsState}
use Rattle.fs_model.specs.WellFormed.{WellFormed}
use Rattle.std.specs.List.{AllByRecursion}
use Rattle.relation_files.specs.Places.{fork_files}
use Rattle.cluster_meaning.specs.Blocks.{blocks_of, blocks_from, most_segments, numbered}
use Rattle.fs_model.specs.Observed.{Observed, OnlyReads}
use Rattle.fork_read.specs.Extents.{IsBacked, extents_told}
use Rattle.relation_files.specs.Sites.{site_at}
use Rattle.fork_read.proofs.extents.extents_of.Given as goal

abbrev pub invariant-loop-segment : goal.invariant-loop-segment
invariant-loop-segment g l =
    let s : FsState = (g.F.Fs.trail l.fn.fs).present in
    record {
      reads : OnlyReads (record { told = g.F.Fs.told l.fn.fs; firm = g.F.Fs.firm l.fn.fs; depth = g.F.Fs.depth l.fn.fs; trail = g.F.Fs.trail l.fn.fs; counts = g.F.Fs.counts l.fn.fs })
          (record { told = g.F.Fs.told l.fs; firm = g.F.Fs.firm l.fs; depth = g.F.Fs.depth l.fs; trail = g.F.Fs.trail l.fs; counts = g.F.Fs.counts l.fs }) None;
      blocks : g.F.Fs.told l.fn.fs ≡ true → WellFormed s
          → extents_told s l.extents (blocks_from l.relseg_size (fork_files s (site_at l.site) l.relation l.fork) l.segment (most_segments - l.segment)) ≡ numbered 0 (blocks_of l.relseg_size (fork_files s (site_at l.site) l.relation l.fork));
      backed : g.F.Fs.told l.fn.fs ≡ true → WellFormed s → AllByRecursion (IsBacked s) l.extents.items.items;
    }
