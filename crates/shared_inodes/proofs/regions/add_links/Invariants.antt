use Rattle.std.proofs.Common.{◌≡◌, ◌++◌, true, take, None}
use Rattle.std.specs.List.{filter_map}
use Rattle.crash_safety.specs.Places.{target_at}
use Rattle.fs_model.specs.WellFormed.{WellFormed}
use Rattle.fs_model.specs.Observed.{OnlyReads}
use Rattle.shared_inodes.proofs.regions.add_links.Given as goal

abbrev pub invariant-loop-name : goal.invariant-loop-name
invariant-loop-name g l = record {
  reads : OnlyReads (record { told = g.F.Fs.told l.fn.fs; firm = g.F.Fs.firm l.fn.fs; depth = g.F.Fs.depth l.fn.fs; trail = g.F.Fs.trail l.fn.fs; counts = g.F.Fs.counts l.fn.fs })
      (record { told = g.F.Fs.told l.fs; firm = g.F.Fs.firm l.fs; depth = g.F.Fs.depth l.fs; trail = g.F.Fs.trail l.fs; counts = g.F.Fs.counts l.fs }) None;
  found : g.F.Fs.told l.fn.fs ≡ true → WellFormed (g.F.Fs.trail l.fn.fs).present → l.targets.items ≡ l.fn.targets.items ++ filter_map (target_at (g.F.Fs.trail l.fn.fs).present.names l.dir) (take l.name-index l.names);
}
