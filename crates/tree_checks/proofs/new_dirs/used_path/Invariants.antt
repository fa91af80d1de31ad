use Rattle.std.proofs.Common.{◌≡◌, true, take, None}
use Rattle.fs_model.specs.WellFormed.{WellFormed}
use Rattle.fs_model.specs.Observed.{OnlyReads}
use Rattle.tree_checks.specs.Findings.{IsLeast}
use Rattle.tree_checks.specs.NewDirs.{IsUsedIn, new_dirs}
use Rattle.tree_checks.proofs.new_dirs.used_path.Given as goal

abbrev pub invariant-loop-dir : goal.invariant-loop-dir
invariant-loop-dir g l = record {
  reads : OnlyReads (record { told = g.F.Fs.told l.fn.fs; firm = g.F.Fs.firm l.fn.fs; depth = g.F.Fs.depth l.fn.fs; trail = g.F.Fs.trail l.fn.fs; counts = g.F.Fs.counts l.fn.fs })
      (record { told = g.F.Fs.told l.fs; firm = g.F.Fs.firm l.fs; depth = g.F.Fs.depth l.fs; trail = g.F.Fs.trail l.fs; counts = g.F.Fs.counts l.fs }) None;
  items : l.dir-items ≡ new_dirs;
  least : g.F.Fs.told l.fn.fs ≡ true → WellFormed (g.F.Fs.trail l.fn.fs).present → IsLeast (IsUsedIn (g.F.Fs.trail l.fn.fs).present.names l.root (take l.dir-index l.dir-items)) l.least;
}
