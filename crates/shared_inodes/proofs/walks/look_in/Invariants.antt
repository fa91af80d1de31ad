use Rattle.std.proofs.Common.{◌≡◌, List, true, take, None}
use Rattle.fs_model.specs.declared.node.Stat.{Stat}
use Rattle.fs_model.specs.Names.{Path}
use Rattle.fs_model.specs.WellFormed.{WellFormed}
use Rattle.fs_model.specs.Observed.{OnlyReads}
use Rattle.fs_tools.specs.Walked.{TakesAll}
use Rattle.shared_inodes.specs.Regions.{AreInTurn, IsWalkIn}
use Rattle.shared_inodes.proofs.walks.look_in.Given as goal

abbrev pub invariant-loop-top : goal.invariant-loop-top
invariant-loop-top g l = record {
  reads : OnlyReads (record { told = g.F.Fs.told l.fn.fs; firm = g.F.Fs.firm l.fn.fs; depth = g.F.Fs.depth l.fn.fs; trail = g.F.Fs.trail l.fn.fs; counts = g.F.Fs.counts l.fn.fs })
      (record { told = g.F.Fs.told l.fs; firm = g.F.Fs.firm l.fs; depth = g.F.Fs.depth l.fs; trail = g.F.Fs.trail l.fs; counts = g.F.Fs.counts l.fs }) None;
  walked : g.F.Fs.told l.fn.fs ≡ true → WellFormed (g.F.Fs.trail l.fn.fs).present → AreInTurn l.tops
      → (items : List (Path × Stat)) × TakesAll g.L.Look.takes l.fn.look items l.look × IsWalkIn (g.F.Fs.trail l.fn.fs).present (take l.top-index l.tops) items;
}
