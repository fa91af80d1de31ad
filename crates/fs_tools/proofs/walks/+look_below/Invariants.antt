use Rattle.std.proofs.Common.{◌≡◌, ◌-◌, List, true, take, length, None}
use Rattle.fs_model.specs.declared.node.Stat.{Stat}
use Rattle.fs_model.specs.Names.{Path}
use Rattle.fs_model.specs.WellFormed.{IsTree}
use Rattle.fs_model.specs.Trail.{OthersStay}
use Rattle.fs_model.specs.Observed.{OnlyReads}
use Rattle.fs_tools.specs.Walked.{TakesAll, IsWalkSoFar}
use Rattle.fs_tools.proofs.walks.+look_below.Given as goal

abbrev pub invariant-loop-path : goal.invariant-loop-path
invariant-loop-path g l = record {
  reads : OnlyReads (record { told = g.F.Fs.told l.fn.fs; firm = g.F.Fs.firm l.fn.fs; depth = g.F.Fs.depth l.fn.fs; trail = g.F.Fs.trail l.fn.fs; counts = g.F.Fs.counts l.fn.fs })
      (record { told = g.F.Fs.told l.fs; firm = g.F.Fs.firm l.fs; depth = g.F.Fs.depth l.fs; trail = g.F.Fs.trail l.fs; counts = g.F.Fs.counts l.fs }) None;
  others : OthersStay (g.F.Fs.counts l.fn.fs) (g.F.Fs.counts l.fs) None;
  walked : g.F.Fs.told l.fn.fs ≡ true → IsTree (g.F.Fs.trail l.fn.fs).present.names
      → (items : List (Path × Stat)) × TakesAll g.L.Look.takes l.fn.look items l.look × IsWalkSoFar (g.F.Fs.trail l.fn.fs).present l.at (take l.path-index l.path-items) items;
}

abbrev pub decreases-look_below : goal.decreases-look_below
decreases-look_below g l = g.F.Fs.depth l.fs.now - length l.at.now
