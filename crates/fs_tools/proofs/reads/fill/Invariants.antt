use Rattle.std.proofs.Common.{◌≡◌, ◌≤◌, ◌-◌, true, length, None}
use Rattle.fs_model.specs.Trail.{OthersStay}
use Rattle.fs_model.specs.Observed.{OnlyReads}
use Rattle.fs_tools.specs.Filled.{Filled}
use Rattle.fs_tools.proofs.reads.fill.Given as goal

abbrev pub invariant-loop-count : goal.invariant-loop-count
invariant-loop-count g l = record {
  within : l.filled ≤ length l.into;
  reads : OnlyReads (record { told = g.F.Fs.told l.fn.fs; firm = g.F.Fs.firm l.fn.fs; depth = g.F.Fs.depth l.fn.fs; trail = g.F.Fs.trail l.fn.fs; counts = g.F.Fs.counts l.fn.fs })
      (record { told = g.F.Fs.told l.fs; firm = g.F.Fs.firm l.fs; depth = g.F.Fs.depth l.fs; trail = g.F.Fs.trail l.fs; counts = g.F.Fs.counts l.fs }) None;
  others : OthersStay (g.F.Fs.counts l.fn.fs) (g.F.Fs.counts l.fs) None;
  filled : g.F.Fs.told l.fn.fs ≡ true → Filled (g.F.Fs.trail l.fn.fs).present l.at l.filled l.into;
}

abbrev pub decreases-loop-count : goal.decreases-loop-count
decreases-loop-count g l = length l.initial.into - l.filled
