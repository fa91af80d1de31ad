use Rattle.std.proofs.Common.{◌≡◌, ◌++◌, true, None}
use Rattle.fs_model.specs.WellFormed.{WellFormed}
use Rattle.fs_model.specs.Observed.{OnlyReads}
use Rattle.relation_map.specs.Equal.{carriage_of}
use Rattle.plan_build.specs.Planned.{fork_items}
use Rattle.plan_build.proofs.Adding.{left_at}
use Rattle.plan_build.proofs.plans.add_fork.Given as goal

abbrev pub invariant-loop-segment : goal.invariant-loop-segment
invariant-loop-segment g l = record {
  reads : OnlyReads (record { told = g.F.Fs.told l.fn.fs; firm = g.F.Fs.firm l.fn.fs; depth = g.F.Fs.depth l.fn.fs; trail = g.F.Fs.trail l.fn.fs; counts = g.F.Fs.counts l.fn.fs })
      (record { told = g.F.Fs.told l.fs; firm = g.F.Fs.firm l.fs; depth = g.F.Fs.depth l.fs; trail = g.F.Fs.trail l.fs; counts = g.F.Fs.counts l.fs }) None;
  added : g.F.Fs.told l.fn.fs ≡ true → WellFormed (g.F.Fs.trail l.fn.fs).present
      → l.items.items ++ left_at (g.F.Fs.trail l.fn.fs).present (carriage_of l.entry) l.fork l.segment
      ≡ l.fn.items.items ++ fork_items (g.F.Fs.trail l.fn.fs).present (carriage_of l.entry) l.fork;
}
