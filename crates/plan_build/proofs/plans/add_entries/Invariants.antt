use Rattle.std.proofs.Common.{◌≡◌, true, None}
use Rattle.fs_model.specs.WellFormed.{WellFormed}
use Rattle.fs_model.specs.Observed.{OnlyReads}
use Rattle.plan_build.proofs.Adding.{IsAtEntry}
use Rattle.plan_build.proofs.plans.add_entries.Given as goal

abbrev pub invariant-loop-entry : goal.invariant-loop-entry
invariant-loop-entry g l = record {
  reads : OnlyReads (record { told = g.F.Fs.told l.fn.fs; firm = g.F.Fs.firm l.fn.fs; depth = g.F.Fs.depth l.fn.fs; trail = g.F.Fs.trail l.fn.fs; counts = g.F.Fs.counts l.fn.fs })
      (record { told = g.F.Fs.told l.fs; firm = g.F.Fs.firm l.fs; depth = g.F.Fs.depth l.fs; trail = g.F.Fs.trail l.fs; counts = g.F.Fs.counts l.fs }) None;
  added : g.F.Fs.told l.fn.fs ≡ true → WellFormed (g.F.Fs.trail l.fn.fs).present → IsAtEntry (g.F.Fs.trail l.fn.fs).present l.entries l.entry-index l.fn.items.items l.items.items;
}
