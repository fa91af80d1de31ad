use Rattle.std.proofs.Common.{◌≡◌, true, take, None}
use Rattle.fs_model.specs.WellFormed.{WellFormed}
use Rattle.fs_model.specs.Observed.{OnlyReads}
use Rattle.file_checks.specs.Kept.{AreFirstBad}
use Rattle.file_checks.proofs.files.bad_names.Given as goal

abbrev pub invariant-loop-name : goal.invariant-loop-name
invariant-loop-name g l = record {
  reads : OnlyReads (record { told = g.F.Fs.told l.fn.fs; firm = g.F.Fs.firm l.fn.fs; depth = g.F.Fs.depth l.fn.fs; trail = g.F.Fs.trail l.fn.fs; counts = g.F.Fs.counts l.fn.fs })
      (record { told = g.F.Fs.told l.fs; firm = g.F.Fs.firm l.fs; depth = g.F.Fs.depth l.fs; trail = g.F.Fs.trail l.fs; counts = g.F.Fs.counts l.fs }) None;
  bad : g.F.Fs.told l.fn.fs ≡ true → WellFormed (g.F.Fs.trail l.fn.fs).present → AreFirstBad (g.F.Fs.trail l.fn.fs).present.names l.dir (take l.name-index l.names) l.bad;
}
