use Rattle.std.proofs.Common.{◌≡◌, true, drop, None}
use Rattle.std.specs.List.{find}
use Rattle.fs_model.specs.WellFormed.{WellFormed}
use Rattle.fs_model.specs.Observed.{OnlyReads}
use Rattle.tree_checks.specs.MissingDirs.{is_no_file_in}
use Rattle.tree_checks.proofs.missing.has_no_file.Given as goal

abbrev pub invariant-loop-name : goal.invariant-loop-name
invariant-loop-name g l = record {
  reads : OnlyReads (record { told = g.F.Fs.told l.fn.fs; firm = g.F.Fs.firm l.fn.fs; depth = g.F.Fs.depth l.fn.fs; trail = g.F.Fs.trail l.fn.fs; counts = g.F.Fs.counts l.fn.fs })
      (record { told = g.F.Fs.told l.fs; firm = g.F.Fs.firm l.fs; depth = g.F.Fs.depth l.fs; trail = g.F.Fs.trail l.fs; counts = g.F.Fs.counts l.fs }) None;
  rest : g.F.Fs.told l.fn.fs ≡ true → WellFormed (g.F.Fs.trail l.fn.fs).present → find (is_no_file_in (g.F.Fs.trail l.fn.fs).present.names l.dir) l.names ≡ find (is_no_file_in (g.F.Fs.trail l.fn.fs).present.names l.dir) (drop l.name-index l.names);
}
