use Rattle.std.proofs.Common.{◌≡◌, true, drop, Option, None}
use Rattle.fs_model.specs.Names.{Path}
use Rattle.fs_model.specs.WellFormed.{WellFormed}
use Rattle.fs_model.specs.Observed.{OnlyReads}
use Rattle.tree_checks.specs.Findings.{IsFirstAmong}
use Rattle.file_checks.specs.Tablespaces.{placed, IsBadTablespace}
use Rattle.file_checks.proofs.tablespaces.first_bad.Given as goal

abbrev pub invariant-loop-i : goal.invariant-loop-i
invariant-loop-i g l = record {
  reads : OnlyReads (record { told = g.F.Fs.told l.fn.fs; firm = g.F.Fs.firm l.fn.fs; depth = g.F.Fs.depth l.fn.fs; trail = g.F.Fs.trail l.fn.fs; counts = g.F.Fs.counts l.fn.fs })
      (record { told = g.F.Fs.told l.fs; firm = g.F.Fs.firm l.fs; depth = g.F.Fs.depth l.fs; trail = g.F.Fs.trail l.fs; counts = g.F.Fs.counts l.fs }) None;
  rest : g.F.Fs.told l.fn.fs ≡ true → WellFormed (g.F.Fs.trail l.fn.fs).present → (found : Option Path)
      → IsFirstAmong (IsBadTablespace (g.F.Fs.trail l.fn.fs).present.names l.old l.new (placed l.catalog.tablespaces)) (placed (drop l.i l.catalog.tablespaces)) found
      → IsFirstAmong (IsBadTablespace (g.F.Fs.trail l.fn.fs).present.names l.old l.new (placed l.catalog.tablespaces)) (placed l.catalog.tablespaces) found;
}
