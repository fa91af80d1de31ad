use Rattle.std.proofs.Common.{◌≡◌, true, drop, Option, None}
use Rattle.fs_model.specs.Names.{Path}
use Rattle.fs_model.specs.WellFormed.{WellFormed}
use Rattle.fs_model.specs.Observed.{OnlyReads}
use Rattle.relation_files.specs.Sites.{site_at}
use Rattle.tree_checks.specs.Findings.{IsFirstAmong}
use Rattle.file_checks.specs.Devices.{IsOtherDevice, ArePassed}
use Rattle.file_checks.proofs.devices.first_device.Given as goal

abbrev pub invariant-loop-relation : goal.invariant-loop-relation
invariant-loop-relation g l = record {
  reads : OnlyReads (record { told = g.F.Fs.told l.fn.fs; firm = g.F.Fs.firm l.fn.fs; depth = g.F.Fs.depth l.fn.fs; trail = g.F.Fs.trail l.fn.fs; counts = g.F.Fs.counts l.fn.fs })
      (record { told = g.F.Fs.told l.fs; firm = g.F.Fs.firm l.fs; depth = g.F.Fs.depth l.fs; trail = g.F.Fs.trail l.fs; counts = g.F.Fs.counts l.fs }) None;
  passed : g.F.Fs.told l.fn.fs ≡ true → WellFormed (g.F.Fs.trail l.fn.fs).present → ArePassed (g.F.Fs.trail l.fn.fs).present (site_at l.old) (site_at l.new) l.passed;
  rest : g.F.Fs.told l.fn.fs ≡ true → WellFormed (g.F.Fs.trail l.fn.fs).present → (found : Option Path) → IsFirstAmong (IsOtherDevice (g.F.Fs.trail l.fn.fs).present (site_at l.old) (site_at l.new)) (drop l.relation-index l.relations) found
      → IsFirstAmong (IsOtherDevice (g.F.Fs.trail l.fn.fs).present (site_at l.old) (site_at l.new)) l.relations found;
}
