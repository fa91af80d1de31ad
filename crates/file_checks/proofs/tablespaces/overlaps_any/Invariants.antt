use Rattle.std.proofs.Common.{◌≡◌, false, take}
use Rattle.std.specs.List.{list_any}
use Rattle.file_checks.specs.Tablespaces.{placed, overlaps_other}
use Rattle.file_checks.proofs.tablespaces.overlaps_any.Given as goal

abbrev pub invariant-loop-i : goal.invariant-loop-i
invariant-loop-i l = list_any (overlaps_other l.tablespace) (placed (take l.i l.catalog.tablespaces)) ≡ false
