use Rattle.std.proofs.Common.{take}
use Rattle.file_checks.specs.Kept.{AreLinks}
use Rattle.file_checks.proofs.tablespaces.links_in.Given as goal

abbrev pub invariant-loop-i : goal.invariant-loop-i
invariant-loop-i l = AreLinks l.old (take l.i l.catalog.tablespaces) l.links
