use Rattle.std.proofs.Common.{◌≡◌, ℕ, List, drop}
use Rattle.std.specs.List.{find}
use Rattle.catalog.specs.declared.owners.Tablespace.{Tablespace}
use Rattle.crash_safety.specs.Places.{links_at}
use Rattle.file_checks.specs.Tablespaces.{placed, is_no_link}
use Rattle.file_checks.specs.Kept.{AreLinks}
use Rattle.file_checks.proofs.tablespaces.first_stray.Given as goal

abbrev pub invariant-loop-name : goal.invariant-loop-name
invariant-loop-name l = (old : List (List ℕ)) (tablespaces : List Tablespace) → l.dir ≡ links_at old → AreLinks old tablespaces l.links → find (is_no_link (placed tablespaces)) l.names ≡ find (is_no_link (placed tablespaces)) (drop l.name-index l.names)
