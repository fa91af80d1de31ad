use Rattle.std.proofs.Common.{◌≡◌, ◌-◌, ℕ, drop, length}
use Rattle.std.specs.List.{find}
use Rattle.std.specs.FinMap.{get}
use Rattle.catalog.specs.Spaces.{table_has}
use Rattle.relation_map.specs.Places.{found_at}
use Rattle.relation_map.proofs.named.table_places.Given as goal

abbrev pub invariant-loop-passed : goal.invariant-loop-passed
invariant-loop-passed l = (oid : ℕ) → found_at l.database.tables (get l.places oid) ≡ find (table_has oid) (drop (l.count - l.passed) l.database.tables)
