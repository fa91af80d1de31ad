use Rattle.std.proofs.Common.{◌≡◌, ◌-◌, ℕ, drop, length}
use Rattle.std.specs.List.{find}
use Rattle.std.specs.FinMap.{get}
use Rattle.relation_map.specs.Named.{named_has}
use Rattle.relation_map.specs.Places.{found_at}
use Rattle.relation_map.proofs.relations.Relations.new.Given as goal

abbrev pub invariant-loop-passed : goal.invariant-loop-passed
invariant-loop-passed l = (oid : ℕ) → found_at l.items.items (get l.places oid) ≡ find (named_has oid) (drop (l.count - l.passed) l.items.items)
