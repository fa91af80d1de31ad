use Rattle.std.proofs.Common.{◌≡◌, length}
use Rattle.catalog.proofs.same.same_items.Given as goal

abbrev pub invariant-loop-first : goal.invariant-loop-first
invariant-loop-first g l = (l.left ≡ l.right → l.a ≡ l.b) × (l.a ≡ l.b → l.left ≡ l.right)

abbrev pub decreases-loop-first : goal.decreases-loop-first
decreases-loop-first g l = length l.left
