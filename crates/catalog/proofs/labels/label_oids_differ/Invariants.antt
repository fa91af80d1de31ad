use Rattle.std.proofs.Common.{◌≡◌, length}
use Rattle.std.specs.Prelude.{nat_eq}
use Rattle.catalog.specs.Lists.{are_distinct}
use Rattle.catalog.specs.declared.enums.Label.{Label}
use Rattle.catalog.proofs.labels.label_oids_differ.Given as goal

abbrev pub invariant-loop-first : goal.invariant-loop-first
invariant-loop-first l = are_distinct (λ (a b : Label). nat_eq a.oid b.oid) l.rest ≡ are_distinct (λ (a b : Label). nat_eq a.oid b.oid) l.fn.labels

abbrev pub decreases-loop-first : goal.decreases-loop-first
decreases-loop-first l = length l.rest
