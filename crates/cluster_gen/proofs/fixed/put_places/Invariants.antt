use Rattle.std.proofs.Common.{◌≡◌, ◌++◌, drop, map}
use Rattle.cluster_gen.specs.Parts.{parts_at}
use Rattle.cluster_gen.proofs.fixed.put_places.Given as goal

abbrev pub invariant-loop-names : goal.invariant-loop-names
invariant-loop-names l = l.parts.items ++ parts_at l.cluster (map (λ place. (map (λ name. name.now) place.0.now, place.1)) (drop l.names-index l.places)) ≡ l.fn.parts.items ++ parts_at l.cluster (map (λ place. (map (λ name. name.now) place.0.now, place.1)) l.places)
