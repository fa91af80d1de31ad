use Rattle.std.proofs.Common.{◌-◌, sym, refl, arith}
use Rattle.relation_map.specs.declared.named.Named.{Named}
use Rattle.relation_map.proofs.Looking.{places_first, places_next}
use Rattle.relation_map.proofs.relations.Relations.new.Goals as goal

pub loop-passed-init : goal.loop-passed-init
loop-passed-init c oid = places_first (λ (x : Named). x.oid) c.args.items.items oid c.new-places.result c.len-count.result c.new-places.ensures (omega arith)

pub loop-passed-preserved : goal.loop-passed-preserved
loop-passed-preserved c oid =
    places_next (λ (x : Named). x.oid) c.args.items.items oid c.loop-passed.places c.insert.new.self c.len-count.result c.loop-passed.passed (c.len-count.result - 1 - c.loop-passed.passed) c.in-Some.named.now (omega arith) refl (sym c.in-Some.ensures) c.in_ok-insert-in-Some.ensures (c.loop-passed.invariant oid)
