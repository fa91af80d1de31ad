use Rattle.std.proofs.Common.{◌≡◌, ◌-◌, ℕ, length, sym, refl, arith}
use Rattle.catalog.specs.declared.relations.Table.{Table}
use Rattle.relation_map.proofs.Looking.{places_first, places_next}
use Rattle.relation_map.proofs.named.table_places.Goals as goal

pub loop-passed-init : goal.loop-passed-init
loop-passed-init c oid =
    places_first (λ (t : Table). t.oid) c.args.database.now.tables oid c.new-places.result c.table_count-count.result c.new-places.ensures c.table_count-count.ensures

pub loop-passed-preserved : goal.loop-passed-preserved
loop-passed-preserved c oid =
    places_next (λ (t : Table). t.oid) c.args.database.now.tables oid c.loop-passed.places c.insert.new.self c.table_count-count.result c.loop-passed.passed (c.table_count-count.result - 1 - c.loop-passed.passed) c.in-Some.table.now (omega arith) refl (sym c.in-Some.ensures) c.in_ok-insert-in-Some.ensures (c.loop-passed.invariant oid)
