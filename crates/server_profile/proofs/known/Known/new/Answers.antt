use Rattle.catalog_server.specs.declared.relation.Relation.{Relation}
use Rattle.server_profile.proofs.Sets.{set_first, set_next}
use Rattle.server_profile.proofs.known.Known.new.Goals as goal

pub loop-i-init : goal.loop-i-init
loop-i-init c = record {
  oids = λ oid. set_first (λ (r : Relation). r.oid) c.args.relations.items oid c.new-oids.result c.new-oids.ensures;
  tablespaces = λ oid. set_first (λ (r : Relation). r.tablespace) c.args.relations.items oid c.new-tablespaces.result c.new-tablespaces.ensures;
}

pub loop-i-preserved : goal.loop-i-preserved
loop-i-preserved c = record {
  oids = λ oid. set_next (λ (r : Relation). r.oid) c.args.relations.items oid c.loop-i.oids c.add_numbers.new.oids c.loop-i.i c.in-Some.relation.now c.deref.result.now c.deref.ensures.value c.in-Some.ensures.lookup.3.0 c.in-Some.ensures.lookup.1 c.in_ok-add_numbers-in-Some.ensures.oids (c.loop-i.invariant.oids oid);
  tablespaces = λ oid. set_next (λ (r : Relation). r.tablespace) c.args.relations.items oid c.loop-i.tablespaces c.add_numbers.new.tablespaces c.loop-i.i c.in-Some.relation.now c.deref.result.now c.deref.ensures.value c.in-Some.ensures.lookup.3.0 c.in-Some.ensures.lookup.1 c.in_ok-add_numbers-in-Some.ensures.tablespaces (c.loop-i.invariant.tablespaces oid);
}
