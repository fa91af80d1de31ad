use Rattle.std.proofs.Common.{◌≡◌, sym, ap, arith}
use Rattle.catalog.specs.Cluster.{DatabaseObjects}
use Rattle.relation_map.specs.Pairs.{fault_at, HasNoFault}
use Rattle.relation_map.proofs.Ordered.{alone_next, alone_end, alone_at, none_along, alone_along, fault_along}
use Rattle.relation_map.proofs.building.pass_new_databases.Goals as goal

pub loop-i-preserved : goal.loop-i-preserved
loop-i-preserved c =
    let d : DatabaseObjects = c.in-Some.database.now in
    let same : c.database.inside.oid ≡ d.oid = ap (λ (x : DatabaseObjects). x.oid) c.database.view_is in
    alone_next c.args.old.now (HasNoFault c.args.old.now c.args.new.now) c.args.new.now.databases c.loop-i.i d (sym c.in-Some.ensures) (none_along c.args.old.now c.args.new.now c.database.inside.oid d.oid same c.in-Ok.ensures.matched) c.loop-i.invariant

pub returns-in-Err-clause-fault : goal.returns-in-Err-clause-fault
returns-in-Err-clause-fault c other =
    let d : DatabaseObjects = c.in-Some.database.now in
    let same : c.database.inside.oid ≡ d.oid = ap (λ (x : DatabaseObjects). x.oid) c.database.view_is in
    alone_at c.args.old.now (fault_at c.args.old.now c.args.new.now) c.args.new.now.databases c.loop-i.i d _ (sym c.in-Some.ensures) (alone_along c.args.old.now c.args.new.now c.database.inside.oid d.oid same (c.in-Err.ensures.alone other)) c.loop-i.invariant
    (fault_along c.args.old.now c.args.new.now c.database.inside.oid d.oid same _ (c.in-Err.ensures.fault other))

pub returns-clause-matched : goal.returns-clause-matched
returns-clause-matched c = alone_end c.args.old.now (HasNoFault c.args.old.now c.args.new.now) c.args.new.now.databases c.loop-i.i (omega arith) c.loop-i.invariant
