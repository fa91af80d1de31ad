use Rattle.std.proofs.Common.{◌∙◌, sym, ap}
use Rattle.std.specs.Prelude.{is_some}
use Rattle.relation_map.specs.Pairs.{fault_among, lesser}
use Rattle.relation_map.proofs.Least.{least_next}
use Rattle.relation_map.proofs.faults.least_fault.Goals as goal

pub loop-i-preserved : goal.loop-i-preserved
loop-i-preserved c =
    least_next (fault_among c.args.database c.args.old.now c.args.new.now) c.args.relations.now c.loop-i.i c.in-Some.named.now c.loop-i.least c.lesser-least.result _ (sym c.in-Some.ensures)
    (c.lesser-least.ensures ∙ ap (lesser c.loop-i.least c.in-Some.named.now.oid) (c.is_some.ensures ∙ ap is_some c.fault_at-fault.ensures)) c.loop-i.invariant
