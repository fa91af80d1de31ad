use Rattle.std.proofs.Common.{◌∙◌, None, Some, sym, subst}
use Rattle.fs_model.specs.Trail.{unless_lack}
use Rattle.fs_model.specs.WellFormed.{WellFormed}
use Rattle.fs_model.proofs.Observing.{no_reads, reads_then}
use Rattle.relation_map.specs.Equal.{carriage_of}
use Rattle.plan_build.specs.Planned.{AddsRelation}
use Rattle.plan_build.proofs.Adding.{at_first, next_entry, last_entry}
use Rattle.plan_build.proofs.plans.add_entries.Goals as goal

pub loop-entry-init : goal.loop-entry-init
loop-entry-init g c = record {
  reads = no_reads _;
  added = λ told formed. at_first (g.F.Fs.trail c.args.fs.now).present c.args.entries.now c.args.items.now.items;
}

pub returns-in-Err-clause-reads : goal.returns-in-Err-clause-reads
returns-in-Err-clause-reads g c = reads_then _ _ _ None (unless_lack (Some c.in-Err.error)) tt c.loop-entry.invariant.reads c.in-Err.ensures.reads

pub loop-entry-preserved : goal.loop-entry-preserved
loop-entry-preserved g c = record {
  reads = reads_then _ _ _ None None tt c.loop-entry.invariant.reads c.in-Ok.ensures.reads;
  added = λ told formed.
      let same = (c.loop-entry.invariant.reads.unchanged told).present in
      let adds = subst (λ s. AddsRelation s (carriage_of c.entry-item.result) c.loop-entry.items.items c.add_entry.new.items.items) same
      (c.in-Ok.ensures.adds (c.loop-entry.invariant.reads.told ∙ told) (subst WellFormed (sym same) formed)) in
      next_entry (g.F.Fs.trail c.args.fs.now).present c.args.entries.now c.loop-entry.entry-index c.entry-item.result c.args.items.now.items c.loop-entry.items.items c.add_entry.new.items.items c.loop-entry-test.true c.entry-item.is adds
      (c.loop-entry.invariant.added told formed);
}

pub returns-clause-adds : goal.returns-clause-adds
returns-clause-adds g c told formed =
    last_entry (g.F.Fs.trail c.args.fs.now).present c.args.entries.now c.loop-entry.entry-index c.args.items.now.items c.loop-entry.items.items c.loop-entry-test.false (c.loop-entry.invariant.added told formed)
