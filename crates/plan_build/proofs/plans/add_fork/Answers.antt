use Rattle.std.proofs.Common.{◌∙◌, Bool, None, Some, sym, subst}
use Rattle.fs_model.specs.State.{FsState}
use Rattle.fs_model.specs.Trail.{unless_lack}
use Rattle.fs_model.specs.WellFormed.{WellFormed}
use Rattle.fs_model.proofs.Observing.{no_reads, reads_then}
use Rattle.relation_map.specs.Equal.{carriage_of}
use Rattle.plan_build.specs.Planned.{AddsSegment}
use Rattle.plan_build.proofs.Adding.{at_start, goes_on, ends_here}
use Rattle.plan_build.proofs.plans.add_fork.Goals as goal

pub loop-segment-init : goal.loop-segment-init
loop-segment-init g c = record {
  reads = no_reads _;
  added = λ told formed. at_start (g.F.Fs.trail c.args.fs.now).present (carriage_of c.args.entry.now) c.args.fork c.args.items.now.items;
}

pub returns-in-Ok-false-clause-reads : goal.returns-in-Ok-false-clause-reads
returns-in-Ok-false-clause-reads g c = reads_then _ _ _ None None tt c.loop-segment.invariant.reads c.in-Ok-false.ensures.reads

pub returns-in-Ok-false-clause-adds : goal.returns-in-Ok-false-clause-adds
returns-in-Ok-false-clause-adds g c told formed =
    let entry = carriage_of c.args.entry.now in
    let segment = c.loop-segment.segment in
    let same = (c.loop-segment.invariant.reads.unchanged told).present in
    let Adds : FsState → Bool → Type 0 = λ s more. AddsSegment s entry c.args.fork segment c.loop-segment.items.items c.add_segment.new.items.items more in
    let adds = subst (Adds (g.F.Fs.trail c.args.fs.now).present) c.in-Ok-false.field-0-test
    (subst (λ s. Adds s c.in-Ok-false.field-0) same (c.in-Ok-false.ensures.adds (c.loop-segment.invariant.reads.told ∙ told) (subst WellFormed (sym same) formed))) in
    ends_here (g.F.Fs.trail c.args.fs.now).present entry c.args.fork c.args.items.now.items c.loop-segment.items.items c.add_segment.new.items.items segment c.loop-segment-test.true adds (c.loop-segment.invariant.added told formed)

pub returns-in-Err-clause-reads : goal.returns-in-Err-clause-reads
returns-in-Err-clause-reads g c = reads_then _ _ _ None (unless_lack (Some c.in-Err.error)) tt c.loop-segment.invariant.reads c.in-Err.ensures.reads

pub loop-segment-preserved : goal.loop-segment-preserved
loop-segment-preserved g c = record {
  reads = reads_then _ _ _ None None tt c.loop-segment.invariant.reads c.in-Ok-true.ensures.reads;
  added = λ told formed.
      let entry = carriage_of c.args.entry.now in
      let segment = c.loop-segment.segment in
      let same = (c.loop-segment.invariant.reads.unchanged told).present in
      let Adds : FsState → Bool → Type 0 = λ s more. AddsSegment s entry c.args.fork segment c.loop-segment.items.items c.add_segment.new.items.items more in
      let adds = subst (Adds (g.F.Fs.trail c.args.fs.now).present) c.in-Ok-true.field-0-test
      (subst (λ s. Adds s c.in-Ok-true.field-0) same (c.in-Ok-true.ensures.adds (c.loop-segment.invariant.reads.told ∙ told) (subst WellFormed (sym same) formed))) in
      goes_on (g.F.Fs.trail c.args.fs.now).present entry c.args.fork c.args.items.now.items c.loop-segment.items.items c.add_segment.new.items.items segment c.loop-segment-test.true adds (c.loop-segment.invariant.added told formed);
}
