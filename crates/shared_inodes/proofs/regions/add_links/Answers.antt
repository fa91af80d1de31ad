use Rattle.std.proofs.Common.{◌∙◌, Some, None, ap, subst, sym}
use Rattle.crash_safety.specs.Places.{target_at}
use Rattle.fs_model.specs.Trail.{unless_lack}
use Rattle.fs_model.specs.WellFormed.{WellFormed}
use Rattle.fs_model.proofs.Observing.{reads_then}
use Rattle.fs_tools.proofs.Answering.{lacked}
use Rattle.shared_inodes.proofs.Linking.{linked_next}
use Rattle.shared_inodes.proofs.regions.add_links.Goals as goal

pub returns-in_err-add-in-Ok-clause-reads : goal.returns-in_err-add-in-Ok-clause-reads
returns-in_err-add-in-Ok-clause-reads g c =
    lacked _ _ c.from_residual.result c.from_residual.ensures.1 (reads_then _ _ _ None None tt c.loop-name.invariant.reads c.in-Ok.ensures.reads)

pub returns-in-Err-clause-reads : goal.returns-in-Err-clause-reads
returns-in-Err-clause-reads g c = reads_then _ _ _ None (unless_lack (Some c.in-Err.error)) tt c.loop-name.invariant.reads c.in-Err.ensures.reads

pub loop-name-preserved : goal.loop-name-preserved
loop-name-preserved g c = record {
  reads = reads_then _ _ _ None None tt c.loop-name.invariant.reads c.in-Ok.ensures.reads;
  found = λ told formed.
      let s = (g.F.Fs.trail c.args.fs.now).present in
      let same = (c.loop-name.invariant.reads.unchanged told).present in
      linked_next (target_at s.names c.args.dir.now) c.args.names.now c.loop-name.name-index c.name-item.result c.loop-name-test.true c.name-item.is c.args.targets.now.items c.loop-name.targets.items c.add.new.paths.items c.in-Ok.target
      (c.loop-name.invariant.found told formed)
      (c.in-Ok.ensures.shows (c.loop-name.invariant.reads.told ∙ told) (subst WellFormed (sym same) formed) ∙ ap (λ t. target_at t.names c.args.dir.now c.name-item.result) same) c.in_ok-add-in-Ok.ensures;
}
