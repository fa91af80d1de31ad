use Rattle.std.proofs.Common.{◌∙◌, Some, None, sym, subst}
use Rattle.fs_model.specs.Trail.{unless_lack}
use Rattle.fs_model.proofs.Observing.{reads_then}
use Rattle.shared_inodes.specs.SharedInodes.{IsSharedNumber}
use Rattle.verdicts.specs.Verdicts.{IsVerdict}
use Rattle.verdicts.proofs.Judged.{disabled_is}
use Rattle.verdicts.proofs.verdict.verdict_without.Goals as goal

pub returns-in-Ok-clause-reads : goal.returns-in-Ok-clause-reads
returns-in-Ok-clause-reads g c = reads_then _ _ _ None None tt c.in-Ok-true.ensures.reads c.in-Ok.ensures.reads

pub returns-in-Ok-clause-exact : goal.returns-in-Ok-clause-exact
returns-in-Ok-clause-exact g c told formed unfinished gone =
    let s = (g.F.Fs.trail c.args.fs.now).present in
    let same = (c.in-Ok-true.ensures.reads.unchanged told).present in
    subst (IsVerdict s c.args.old.now c.args.new.now) (sym c.disabled.ensures)
    (disabled_is s c.args.old.now c.args.new.now c.in-Ok.count (record {
      unfinished = unfinished;
      control = gone;
      disabled = sym (c.in-Ok-true.ensures.finds told) ∙ c.in-Ok-true.field-0-test;
      shared = subst (λ t. IsSharedNumber t c.args.old.now c.args.new.now c.in-Ok.count) same (c.in-Ok.ensures.counts (c.in-Ok-true.ensures.reads.told ∙ told));
    }))

pub returns-in-Err-shared_count-clause-reads : goal.returns-in-Err-shared_count-clause-reads
returns-in-Err-shared_count-clause-reads g c = reads_then _ _ _ None (unless_lack (Some c.in-Err-shared_count.error)) tt c.in-Ok-true.ensures.reads c.in-Err-shared_count.ensures.reads
