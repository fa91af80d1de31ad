use Rattle.std.proofs.Common.{◌∙◌, Some, None, sym, subst}
use Rattle.std.specs.Prelude.{IfOk}
use Rattle.fs_model.specs.Trail.{error_of, unless_lack}
use Rattle.fs_model.specs.WellFormed.{WellFormed}
use Rattle.fs_model.proofs.Observing.{reads_then}
use Rattle.crash_safety.specs.Places.{control_at}
use Rattle.shared_inodes.specs.SharedInodes.{IsSharedNumber}
use Rattle.verdicts.specs.Verdicts.{StandsNot, IsVerdict, done_at}
use Rattle.verdicts.proofs.Judged.{whole_is}
use Rattle.verdicts.proofs.verdict.unfinished.Goals as goal

pub returns-in-Ok-clause-reads : goal.returns-in-Ok-clause-reads
returns-in-Ok-clause-reads g c = reads_then _ _ _ None None tt c.in-Ok-true.ensures.reads c.in-Ok.ensures.reads

pub returns-in-Ok-clause-exact : goal.returns-in-Ok-clause-exact
returns-in-Ok-clause-exact g c told formed unfinished =
    let s = (g.F.Fs.trail c.args.fs.now).present in
    let same = (c.in-Ok-true.ensures.reads.unchanged told).present in
    subst (IsVerdict s c.args.old.now c.args.new.now) (sym c.whole.ensures)
    (whole_is s c.args.old.now c.args.new.now c.in-Ok.count (record {
      unfinished = unfinished;
      control = sym (c.in-Ok-true.ensures.shows told formed) ∙ c.in-Ok-true.field-0-test;
      shared = subst (λ t. IsSharedNumber t c.args.old.now c.args.new.now c.in-Ok.count) same (c.in-Ok.ensures.counts (c.in-Ok-true.ensures.reads.told ∙ told));
    }))

pub returns-in-Err-shared_count-clause-reads : goal.returns-in-Err-shared_count-clause-reads
returns-in-Err-shared_count-clause-reads g c = reads_then _ _ _ None (unless_lack (Some c.in-Err-shared_count.error)) tt c.in-Ok-true.ensures.reads c.in-Err-shared_count.ensures.reads

pub returns-in-Ok-false-clause-reads : goal.returns-in-Ok-false-clause-reads
returns-in-Ok-false-clause-reads g c = reads_then _ _ _ None (unless_lack (error_of c.verdict_without.result)) tt c.in-Ok-false.ensures.reads c.verdict_without.ensures.reads

pub returns-in-Ok-false-clause-exact : goal.returns-in-Ok-false-clause-exact
returns-in-Ok-false-clause-exact g c told formed unfinished =
    let same = (c.in-Ok-false.ensures.reads.unchanged told).present in
    subst (λ t. IfOk c.verdict_without.result (IsVerdict t c.args.old.now c.args.new.now)) same
    (c.verdict_without.ensures.exact (c.in-Ok-false.ensures.reads.told ∙ told) (subst WellFormed (sym same) formed) (subst (λ t. StandsNot t (done_at c.args.new.now)) (sym same) unfinished)
    (subst (λ t. StandsNot t (control_at c.args.old.now)) (sym same) (sym (c.in-Ok-false.ensures.shows told formed) ∙ c.in-Ok-false.field-0-test)))
