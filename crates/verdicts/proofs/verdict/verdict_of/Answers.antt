use Rattle.std.proofs.Common.{◌∙◌, None, sym, subst}
use Rattle.std.specs.Prelude.{IfOk}
use Rattle.fs_model.specs.Trail.{error_of, unless_lack}
use Rattle.fs_model.specs.WellFormed.{WellFormed}
use Rattle.fs_model.proofs.Observing.{reads_then}
use Rattle.verdicts.specs.Verdicts.{StandsNot, IsVerdict, done_at}
use Rattle.verdicts.proofs.verdict.verdict_of.Goals as goal

pub returns-in-Ok-true-clause-exact : goal.returns-in-Ok-true-clause-exact
returns-in-Ok-true-clause-exact g c told = sym (c.in-Ok-true.ensures.shows told (c.moment.ensures.well_formed told)) ∙ c.in-Ok-true.field-0-test

pub returns-in-Ok-false-clause-reads : goal.returns-in-Ok-false-clause-reads
returns-in-Ok-false-clause-reads g c = reads_then _ _ _ None (unless_lack (error_of c.unfinished.result)) tt c.in-Ok-false.ensures.reads c.unfinished.ensures.reads

pub returns-in-Ok-false-clause-exact : goal.returns-in-Ok-false-clause-exact
returns-in-Ok-false-clause-exact g c told =
    let formed = c.moment.ensures.well_formed told in
    let same = (c.in-Ok-false.ensures.reads.unchanged told).present in
    subst (λ t. IfOk c.unfinished.result (IsVerdict t c.args.old.now c.args.new.now)) same
    (c.unfinished.ensures.exact (c.in-Ok-false.ensures.reads.told ∙ told) (subst WellFormed (sym same) formed)
    (subst (λ t. StandsNot t (done_at c.args.new.now)) (sym same) (sym (c.in-Ok-false.ensures.shows told formed) ∙ c.in-Ok-false.field-0-test)))
