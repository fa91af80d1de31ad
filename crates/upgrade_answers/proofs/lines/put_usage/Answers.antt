use Rattle.std.proofs.Common.{◌∙◌, ℕ, List}
use Rattle.std.specs.Prelude.{codes}
use Rattle.upgrade_answers.specs.Lines.{labelled}
use Rattle.upgrade_answers.proofs.Pieces.{puts, failed, put_behind, part_front}
use Rattle.upgrade_answers.proofs.lines.put_usage.Goals as goal

pub returns-in_err-put_labelled-clause-appended : goal.returns-in_err-put_labelled-clause-appended
returns-in_err-put_labelled-clause-appended g c told =
    let w = g.K.Sink.written c.args.out.now in
    let fault : List ℕ = labelled (codes "usage fault at word ") c.args.position in
    let end : List ℕ = codes "\n" in
    failed _ _ _ _ _ c.from_residual.ensures.1 (part_front w fault end _ (c.in_err-put_labelled.ensures.appended told))

pub returns-clause-appended : goal.returns-clause-appended
returns-clause-appended g c told =
    let w = g.K.Sink.written c.args.out.now in
    let fault : List ℕ = labelled (codes "usage fault at word ") c.args.position in
    let end : List ℕ = codes "\n" in
    let told_1 = c.put_labelled.ensures.told ∙ told in
    put_behind _ w fault end _ _ (c.in_ok-put_labelled.ensures.appended told) (puts _ _ _ _ (c.put.ensures.appended told_1) (c.put.ensures.part told_1))
