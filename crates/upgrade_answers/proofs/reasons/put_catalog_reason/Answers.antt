use Rattle.std.proofs.Common.{◌++◌, ◌∙◌, ℕ, List, ap}
use Rattle.std.specs.Prelude.{codes}
use Rattle.upgrade_answers.specs.Lines.{labelled, side_text}
use Rattle.upgrade_answers.proofs.Pieces.{failed, behind, put_behind, part_front, part_behind, same_behind, part_same, puts_same}
use Rattle.upgrade_answers.proofs.reasons.put_catalog_reason.Goals as goal

pub returns-in_err-put-clause-appended : goal.returns-in_err-put-clause-appended
returns-in_err-put-clause-appended g c told =
    let w = g.K.Sink.written c.args.out.now in
    let side : List ℕ = side_text c.args.side in
    let line : List ℕ = labelled (codes " catalog text, line ") c.args.line in
    let cause : List ℕ = labelled (codes ", cause ") c.args.cause in
    failed _ _ _ _ _ c.from_residual.ensures.1 (part_front w (side ++ line) cause _ (part_front w side line _ (part_same _ _ _ _ c.side_text.ensures (c.put.ensures.part told))))

pub returns-in_err-put_labelled-clause-appended : goal.returns-in_err-put_labelled-clause-appended
returns-in_err-put_labelled-clause-appended g c told =
    let w = g.K.Sink.written c.args.out.now in
    let side : List ℕ = side_text c.args.side in
    let line : List ℕ = labelled (codes " catalog text, line ") c.args.line in
    let cause : List ℕ = labelled (codes ", cause ") c.args.cause in
    let told_1 = c.put.ensures.told ∙ told in
    failed _ _ _ _ _ c.from_residual-in_err-put_labelled.ensures.1 (part_front w (side ++ line) cause _ (part_behind w side line _ _ (same_behind _ _ _ _ c.side_text.ensures (c.in_ok-put.ensures.appended told)) (c.in_err-put_labelled.ensures.appended told_1)))

pub returns-clause-appended : goal.returns-clause-appended
returns-clause-appended g c told =
    let w = g.K.Sink.written c.args.out.now in
    let side : List ℕ = side_text c.args.side in
    let line : List ℕ = labelled (codes " catalog text, line ") c.args.line in
    let cause : List ℕ = labelled (codes ", cause ") c.args.cause in
    let told_1 = c.put.ensures.told ∙ told in
    let told_2 = c.put_labelled.ensures.told ∙ told_1 in
    let two = behind w side line _ _ (same_behind _ _ _ _ c.side_text.ensures (c.in_ok-put.ensures.appended told)) (c.in_ok-put_labelled.ensures.appended told_1) in
    put_behind _ w (side ++ line) cause _ _ two (puts_same _ _ _ _ _ (ap (λ n. labelled (codes ", cause ") n) c.from.ensures) (c.put_labelled-2.ensures.appended told_2))
