use Rattle.std.proofs.Common.{◌∙◌, ℕ, List, ap}
use Rattle.upgrade_answers.specs.Lines.{labelled, side_text}
use Rattle.upgrade_answers.proofs.Pieces.{failed, put_behind, part_front, same_behind, part_same, puts_same}
use Rattle.upgrade_answers.proofs.reasons.put_numbered.Goals as goal

pub returns-in_err-put-clause-appended : goal.returns-in_err-put-clause-appended
returns-in_err-put-clause-appended g c told =
    let w = g.K.Sink.written c.args.out.now in
    let side : List ℕ = side_text c.args.side in
    let number : List ℕ = labelled c.args.text.now c.args.number in
    failed _ _ _ _ _ c.from_residual.ensures.1 (part_front w side number _ (part_same _ _ _ _ c.side_text.ensures (c.put.ensures.part told)))

pub returns-clause-appended : goal.returns-clause-appended
returns-clause-appended g c told =
    let w = g.K.Sink.written c.args.out.now in
    let side : List ℕ = side_text c.args.side in
    let number : List ℕ = labelled c.args.text.now c.args.number in
    let told_1 = c.put.ensures.told ∙ told in
    put_behind _ w side number _ _ (same_behind _ _ _ _ c.side_text.ensures (c.in_ok-put.ensures.appended told)) (puts_same _ _ _ _ _ (ap (λ n. labelled c.args.text.now n) c.from.ensures) (c.put_labelled.ensures.appended told_1))
