use Rattle.std.proofs.Common.{◌++◌, ◌∙◌, ℕ, List, ap}
use Rattle.std.specs.Prelude.{codes}
use Rattle.upgrade_answers.specs.Lines.{labelled, field_text}
use Rattle.upgrade_answers.proofs.Pieces.{puts, failed, behind, put_behind, part_front, part_behind, same_behind, part_same}
use Rattle.upgrade_answers.proofs.reasons.put_differing.Goals as goal

pub returns-in_err-put-clause-appended : goal.returns-in_err-put-clause-appended
returns-in_err-put-clause-appended g c told =
    let w = g.K.Sink.written c.args.out.now in
    let field : List ℕ = field_text c.args.field in
    let in_old : List ℕ = labelled (codes " is ") c.args.in_old in
    let in_new : List ℕ = labelled (codes " in old and ") c.args.in_new in
    let end : List ℕ = codes " in new" in
    failed _ _ _ _ _ c.from_residual.ensures.1 (part_front w ((field ++ in_old) ++ in_new) end _ (part_front w (field ++ in_old) in_new _ (part_front w field in_old _ (part_same _ _ _ _ c.field_text.ensures (c.put.ensures.part told)))))

pub returns-in_err-put_labelled-clause-appended : goal.returns-in_err-put_labelled-clause-appended
returns-in_err-put_labelled-clause-appended g c told =
    let w = g.K.Sink.written c.args.out.now in
    let field : List ℕ = field_text c.args.field in
    let in_old : List ℕ = labelled (codes " is ") c.args.in_old in
    let in_new : List ℕ = labelled (codes " in old and ") c.args.in_new in
    let end : List ℕ = codes " in new" in
    let told_1 = c.put.ensures.told ∙ told in
    failed _ _ _ _ _ c.from_residual-in_err-put_labelled.ensures.1 (part_front w ((field ++ in_old) ++ in_new) end _ (part_front w (field ++ in_old) in_new _ (part_behind w field in_old _ _ (same_behind _ _ _ _ c.field_text.ensures (c.in_ok-put.ensures.appended told)) (part_same _ _ _ _ (ap (λ n. labelled (codes " is ") n) c.from.ensures) (c.in_err-put_labelled.ensures.appended told_1)))))

pub returns-in_err-put_labelled-2-clause-appended : goal.returns-in_err-put_labelled-2-clause-appended
returns-in_err-put_labelled-2-clause-appended g c told =
    let w = g.K.Sink.written c.args.out.now in
    let field : List ℕ = field_text c.args.field in
    let in_old : List ℕ = labelled (codes " is ") c.args.in_old in
    let in_new : List ℕ = labelled (codes " in old and ") c.args.in_new in
    let end : List ℕ = codes " in new" in
    let told_1 = c.put.ensures.told ∙ told in
    let told_2 = c.put_labelled.ensures.told ∙ told_1 in
    let two = behind w field in_old _ _ (same_behind _ _ _ _ c.field_text.ensures (c.in_ok-put.ensures.appended told)) (same_behind _ _ _ _ (ap (λ n. labelled (codes " is ") n) c.from.ensures) (c.in_ok-put_labelled.ensures.appended told_1)) in
    failed _ _ _ _ _ c.from_residual-in_err-put_labelled-2.ensures.1 (part_front w ((field ++ in_old) ++ in_new) end _ (part_behind w (field ++ in_old) in_new _ _ two (part_same _ _ _ _ (ap (λ n. labelled (codes " in old and ") n) c.from-2.ensures) (c.in_err-put_labelled-2.ensures.appended told_2))))

pub returns-clause-appended : goal.returns-clause-appended
returns-clause-appended g c told =
    let w = g.K.Sink.written c.args.out.now in
    let field : List ℕ = field_text c.args.field in
    let in_old : List ℕ = labelled (codes " is ") c.args.in_old in
    let in_new : List ℕ = labelled (codes " in old and ") c.args.in_new in
    let end : List ℕ = codes " in new" in
    let told_1 = c.put.ensures.told ∙ told in
    let told_2 = c.put_labelled.ensures.told ∙ told_1 in
    let told_3 = c.put_labelled-2.ensures.told ∙ told_2 in
    let two = behind w field in_old _ _ (same_behind _ _ _ _ c.field_text.ensures (c.in_ok-put.ensures.appended told)) (same_behind _ _ _ _ (ap (λ n. labelled (codes " is ") n) c.from.ensures) (c.in_ok-put_labelled.ensures.appended told_1)) in
    let three = behind w (field ++ in_old) in_new _ _ two (same_behind _ _ _ _ (ap (λ n. labelled (codes " in old and ") n) c.from-2.ensures) (c.in_ok-put_labelled-2.ensures.appended told_2)) in
    put_behind _ w ((field ++ in_old) ++ in_new) end _ _ three (puts _ _ _ _ (c.put-2.ensures.appended told_3) (c.put-2.ensures.part told_3))
