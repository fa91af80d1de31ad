use Rattle.std.proofs.Common.{◌++◌, ◌∙◌, ℕ, List, ap}
use Rattle.std.specs.Prelude.{codes}
use Rattle.upgrade_answers.specs.Lines.{labelled}
use Rattle.upgrade_answers.proofs.Pieces.{puts, failed, behind, put_behind, part_front, part_behind, same_behind, part_same}
use Rattle.upgrade_answers.proofs.reasons.put_column.Goals as goal

pub returns-in_err-put_labelled-clause-appended : goal.returns-in_err-put_labelled-clause-appended
returns-in_err-put_labelled-clause-appended g c told =
    let w = g.K.Sink.written c.args.out.now in
    let database : List ℕ = labelled (codes "database ") c.args.database in
    let table : List ℕ = labelled (codes ", table ") c.args.table in
    let column : List ℕ = labelled (codes ", column ") c.args.column in
    let text : List ℕ = c.args.text.now in
    failed _ _ _ _ _ c.from_residual.ensures.1 (part_front w ((database ++ table) ++ column) text _ (part_front w (database ++ table) column _ (part_front w database table _ (part_same _ _ _ _ (ap (λ n. labelled (codes "database ") n) c.from.ensures) (c.in_err-put_labelled.ensures.appended told)))))

pub returns-in_err-put_labelled-2-clause-appended : goal.returns-in_err-put_labelled-2-clause-appended
returns-in_err-put_labelled-2-clause-appended g c told =
    let w = g.K.Sink.written c.args.out.now in
    let database : List ℕ = labelled (codes "database ") c.args.database in
    let table : List ℕ = labelled (codes ", table ") c.args.table in
    let column : List ℕ = labelled (codes ", column ") c.args.column in
    let text : List ℕ = c.args.text.now in
    let told_1 = c.put_labelled.ensures.told ∙ told in
    failed _ _ _ _ _ c.from_residual-in_err-put_labelled-2.ensures.1 (part_front w ((database ++ table) ++ column) text _ (part_front w (database ++ table) column _ (part_behind w database table _ _ (same_behind _ _ _ _ (ap (λ n. labelled (codes "database ") n) c.from.ensures) (c.in_ok-put_labelled.ensures.appended told)) (part_same _ _ _ _ (ap (λ n. labelled (codes ", table ") n) c.from-2.ensures) (c.in_err-put_labelled-2.ensures.appended told_1)))))

pub returns-in_err-put_labelled-3-clause-appended : goal.returns-in_err-put_labelled-3-clause-appended
returns-in_err-put_labelled-3-clause-appended g c told =
    let w = g.K.Sink.written c.args.out.now in
    let database : List ℕ = labelled (codes "database ") c.args.database in
    let table : List ℕ = labelled (codes ", table ") c.args.table in
    let column : List ℕ = labelled (codes ", column ") c.args.column in
    let text : List ℕ = c.args.text.now in
    let told_1 = c.put_labelled.ensures.told ∙ told in
    let told_2 = c.put_labelled-2.ensures.told ∙ told_1 in
    let two = behind w database table _ _ (same_behind _ _ _ _ (ap (λ n. labelled (codes "database ") n) c.from.ensures) (c.in_ok-put_labelled.ensures.appended told)) (same_behind _ _ _ _ (ap (λ n. labelled (codes ", table ") n) c.from-2.ensures) (c.in_ok-put_labelled-2.ensures.appended told_1)) in
    failed _ _ _ _ _ c.from_residual-in_err-put_labelled-3.ensures.1 (part_front w ((database ++ table) ++ column) text _ (part_behind w (database ++ table) column _ _ two (part_same _ _ _ _ (ap (λ n. labelled (codes ", column ") n) c.from-3.ensures) (c.in_err-put_labelled-3.ensures.appended told_2))))

pub returns-clause-appended : goal.returns-clause-appended
returns-clause-appended g c told =
    let w = g.K.Sink.written c.args.out.now in
    let database : List ℕ = labelled (codes "database ") c.args.database in
    let table : List ℕ = labelled (codes ", table ") c.args.table in
    let column : List ℕ = labelled (codes ", column ") c.args.column in
    let text : List ℕ = c.args.text.now in
    let told_1 = c.put_labelled.ensures.told ∙ told in
    let told_2 = c.put_labelled-2.ensures.told ∙ told_1 in
    let told_3 = c.put_labelled-3.ensures.told ∙ told_2 in
    let two = behind w database table _ _ (same_behind _ _ _ _ (ap (λ n. labelled (codes "database ") n) c.from.ensures) (c.in_ok-put_labelled.ensures.appended told)) (same_behind _ _ _ _ (ap (λ n. labelled (codes ", table ") n) c.from-2.ensures) (c.in_ok-put_labelled-2.ensures.appended told_1)) in
    let three = behind w (database ++ table) column _ _ two (same_behind _ _ _ _ (ap (λ n. labelled (codes ", column ") n) c.from-3.ensures) (c.in_ok-put_labelled-3.ensures.appended told_2)) in
    put_behind _ w ((database ++ table) ++ column) text _ _ three (puts _ _ _ _ (c.put.ensures.appended told_3) (c.put.ensures.part told_3))
