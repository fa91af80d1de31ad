use Rattle.std.proofs.Common.{◌++◌, ◌∙◌, ℕ, List}
use Rattle.std.specs.Prelude.{codes}
use Rattle.upgrade_answers.specs.Lines.{labelled, counted_lines}
use Rattle.upgrade_answers.proofs.Pieces.{puts, failed, behind, put_behind, part_front, part_behind}
use Rattle.upgrade_answers.proofs.lines.put_tested.Goals as goal

pub returns-in_err-put_counted-clause-appended : goal.returns-in_err-put_counted-clause-appended
returns-in_err-put_counted-clause-appended g c told =
    let w = g.K.Sink.written c.args.out.now in
    let counted : List ℕ = counted_lines c.args.summary in
    let rows : List ℕ = labelled (codes "rows: ") c.args.rows in
    let done : List ℕ = codes "\nselftest: done\n" in
    failed _ _ _ _ _ c.from_residual.ensures.1 (part_front w (counted ++ rows) done _ (part_front w counted rows _ (c.in_err-put_counted.ensures.appended told)))

pub returns-in_err-put_labelled-clause-appended : goal.returns-in_err-put_labelled-clause-appended
returns-in_err-put_labelled-clause-appended g c told =
    let w = g.K.Sink.written c.args.out.now in
    let counted : List ℕ = counted_lines c.args.summary in
    let rows : List ℕ = labelled (codes "rows: ") c.args.rows in
    let done : List ℕ = codes "\nselftest: done\n" in
    let told_1 = c.put_counted.ensures.told ∙ told in
    failed _ _ _ _ _ c.from_residual-in_err-put_labelled.ensures.1 (part_front w (counted ++ rows) done _ (part_behind w counted rows _ _ (c.in_ok-put_counted.ensures.appended told) (c.in_err-put_labelled.ensures.appended told_1)))

pub returns-clause-appended : goal.returns-clause-appended
returns-clause-appended g c told =
    let w = g.K.Sink.written c.args.out.now in
    let counted : List ℕ = counted_lines c.args.summary in
    let rows : List ℕ = labelled (codes "rows: ") c.args.rows in
    let done : List ℕ = codes "\nselftest: done\n" in
    let told_1 = c.put_counted.ensures.told ∙ told in
    let told_2 = c.put_labelled.ensures.told ∙ told_1 in
    let two = behind w counted rows _ _ (c.in_ok-put_counted.ensures.appended told) (c.in_ok-put_labelled.ensures.appended told_1) in
    put_behind _ w (counted ++ rows) done _ _ two (puts _ _ _ _ (c.put.ensures.appended told_2) (c.put.ensures.part told_2))
