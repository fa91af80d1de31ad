use Rattle.std.proofs.Common.{◌++◌, ◌∙◌, ℕ, List}
use Rattle.std.specs.Prelude.{codes}
use Rattle.upgrade_answers.specs.Lines.{labelled}
use Rattle.upgrade_answers.proofs.Pieces.{puts, failed, behind, put_behind, part_front, part_behind}
use Rattle.upgrade_answers.proofs.lines.put_counted.Goals as goal

pub returns-in_err-put_labelled-clause-appended : goal.returns-in_err-put_labelled-clause-appended
returns-in_err-put_labelled-clause-appended g c told =
    let w = g.K.Sink.written c.args.out.now in
    let databases : List ℕ = labelled (codes "databases: ") c.args.summary.databases in
    let tables : List ℕ = labelled (codes "\ntables: ") c.args.summary.tables in
    let files : List ℕ = labelled (codes "\nfiles: ") c.args.summary.files in
    let end : List ℕ = codes "\n" in
    failed _ _ _ _ _ c.from_residual.ensures.1 (part_front w ((databases ++ tables) ++ files) end _ (part_front w (databases ++ tables) files _ (part_front w databases tables _ (c.in_err-put_labelled.ensures.appended told))))

pub returns-in_err-put_labelled-2-clause-appended : goal.returns-in_err-put_labelled-2-clause-appended
returns-in_err-put_labelled-2-clause-appended g c told =
    let w = g.K.Sink.written c.args.out.now in
    let databases : List ℕ = labelled (codes "databases: ") c.args.summary.databases in
    let tables : List ℕ = labelled (codes "\ntables: ") c.args.summary.tables in
    let files : List ℕ = labelled (codes "\nfiles: ") c.args.summary.files in
    let end : List ℕ = codes "\n" in
    let told_1 = c.put_labelled.ensures.told ∙ told in
    failed _ _ _ _ _ c.from_residual-in_err-put_labelled-2.ensures.1 (part_front w ((databases ++ tables) ++ files) end _ (part_front w (databases ++ tables) files _ (part_behind w databases tables _ _ (c.in_ok-put_labelled.ensures.appended told) (c.in_err-put_labelled-2.ensures.appended told_1))))

pub returns-in_err-put_labelled-3-clause-appended : goal.returns-in_err-put_labelled-3-clause-appended
returns-in_err-put_labelled-3-clause-appended g c told =
    let w = g.K.Sink.written c.args.out.now in
    let databases : List ℕ = labelled (codes "databases: ") c.args.summary.databases in
    let tables : List ℕ = labelled (codes "\ntables: ") c.args.summary.tables in
    let files : List ℕ = labelled (codes "\nfiles: ") c.args.summary.files in
    let end : List ℕ = codes "\n" in
    let told_1 = c.put_labelled.ensures.told ∙ told in
    let told_2 = c.put_labelled-2.ensures.told ∙ told_1 in
    let two = behind w databases tables _ _ (c.in_ok-put_labelled.ensures.appended told) (c.in_ok-put_labelled-2.ensures.appended told_1) in
    failed _ _ _ _ _ c.from_residual-in_err-put_labelled-3.ensures.1 (part_front w ((databases ++ tables) ++ files) end _ (part_behind w (databases ++ tables) files _ _ two (c.in_err-put_labelled-3.ensures.appended told_2)))

pub returns-clause-appended : goal.returns-clause-appended
returns-clause-appended g c told =
    let w = g.K.Sink.written c.args.out.now in
    let databases : List ℕ = labelled (codes "databases: ") c.args.summary.databases in
    let tables : List ℕ = labelled (codes "\ntables: ") c.args.summary.tables in
    let files : List ℕ = labelled (codes "\nfiles: ") c.args.summary.files in
    let end : List ℕ = codes "\n" in
    let told_1 = c.put_labelled.ensures.told ∙ told in
    let told_2 = c.put_labelled-2.ensures.told ∙ told_1 in
    let told_3 = c.put_labelled-3.ensures.told ∙ told_2 in
    let two = behind w databases tables _ _ (c.in_ok-put_labelled.ensures.appended told) (c.in_ok-put_labelled-2.ensures.appended told_1) in
    let three = behind w (databases ++ tables) files _ _ two (c.in_ok-put_labelled-3.ensures.appended told_2) in
    put_behind _ w ((databases ++ tables) ++ files) end _ _ three (puts _ _ _ _ (c.put.ensures.appended told_3) (c.put.ensures.part told_3))
