use Rattle.std.proofs.Common.{◌++◌, ◌∙◌, ℕ, List}
use Rattle.fs_model.specs.PathText.{text_of}
use Rattle.upgrade_answers.proofs.Pieces.{puts, failed, behind, put_behind, part_front, part_behind}
use Rattle.upgrade_answers.proofs.parts.put_place.Goals as goal

pub returns-in_err-put-clause-appended : goal.returns-in_err-put-clause-appended
returns-in_err-put-clause-appended g c told =
    let w = g.K.Sink.written c.args.out.now in
    let before : List ℕ = c.args.before.now in
    let path : List ℕ = text_of c.args.path.now in
    let after : List ℕ = c.args.after.now in
    failed _ _ _ _ _ c.from_residual.ensures.1 (part_front w (before ++ path) after _ (part_front w before path _ (c.put.ensures.part told)))

pub returns-in_err-put_path-clause-appended : goal.returns-in_err-put_path-clause-appended
returns-in_err-put_path-clause-appended g c told =
    let w = g.K.Sink.written c.args.out.now in
    let before : List ℕ = c.args.before.now in
    let path : List ℕ = text_of c.args.path.now in
    let after : List ℕ = c.args.after.now in
    let told_1 = c.put.ensures.told ∙ told in
    failed _ _ _ _ _ c.from_residual-in_err-put_path.ensures.1 (part_front w (before ++ path) after _ (part_behind w before path _ _ (c.in_ok-put.ensures.appended told) (c.in_err-put_path.ensures.appended told_1)))

pub returns-clause-appended : goal.returns-clause-appended
returns-clause-appended g c told =
    let w = g.K.Sink.written c.args.out.now in
    let before : List ℕ = c.args.before.now in
    let path : List ℕ = text_of c.args.path.now in
    let after : List ℕ = c.args.after.now in
    let told_1 = c.put.ensures.told ∙ told in
    let told_2 = c.put_path.ensures.told ∙ told_1 in
    let two = behind w before path _ _ (c.in_ok-put.ensures.appended told) (c.in_ok-put_path.ensures.appended told_1) in
    put_behind _ w (before ++ path) after _ _ two (puts _ _ _ _ (c.put-2.ensures.appended told_2) (c.put-2.ensures.part told_2))
