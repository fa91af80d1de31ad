use Rattle.std.proofs.Common.{◌++◌, ◌∙◌, ℕ, List}
use Rattle.std.specs.Prelude.{codes}
use Rattle.fs_model.specs.PathText.{text_of}
use Rattle.upgrade_answers.specs.Lines.{change_text}
use Rattle.upgrade_answers.proofs.Pieces.{puts, failed, behind, put_behind, part_front, part_behind}
use Rattle.upgrade_answers.proofs.lines.put_moved.Goals as goal

pub returns-in_err-put_place-clause-appended : goal.returns-in_err-put_place-clause-appended
returns-in_err-put_place-clause-appended g c told =
    let w = g.K.Sink.written c.args.out.now in
    let place : List ℕ = (codes "changed under the run: " ++ text_of c.args.root.now) ++ codes ", " in
    let change : List ℕ = change_text c.args.change in
    let end : List ℕ = codes "\n" in
    failed _ _ _ _ _ c.from_residual.ensures.1 (part_front w (place ++ change) end _ (part_front w place change _ (c.in_err-put_place.ensures.appended told)))

pub returns-in_err-put_change-clause-appended : goal.returns-in_err-put_change-clause-appended
returns-in_err-put_change-clause-appended g c told =
    let w = g.K.Sink.written c.args.out.now in
    let place : List ℕ = (codes "changed under the run: " ++ text_of c.args.root.now) ++ codes ", " in
    let change : List ℕ = change_text c.args.change in
    let end : List ℕ = codes "\n" in
    let told_1 = c.put_place.ensures.told ∙ told in
    failed _ _ _ _ _ c.from_residual-in_err-put_change.ensures.1 (part_front w (place ++ change) end _ (part_behind w place change _ _ (c.in_ok-put_place.ensures.appended told) (c.in_err-put_change.ensures.appended told_1)))

pub returns-clause-appended : goal.returns-clause-appended
returns-clause-appended g c told =
    let w = g.K.Sink.written c.args.out.now in
    let place : List ℕ = (codes "changed under the run: " ++ text_of c.args.root.now) ++ codes ", " in
    let change : List ℕ = change_text c.args.change in
    let end : List ℕ = codes "\n" in
    let told_1 = c.put_place.ensures.told ∙ told in
    let told_2 = c.put_change.ensures.told ∙ told_1 in
    let two = behind w place change _ _ (c.in_ok-put_place.ensures.appended told) (c.in_ok-put_change.ensures.appended told_1) in
    put_behind _ w (place ++ change) end _ _ two (puts _ _ _ _ (c.put.ensures.appended told_2) (c.put.ensures.part told_2))
