use Rattle.std.proofs.Common.{◌++◌, ◌∙◌, ℕ, List}
use Rattle.upgrade_answers.proofs.Pieces.{puts, failed, behind, put_behind, part_front, part_behind}
use Rattle.upgrade_answers.proofs.parts.put_three.Goals as goal

pub returns-in_err-put-clause-appended : goal.returns-in_err-put-clause-appended
returns-in_err-put-clause-appended g c told =
    let w = g.K.Sink.written c.args.out.now in
    let first : List ℕ = c.args.first.now in
    let second : List ℕ = c.args.second.now in
    let third : List ℕ = c.args.third.now in
    failed _ _ _ _ _ c.from_residual.ensures.1 (part_front w (first ++ second) third _ (part_front w first second _ (c.put.ensures.part told)))

pub returns-in_err-put-2-clause-appended : goal.returns-in_err-put-2-clause-appended
returns-in_err-put-2-clause-appended g c told =
    let w = g.K.Sink.written c.args.out.now in
    let first : List ℕ = c.args.first.now in
    let second : List ℕ = c.args.second.now in
    let third : List ℕ = c.args.third.now in
    let told_1 = c.put.ensures.told ∙ told in
    failed _ _ _ _ _ c.from_residual-in_err-put-2.ensures.1 (part_front w (first ++ second) third _ (part_behind w first second _ _ (c.in_ok-put.ensures.appended told) (c.put-2.ensures.part told_1)))

pub returns-clause-appended : goal.returns-clause-appended
returns-clause-appended g c told =
    let w = g.K.Sink.written c.args.out.now in
    let first : List ℕ = c.args.first.now in
    let second : List ℕ = c.args.second.now in
    let third : List ℕ = c.args.third.now in
    let told_1 = c.put.ensures.told ∙ told in
    let told_2 = c.put-2.ensures.told ∙ told_1 in
    let two = behind w first second _ _ (c.in_ok-put.ensures.appended told) (c.in_ok-put-2.ensures.appended told_1) in
    put_behind _ w (first ++ second) third _ _ two (puts _ _ _ _ (c.put-3.ensures.appended told_2) (c.put-3.ensures.part told_2))
