use Rattle.std.proofs.Common.{◌∙◌, ℕ, List}
use Rattle.upgrade_answers.proofs.Pieces.{puts, failed, put_behind, part_front}
use Rattle.upgrade_answers.proofs.parts.put_two.Goals as goal

pub returns-in_err-put-clause-appended : goal.returns-in_err-put-clause-appended
returns-in_err-put-clause-appended g c told =
    let w = g.K.Sink.written c.args.out.now in
    let first : List ℕ = c.args.first.now in
    let second : List ℕ = c.args.second.now in
    failed _ _ _ _ _ c.from_residual.ensures.1 (part_front w first second _ (c.put.ensures.part told))

pub returns-clause-appended : goal.returns-clause-appended
returns-clause-appended g c told =
    let w = g.K.Sink.written c.args.out.now in
    let first : List ℕ = c.args.first.now in
    let second : List ℕ = c.args.second.now in
    let told_1 = c.put.ensures.told ∙ told in
    put_behind _ w first second _ _ (c.in_ok-put.ensures.appended told) (puts _ _ _ _ (c.put-2.ensures.appended told_1) (c.put-2.ensures.part told_1))
