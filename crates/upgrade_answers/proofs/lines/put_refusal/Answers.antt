use Rattle.std.proofs.Common.{◌++◌, ◌∙◌, ℕ, List}
use Rattle.std.specs.Prelude.{codes}
use Rattle.upgrade_answers.specs.Lines.{reason_of}
use Rattle.upgrade_answers.proofs.Pieces.{puts, failed, behind, put_behind, part_front, part_behind}
use Rattle.upgrade_answers.proofs.lines.put_refusal.Goals as goal

pub returns-in_err-put-clause-appended : goal.returns-in_err-put-clause-appended
returns-in_err-put-clause-appended g c told =
    let w = g.K.Sink.written c.args.out.now in
    let start : List ℕ = codes "refused: " in
    let reason : List ℕ = reason_of c.args.refusal.now in
    let end : List ℕ = codes "\n" in
    failed _ _ _ _ _ c.from_residual.ensures.1 (part_front w (start ++ reason) end _ (part_front w start reason _ (c.put.ensures.part told)))

pub returns-in_err-put_reason-clause-appended : goal.returns-in_err-put_reason-clause-appended
returns-in_err-put_reason-clause-appended g c told =
    let w = g.K.Sink.written c.args.out.now in
    let start : List ℕ = codes "refused: " in
    let reason : List ℕ = reason_of c.args.refusal.now in
    let end : List ℕ = codes "\n" in
    let told_1 = c.put.ensures.told ∙ told in
    failed _ _ _ _ _ c.from_residual-in_err-put_reason.ensures.1 (part_front w (start ++ reason) end _ (part_behind w start reason _ _ (c.in_ok-put.ensures.appended told) (c.in_err-put_reason.ensures.appended told_1)))

pub returns-clause-appended : goal.returns-clause-appended
returns-clause-appended g c told =
    let w = g.K.Sink.written c.args.out.now in
    let start : List ℕ = codes "refused: " in
    let reason : List ℕ = reason_of c.args.refusal.now in
    let end : List ℕ = codes "\n" in
    let told_1 = c.put.ensures.told ∙ told in
    let told_2 = c.put_reason.ensures.told ∙ told_1 in
    let two = behind w start reason _ _ (c.in_ok-put.ensures.appended told) (c.in_ok-put_reason.ensures.appended told_1) in
    put_behind _ w (start ++ reason) end _ _ two (puts _ _ _ _ (c.put-2.ensures.appended told_2) (c.put-2.ensures.part told_2))
