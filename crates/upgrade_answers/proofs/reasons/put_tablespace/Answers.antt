use Rattle.std.proofs.Common.{◌∙◌, ℕ, List}
use Rattle.std.specs.Prelude.{codes}
use Rattle.fs_model.specs.PathText.{text_of}
use Rattle.upgrade_answers.proofs.Pieces.{failed, put_behind, part_front}
use Rattle.upgrade_answers.proofs.reasons.put_tablespace.Goals as goal

pub returns-in_err-put-clause-appended : goal.returns-in_err-put-clause-appended
returns-in_err-put-clause-appended g c told =
    let w = g.K.Sink.written c.args.out.now in
    let start : List ℕ = codes "tablespace " in
    let path : List ℕ = text_of c.args.path.now in
    failed _ _ _ _ _ c.from_residual.ensures.1 (part_front w start path _ (c.put.ensures.part told))

pub returns-clause-appended : goal.returns-clause-appended
returns-clause-appended g c told =
    let w = g.K.Sink.written c.args.out.now in
    let start : List ℕ = codes "tablespace " in
    let path : List ℕ = text_of c.args.path.now in
    let told_1 = c.put.ensures.told ∙ told in
    put_behind _ w start path _ _ (c.in_ok-put.ensures.appended told) (c.put_path.ensures.appended told_1)
