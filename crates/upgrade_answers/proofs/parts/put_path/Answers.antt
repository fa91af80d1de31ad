use Rattle.std.proofs.Common.{◌∙◌, ◌++◌, ◌∷◌, ℕ, suc, List, drop, take, ap, arith}
use Rattle.fs_model.specs.Names.{slash}
use Rattle.fs_model.specs.PathText.{joined, text_of}
use Rattle.upgrade_answers.proofs.NamedNext.{named_next, text_around}
use Rattle.upgrade_answers.proofs.Pieces.{failed, part_front, part_behind, part_same}
use Rattle.upgrade_answers.proofs.parts.put_path.Goals as goal

pub loop-name-preserved : goal.loop-name-preserved
loop-name-preserved g c = record {
  told = c.in_ok-put_name.ensures.told ∙ c.loop-name.invariant.told;
  appended = λ told. let is = c.name-item.is in named_next c.names-names.result.now c.loop-name.name-index _ (g.K.Sink.written c.args.out.now) (g.K.Sink.written c.loop-name.out) (g.K.Sink.written c.put_name.new.out)
      c.loop-name-test.true c.name-item.is (c.loop-name.invariant.appended told) (c.in_ok-put_name.ensures.appended (c.loop-name.invariant.told ∙ told));
  cause = record {
    faults = (let a = c.loop-name.invariant.cause.faults in let b = c.put_name.ensures.cause.faults in omega arith);
    lacks = (let a = c.loop-name.invariant.cause.lacks in let b = c.put_name.ensures.cause.lacks in omega arith);
    rose = tt;
    told = (c.in_ok-put_name.ensures.cause.told.0 ∙ c.loop-name.invariant.cause.told.0, c.in_ok-put_name.ensures.cause.told.1 ∙ c.loop-name.invariant.cause.told.1);
  };
}

pub returns-in_err-put_name-clause-appended : goal.returns-in_err-put_name-clause-appended
returns-in_err-put_name-clause-appended g c told =
    let w = g.K.Sink.written c.args.out.now in
    let names = c.names-names.result.now in
    let index = c.loop-name.name-index in
    let before : List ℕ = joined (take index names) in
    let name : List ℕ = slash ∷ c.name-item.result in
    let after : List ℕ = joined (drop (suc index) names) in
    failed _ _ _ _ _ c.from_residual.ensures.1
    (part_same w ((before ++ name) ++ after) (text_of c.args.path.now) _ (text_around names index c.name-item.result c.loop-name-test.true c.name-item.is ∙ ap text_of c.names-names.ensures)
    (part_front w (before ++ name) after _
    (part_behind w before name _ _ (c.loop-name.invariant.appended told) (c.in_err-put_name.ensures.appended (c.loop-name.invariant.told ∙ told)))))
