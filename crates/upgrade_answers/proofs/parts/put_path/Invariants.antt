use Rattle.std.proofs.Common.{◌≡◌, ◌++◌, true, take, Ok}
use Rattle.fs_model.specs.PathText.{joined}
use Rattle.fs_model.specs.Output.{SinkHasCause}
use Rattle.upgrade_answers.proofs.parts.put_path.Given as goal

abbrev pub invariant-loop-name : goal.invariant-loop-name
invariant-loop-name g l = record {
  told : g.K.Sink.told l.out ≡ g.K.Sink.told l.fn.out;
  appended : g.K.Sink.told l.fn.out ≡ true → g.K.Sink.written l.out ≡ g.K.Sink.written l.fn.out ++ joined (take l.name-index l.names);
  cause : SinkHasCause (g.K.Sink.counts l.fn.out) (g.K.Sink.counts l.out) (Ok tt);
}
