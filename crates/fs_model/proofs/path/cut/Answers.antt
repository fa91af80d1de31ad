use Rattle.std.proofs.Common.{lit<}
use Rattle.fs_model.proofs.Cuts.{around_first}
use Rattle.fs_model.proofs.path.cut.Goals as goal

pub returns : goal.returns
returns c = around_first c.args.text.now c.split_once.result (c.split_once.ensures.byte (lit< tt) (λ w o found. found))
