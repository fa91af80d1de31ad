use Rattle.fs_model.proofs.Cuts.{no_path}
use Rattle.fs_model.proofs.path.Path.parse.Goals as goal

pub returns-in_default-clause-bad : goal.returns-in_default-clause-bad
unfolding lib.Utf8.encode
returns-in_default-clause-bad c _ = no_path c.args.text.now c.in_default.ensures.cases
