use Rattle.std.proofs.Common.{◌≡◌, take, string_bytes}
use Rattle.fs_model.specs.PathText.{joined}
use Rattle.fs_model.proofs.path.Path.text.Given as goal

abbrev pub invariant-loop-name : goal.invariant-loop-name
invariant-loop-name l = string_bytes l.text ≡ joined (take l.name-index l.name-items)
