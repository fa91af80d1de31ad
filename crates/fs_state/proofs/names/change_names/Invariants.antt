use Rattle.std.proofs.Common.{◌≡◌, drop}
use Rattle.fs_model.specs.Effects.{changed}
use Rattle.fs_state.proofs.names.change_names.Given as goal

-- what is left to change leads to what all of it leads to
abbrev pub invariant-loop-at : goal.invariant-loop-at
invariant-loop-at l = changed l.names (drop l.at-index l.at-items) ≡ changed l.fn.names l.at-items
