use Rattle.std.proofs.Common.{◌≡◌, drop}
use Rattle.fs_model.specs.Effects.{all_changed}
use Rattle.fs_state.specs.Images.{chosen}
use Rattle.fs_state.proofs.image.change_picked.Given as goal

abbrev pub invariant-loop-change : goal.invariant-loop-change
invariant-loop-change l = all_changed l.names (chosen (drop l.change-index l.pending) l.rest) ≡ all_changed l.fn.names (chosen l.pending l.fn.picks)
