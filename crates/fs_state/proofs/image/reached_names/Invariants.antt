use Rattle.std.proofs.Common.{◌≡◌, drop}
use Rattle.fs_model.specs.Crash.{is_reached}
use Rattle.fs_state.specs.Images.{without_failing}
use Rattle.fs_state.proofs.image.reached_names.Given as goal

abbrev pub invariant-loop-at : goal.invariant-loop-at
invariant-loop-at l = without_failing (is_reached l.names) l.left (drop l.at-index l.at-items) ≡ without_failing (is_reached l.names) l.names l.at-items
