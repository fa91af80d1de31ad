use Rattle.fs_state.proofs.Chosen.{every_image}
use Rattle.fs_state.proofs.laws.every_image_has_a_pick.Goals as goal

pub returns : goal.returns
returns c = every_image
