use Rattle.fs_state.proofs.Imaged.{image_settled}
use Rattle.fs_state.proofs.laws.images_are_settled.Goals as goal

pub returns : goal.returns
returns c = λ s x image. image_settled s x image
