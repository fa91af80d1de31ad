use Rattle.fs_state.proofs.Imaged.{image_well_formed}
use Rattle.fs_state.proofs.laws.images_are_well_formed.Goals as goal

pub returns : goal.returns
returns c = λ s x w image. image_well_formed s x image w
