use Rattle.crash_safety.proofs.Marking.{settled_all, goes_all, image_same}
use Rattle.crash_safety.proofs.mark_laws.mark_leaves_all.Goals as goal

pub returns : goal.returns
returns c = record {
  begins = λ mark s settled. settled_all mark s settled;
  runs = λ mark s well_formed a b all goes. goes_all mark s well_formed a b all goes;
  images = λ mark s t x well_formed lacks all image. image_same mark s well_formed t all lacks x image;
}
