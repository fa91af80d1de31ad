use Rattle.crash_safety.proofs.Crashed.{image_safe, kept_before}
use Rattle.crash_safety.proofs.laws.images_are_safe.Goals as goal

pub returns : goal.returns
returns c = record {
  each = λ u ready stage s x sound image. image_safe u ready stage s x sound image;
  copies = λ u ready copies x safe. kept_before u ready copies x safe.old_kept;
}
