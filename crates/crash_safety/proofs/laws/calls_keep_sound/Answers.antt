use Rattle.crash_safety.proofs.Called.{call_sound}
use Rattle.crash_safety.proofs.Going.{control_apart}
use Rattle.crash_safety.proofs.laws.calls_keep_sound.Goals as goal

pub returns : goal.returns
returns c = record {
  each = λ u ready stage s call answer effect sound safe may. call_sound u ready stage s sound call answer effect safe may;
  control = λ u ready stage s before sound. control_apart u ready stage s before sound;
}
