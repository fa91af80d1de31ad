use Rattle.crash_safety.proofs.Permitting.{moved_renamed}
use Rattle.crash_safety.proofs.SoundRuns.{gone_moved, moved_gone}
use Rattle.crash_safety.proofs.laws.moved_stays_moved.Goals as goal

pub returns : goal.returns
returns c = record {
  renamed = λ u ready s x sound image. moved_renamed u ready s x sound image;
  lacks = λ u ready s sound. moved_gone u ready s sound;
  told_by_lack = λ u ready disables stage s sound none. gone_moved u ready disables stage s sound none;
}
