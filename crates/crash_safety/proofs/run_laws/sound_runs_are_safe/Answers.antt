use Rattle.crash_safety.proofs.SoundRuns.{sound_crashes}
use Rattle.crash_safety.proofs.Permitting.{since_renamed}
use Rattle.crash_safety.proofs.run_laws.sound_runs_are_safe.Goals as goal

pub returns : goal.returns
returns c = record {
  crashes = λ u ready a b since. sound_crashes u ready a b since;
  renamed = λ u ready disables a b since. since_renamed u ready disables a b since;
}
