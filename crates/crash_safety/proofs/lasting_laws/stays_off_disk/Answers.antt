use Rattle.crash_safety.specs.Lasting.{IsOffDisk}
use Rattle.crash_safety.proofs.Persisting.{lasts_then, always_lasts, never_lasts, step_lasts}
use Rattle.crash_safety.proofs.lasting_laws.stays_off_disk.Goals as goal

pub returns : goal.returns
returns c = record {
  joined = λ path a b t one two. lasts_then (IsOffDisk path) a b t one two;
  always = λ path a b since. always_lasts (IsOffDisk path) a b since;
  never = λ path a b since. never_lasts (IsOffDisk path) a b since;
  step = λ path call answer a b never steps. step_lasts (IsOffDisk path) call answer a b never steps;
}
