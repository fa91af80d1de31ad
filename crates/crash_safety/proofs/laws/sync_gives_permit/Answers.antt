use Rattle.crash_safety.proofs.Lacking.{untouched_lacks}
use Rattle.crash_safety.proofs.Permitting.{synced_lacks}
use Rattle.crash_safety.proofs.laws.sync_gives_permit.Goals as goal

pub returns : goal.returns
returns c = record {
  untouched = λ path s tracked none untouched. untouched_lacks path s tracked none untouched;
  synced = λ path a b tracked none steps. synced_lacks path a b tracked none steps;
}
