use Rattle.crash_safety.proofs.Persisting.{whole_lasts, rename_lasts, sync_lasts, moved_lasts}
use Rattle.crash_safety.proofs.lasting_laws.rename_stays_on_disk.Goals as goal

pub returns : goal.returns
returns c = record {
  whole = λ u ready disables a b since. whole_lasts u ready disables a b since;
  renames = λ u ready disables answer a b sound steps. rename_lasts u ready disables answer a b sound steps;
  syncs = λ u ready disables answer a b sound steps. sync_lasts u ready disables answer a b sound steps;
  moved = λ u ready disables a b since. moved_lasts u ready disables a b since;
}
