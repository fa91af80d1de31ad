use Rattle.crash_safety.proofs.SoundRuns.{rename_since, renamed_moving, sync_since, synced_moved}
use Rattle.crash_safety.proofs.run_laws.rename_runs.Goals as goal

pub returns : goal.returns
returns c = record {
  renames = λ u ready disables answer a b sound steps. rename_since u ready disables answer a b sound steps;
  moving = λ u ready disables a b sound steps. renamed_moving u ready disables a b sound steps;
  syncs = λ u ready disables answer a b sound steps. sync_since u ready disables answer a b sound steps;
  moved = λ u ready disables a b sound steps. synced_moved u ready disables a b sound steps;
}
