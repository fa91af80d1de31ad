use Rattle.crash_safety.proofs.Syncing.{synced_settled}
use Rattle.crash_safety.proofs.disk_laws.all_synced_is_settled.Goals as goal

pub returns : goal.returns
returns c tops holders rewritten inside s tracked needs synced quiet = synced_settled tops holders rewritten inside s synced quiet needs tracked
