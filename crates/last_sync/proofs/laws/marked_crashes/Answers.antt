use Rattle.last_sync.proofs.Crashing.{marked_run}
use Rattle.last_sync.proofs.laws.marked_crashes.Goals as goal

pub returns : goal.returns
returns g u ready stage still places new_place rewritten inside old sound lacks tracked needs new m = marked_run u ready stage still places new_place rewritten inside old sound lacks tracked needs new m
