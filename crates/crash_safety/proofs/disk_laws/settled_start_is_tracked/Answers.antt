use Rattle.crash_safety.proofs.Tracking.{settled_tracked}
use Rattle.crash_safety.proofs.Needing.{settled_needs}
use Rattle.crash_safety.proofs.disk_laws.settled_start_is_tracked.Goals as goal

pub returns : goal.returns
returns c = record {
  tracked = λ s settled well_formed. settled_tracked s settled well_formed;
  needs = λ tops holders rewritten s settled. settled_needs tops holders rewritten s settled;
}
