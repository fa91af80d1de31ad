use Rattle.crash_safety.specs.Calling.{AnyCall}
use Rattle.crash_safety.proofs.Tracking.{goes_tracked}
use Rattle.crash_safety.proofs.disk_laws.runs_keep_track.Goals as goal

pub returns : goal.returns
returns c a b tracked goes = goes_tracked AnyCall tracked goes
