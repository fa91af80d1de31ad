use Rattle.phase_frames.proofs.Kept.{start_framed}
use Rattle.phase_frames.proofs.opening.opening_is_framed.Goals as goal

pub returns : goal.returns
returns c job s = start_framed job s
