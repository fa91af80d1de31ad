use Rattle.phase_frames.proofs.Ends.{ended_framed}
use Rattle.phase_frames.proofs.finishing.finishing_keeps_frame.Goals as goal

pub returns : goal.returns
returns c job opening a b places at framed run = ended_framed job opening a b places at framed run
