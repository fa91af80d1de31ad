use Rattle.phase_frames.proofs.Steps.{restored_framed}
use Rattle.phase_frames.proofs.restoring.restoring_keeps_frame.Goals as goal

pub returns : goal.returns
returns c job catalog before head opening a b can framed goes = restored_framed job catalog before head opening a b can framed goes
