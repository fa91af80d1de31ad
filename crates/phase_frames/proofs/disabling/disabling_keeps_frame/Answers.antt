use Rattle.phase_frames.proofs.Moves.{disabled_framed}
use Rattle.phase_frames.proofs.disabling.disabling_keeps_frame.Goals as goal

pub returns : goal.returns
returns c job opening a b begins disabling framed dir goes = disabled_framed job opening a b begins disabling framed dir goes
