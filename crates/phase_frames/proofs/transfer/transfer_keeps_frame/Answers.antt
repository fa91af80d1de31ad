use Rattle.phase_frames.proofs.Steps.{copied_framed, linked_framed}
use Rattle.phase_frames.proofs.transfer.transfer_keeps_frame.Goals as goal

pub returns-clause-copies : goal.returns-clause-copies
returns-clause-copies c job items opening a b begins plan framed goes = copied_framed job items opening a b begins plan framed goes

pub returns-clause-links : goal.returns-clause-links
returns-clause-links c job items opening a b begins plan framed goes = linked_framed job items opening a b begins plan framed goes
