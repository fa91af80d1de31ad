use Rattle.phase_frames.proofs.Widths.{goes_framed, reads_framed}
use Rattle.phase_frames.proofs.making.making_keeps_frame.Goals as goal

pub returns-clause-makes : goal.returns-clause-makes
returns-clause-makes c job opening a b tops inside no_control framed goes = goes_framed job opening a b tops inside no_control framed goes

pub returns-clause-reads : goal.returns-clause-reads
returns-clause-reads c job opening a b framed unchanged = reads_framed job opening a b framed unchanged
