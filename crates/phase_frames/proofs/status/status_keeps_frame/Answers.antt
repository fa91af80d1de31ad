use Rattle.phase_frames.proofs.Steps.{carried_framed, counted_framed}
use Rattle.phase_frames.proofs.status.status_keeps_frame.Goals as goal

pub returns-clause-carries : goal.returns-clause-carries
returns-clause-carries c job opening a b begins framed goes = carried_framed job opening a b framed begins goes

pub returns-clause-counts : goal.returns-clause-counts
returns-clause-counts c job opening a b framed keeps = counted_framed job opening a b framed keeps
