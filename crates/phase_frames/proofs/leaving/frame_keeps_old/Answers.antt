use Rattle.phase_frames.proofs.Kept.{old_kept, names_stay, old_whole}
use Rattle.phase_frames.proofs.leaving.frame_keeps_old.Goals as goal

pub returns-clause-kept : goal.returns-clause-kept
returns-clause-kept c job start s begins framed = old_kept job start s framed begins

pub returns-clause-names : goal.returns-clause-names
returns-clause-names c job start s framed copies path outside = names_stay job start s framed copies path outside

pub returns-clause-whole : goal.returns-clause-whole
returns-clause-whole c job start s begins framed copies = old_whole job start s framed begins copies
