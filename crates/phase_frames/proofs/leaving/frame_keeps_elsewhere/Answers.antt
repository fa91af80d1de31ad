use Rattle.phase_frames.proofs.Kept.{elsewhere_stays, files_stay}
use Rattle.phase_frames.proofs.leaving.frame_keeps_elsewhere.Goals as goal

pub returns-clause-names : goal.returns-clause-names
returns-clause-names c job start s framed path no_old no_new = elsewhere_stays job start s framed path no_old no_new

pub returns-clause-files : goal.returns-clause-files
returns-clause-files c job start s begins framed path inode named other = files_stay job start s framed begins path inode named other
