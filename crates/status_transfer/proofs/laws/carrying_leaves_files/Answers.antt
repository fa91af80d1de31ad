use Rattle.status_transfer.proofs.Staying.{file_stays}
use Rattle.status_transfer.proofs.laws.carrying_leaves_files.Goals as goal

pub returns : goal.returns
returns c dirs a s well keeps path outside = file_stays dirs a s well keeps path outside
