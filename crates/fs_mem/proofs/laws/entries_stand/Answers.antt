use Rattle.fs_mem.proofs.Faults.{stand}
use Rattle.fs_mem.proofs.laws.entries_stand.Goals as goal

pub returns : goal.returns
returns c = stand
