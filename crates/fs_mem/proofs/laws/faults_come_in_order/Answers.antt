use Rattle.fs_mem.proofs.Faults.{in_order}
use Rattle.fs_mem.proofs.laws.faults_come_in_order.Goals as goal

pub returns : goal.returns
returns c = in_order
