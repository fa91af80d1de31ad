use Rattle.std.proofs.Common.{None}
use Rattle.fork_read.proofs.Found.{decided_as}
use Rattle.fork_read.proofs.extents.find_segment.Goals as goal

pub returns-in-Err-clause-unrefused : goal.returns-in-Err-clause-unrefused
returns-in-Err-clause-unrefused g c = decided_as (Unit {0}) (Unit {0}) None c.in-Err.error c.in-Err.ensures.unrefused
