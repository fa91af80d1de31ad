use Rattle.std.proofs.Common.{◌≡◌, drop}
use Rattle.relation_map.specs.Pairs.{fault_among, least_fault}
use Rattle.relation_map.proofs.faults.least_fault.Given as goal

abbrev pub invariant-loop-i : goal.invariant-loop-i
invariant-loop-i l = least_fault (fault_among l.database l.old l.new) (drop l.i l.relations) l.least ≡ least_fault (fault_among l.database l.old l.new) l.relations l.fn.so_far
