use Rattle.std.proofs.Common.{take}
use Rattle.std.specs.List.{AllByRecursion}
use Rattle.relation_map.specs.Pairs.{HasNoFault, new_alone}
use Rattle.relation_map.proofs.building.pass_new_databases.Given as goal

abbrev pub invariant-loop-i : goal.invariant-loop-i
invariant-loop-i l = AllByRecursion (HasNoFault l.old l.new) (new_alone l.old (take l.i l.new.databases))
