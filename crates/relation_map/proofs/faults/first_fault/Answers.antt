use Rattle.relation_map.proofs.Least.{none_faulty, least_is, least_there}
use Rattle.relation_map.proofs.faults.first_fault.Goals as goal

pub returns-in-None-clause-none : goal.returns-in-None-clause-none
returns-in-None-clause-none c = none_faulty c.args.database c.args.old.now c.args.new.now c.least_fault.result c.least_fault-of_old.result c.least_fault-of_old.ensures c.least_fault.ensures c.in-None.is

pub returns-in-Some-clause-none : goal.returns-in-Some-clause-none
returns-in-Some-clause-none c =
    least_there c.args.database c.args.old.now c.args.new.now c.least_fault.result c.least_fault-of_old.result c.in-Some.oid c.fault_at.result c.least_fault-of_old.ensures c.least_fault.ensures c.in-Some.is c.fault_at.ensures

pub returns-in-Some-clause-least : goal.returns-in-Some-clause-least
returns-in-Some-clause-least c =
    least_is c.args.database c.args.old.now c.args.new.now c.least_fault.result c.least_fault-of_old.result c.in-Some.oid c.fault_at.result c.least_fault-of_old.ensures c.least_fault.ensures c.in-Some.is c.fault_at.ensures
