use Rattle.plan_facts.proofs.Counted as counted
use Rattle.plan_facts.proofs.planned.counted_can_be_planned.Goals as goal

pub returns : goal.returns
returns c = λ read job catalog s0 s1 s2 s3 given can own schema status counters well locations other. counted.counted_can_be_planned read job catalog s0 s1 s2 s3 given can own schema status counters well locations other
