use Rattle.phase_facts.proofs.Ended.{ended, ending_within}
use Rattle.phase_facts.proofs.finishing.finishing_is_marked.Goals as goal

pub returns-clause-marked : goal.returns-clause-marked
returns-clause-marked c job catalog head stage still opening old new can places ends held m = ended job catalog head stage still opening old new can places ends held m

pub returns-clause-leaves : goal.returns-clause-leaves
returns-clause-leaves c places old new m = ending_within places old new m
