use Rattle.phase_facts.proofs.Crashing.{safe_facts, no_mark, marked_facts}
use Rattle.phase_facts.proofs.crashes.crashes_are_safe.Goals as goal

pub returns-clause-facts : goal.returns-clause-facts
returns-clause-facts c job opening now begins settled safe = safe_facts job opening now begins settled safe

pub returns-clause-no_mark : goal.returns-clause-no_mark
returns-clause-no_mark c job opening now begins settled safe = no_mark job opening now begins settled safe

pub returns-clause-marked : goal.returns-clause-marked
returns-clause-marked c job opening now begins settled before marked = marked_facts job opening now begins settled before marked
