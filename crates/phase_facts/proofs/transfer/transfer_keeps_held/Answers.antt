use Rattle.phase_facts.proofs.Transferred.{copied_held, linked_held}
use Rattle.phase_facts.proofs.transfer.transfer_keeps_held.Goals as goal

pub returns-clause-copies : goal.returns-clause-copies
returns-clause-copies c job items opening a b plan held goes = copied_held job items opening a b plan held goes

pub returns-clause-links : goal.returns-clause-links
returns-clause-links c job items opening a b plan held goes = linked_held job items opening a b plan held goes
