use Rattle.phase_facts.proofs.Kept.{old_names, replay_old_status, replay_new_status, replay_head}
use Rattle.phase_facts.proofs.keeping.restoring_leaves_status.Goals as goal

pub returns-clause-old_names : goal.returns-clause-old_names
returns-clause-old_names c job catalog before head s t can only path old = old_names job catalog before head s t can only path old

pub returns-clause-old_status : goal.returns-clause-old_status
returns-clause-old_status c job catalog before head s t can only = replay_old_status job catalog before head s t can only

pub returns-clause-new_status : goal.returns-clause-new_status
returns-clause-new_status c job catalog before head s t can only = replay_new_status job catalog before head s t can only

pub returns-clause-head : goal.returns-clause-head
returns-clause-head c job catalog before head s t can only = replay_head job catalog before head s t can only
