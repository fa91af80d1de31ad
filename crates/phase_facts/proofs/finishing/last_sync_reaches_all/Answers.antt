use Rattle.phase_facts.proofs.Ended.{end_needs, end_control}
use Rattle.phase_facts.proofs.finishing.last_sync_reaches_all.Goals as goal

pub returns-clause-tracked : goal.returns-clause-tracked
returns-clause-tracked c job stage opening now held settled = (held.needs settled).tracked

pub returns-clause-needs : goal.returns-clause-needs
returns-clause-needs c job catalog head stage opening now can places ends held settled = end_needs job catalog head opening.present can places ends now.present (held.needs settled)

pub returns-clause-control : goal.returns-clause-control
returns-clause-control c job catalog head opening can places ends = end_control job catalog head opening.present can places ends
