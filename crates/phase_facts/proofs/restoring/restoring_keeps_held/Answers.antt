use Rattle.phase_facts.proofs.Restored.{restored_held}
use Rattle.phase_facts.proofs.restoring.restoring_keeps_held.Goals as goal

pub returns : goal.returns
returns c job catalog before head opening a b can held goes = restored_held job catalog before head opening a b can goes held
