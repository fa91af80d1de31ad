use Rattle.compat_checks.proofs.Lifting.{controls_lead, controls_first}
use Rattle.compat_checks.proofs.controls.controls_come_first.Goals as goal

pub returns-clause-order : goal.returns-clause-order
returns-clause-order c = controls_lead

pub returns-clause-found : goal.returns-clause-found
returns-clause-found c found s job same = controls_first found s job same
