use Rattle.passed_checks.proofs.Stopped.{are_stopped}
use Rattle.passed_checks.proofs.controls.stopped_clusters_law.Goals as goal

pub returns : goal.returns
returns c = λ s job none. are_stopped s job none
