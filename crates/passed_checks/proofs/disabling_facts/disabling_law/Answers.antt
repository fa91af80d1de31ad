use Rattle.passed_checks.proofs.Disabling.{can_rename}
use Rattle.passed_checks.proofs.disabling_facts.disabling_law.Goals as goal

pub returns : goal.returns
returns c = λ s well old inode stands free. can_rename s well old inode stands free
