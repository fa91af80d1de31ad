use Rattle.passed_upgradable.proofs.Passed.{is_upgradable}
use Rattle.passed_upgradable.proofs.upgradable.passed_is_upgradable.Goals as goal

pub returns : goal.returns
returns c = λ read s job catalog well valid are_read passes relations. is_upgradable read s job catalog well valid are_read passes relations
