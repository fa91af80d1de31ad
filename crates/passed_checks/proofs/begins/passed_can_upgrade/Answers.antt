use Rattle.passed_checks.proofs.Beginning.{can_begin, can_upgrade}
use Rattle.passed_checks.proofs.begins.passed_can_upgrade.Goals as goal

pub returns : goal.returns
returns c = record {
  begins = λ s job catalog well passes. can_begin s job catalog well passes;
  all = λ s job catalog well passes relations valid head is. can_upgrade s job catalog well passes relations valid head is;
}
