use Rattle.passed_checks.proofs.Standing.{unused_cluster, profile_alone}
use Rattle.passed_checks.proofs.directories.unused_cluster_law.Goals as goal

pub returns : goal.returns
returns c = record {
  unused = λ s old new missing used. unused_cluster s old new missing used;
  profile = λ names new used name other. profile_alone names new used name other;
}
