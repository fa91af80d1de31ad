use Rattle.passed_checks.proofs.Standing.{old_status, new_status}
use Rattle.passed_checks.proofs.directories.missing_dirs_law.Goals as goal

pub returns : goal.returns
returns c = record {
  old = λ names old new none. old_status names old new none;
  new = λ names old new none. new_status names old new none;
}
