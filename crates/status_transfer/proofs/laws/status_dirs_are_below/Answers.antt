use Rattle.status_transfer.proofs.StatusDirs.{dirs_held, dirs_outside, control_outside}
use Rattle.status_transfer.proofs.laws.status_dirs_are_below.Goals as goal

pub returns : goal.returns
returns c = record {
  held = λ tops holders root inside path within. dirs_held tops holders root inside path within;
  outside = λ root name rest other others. dirs_outside root name rest other others;
  control = λ root. control_outside root;
}
