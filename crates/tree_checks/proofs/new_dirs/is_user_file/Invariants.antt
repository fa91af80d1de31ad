use Rattle.std.proofs.Common.{◌≡◌, ◌<◌, drop}
use Rattle.tree_checks.specs.NewDirs.{leading_number, number_after}
use Rattle.tree_checks.proofs.new_dirs.is_user_file.Given as goal

abbrev pub invariant-loop-b : goal.invariant-loop-b
invariant-loop-b l = record {
  small : l.number < 16384;
  items : l.b-items ≡ l.name;
  rest : leading_number l.name ≡ number_after l.number (drop l.b-index l.b-items);
}
