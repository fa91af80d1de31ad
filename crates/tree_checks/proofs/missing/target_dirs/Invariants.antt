use Rattle.std.proofs.Common.{◌≡◌, map, take}
use Rattle.tree_checks.specs.NewDirs.{new_dir, new_dirs}
use Rattle.tree_checks.proofs.missing.target_dirs.Given as goal

abbrev pub invariant-loop-dir : goal.invariant-loop-dir
invariant-loop-dir l = record {
  items : l.dir-items ≡ new_dirs;
  dirs : l.dirs.items ≡ map (new_dir l.root) (take l.dir-index l.dir-items);
}
