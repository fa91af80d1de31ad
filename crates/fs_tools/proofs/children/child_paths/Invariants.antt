use Rattle.std.proofs.Common.{◌≡◌, map, take}
use Rattle.fs_tools.specs.Children.{child_of}
use Rattle.fs_tools.proofs.children.child_paths.Given as goal

abbrev pub invariant-loop-name : goal.invariant-loop-name
invariant-loop-name l = l.paths.items ≡ map (child_of l.at) (take l.name-index l.names)
