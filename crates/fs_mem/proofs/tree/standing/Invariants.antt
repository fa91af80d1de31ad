use Rattle.std.proofs.Common.{◌≡◌, ◌++◌}
use Rattle.std.specs.List.{filter_map}
use Rattle.std.specs.FinMap as map
use Rattle.fs_mem.specs.Tree.{item_at}
use Rattle.fs_mem.proofs.tree.standing.Given as goal

abbrev pub invariant-loop-path : goal.invariant-loop-path
invariant-loop-path l = l.entries.items ++ filter_map (item_at l.state) l.path-iterator.rest.items ≡ filter_map (item_at l.state) (map.keys l.state.names)
