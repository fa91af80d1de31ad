use Rattle.std.proofs.Common.{◌≡◌}
use Rattle.std.specs.Map.{keys_of}
use Rattle.std.specs.List.{filter_map}
use Rattle.fs_model.specs.Calls.{child_name}
use Rattle.fs_maps.proofs.Subtrees.{IsRest}
use Rattle.fs_maps.proofs.path_map.PathMap.has_child.Given as goal

abbrev pub invariant-loop-path : goal.invariant-loop-path
invariant-loop-path g l = record {
  names : filter_map (child_name l.dir) (keys_of l.path-iterator) ≡ filter_map (child_name l.dir) (keys_of l.initial.path-iterator);
  rest : IsRest l.dir (keys_of l.path-iterator);
}
