use Rattle.std.proofs.Common.{◌≡◌, ◌++◌, drop}
use Rattle.std.specs.List.{flat_map}
use Rattle.server_profile.specs.Directories.{relation_in}
use Rattle.server_profile.proofs.held.add_relations.Given as goal

abbrev pub invariant-loop-i : goal.invariant-loop-i
invariant-loop-i l =
    l.names.items ++ flat_map (relation_in l.directories l.database l.earlier) (drop l.i l.relations) ≡ l.fn.names.items ++ flat_map (relation_in l.directories l.database l.earlier) l.relations
