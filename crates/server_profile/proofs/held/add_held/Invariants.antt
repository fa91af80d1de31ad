use Rattle.std.proofs.Common.{◌≡◌, ◌++◌, drop}
use Rattle.std.specs.List.{flat_map}
use Rattle.catalog_server.specs.ReplayNames.{held_names}
use Rattle.server_profile.proofs.held.add_held.Given as goal

abbrev pub invariant-loop-i : goal.invariant-loop-i
invariant-loop-i l =
    l.names.items ++ flat_map (held_names l.root l.release l.before l.after) (drop l.i l.after.databases) ≡ l.fn.names.items ++ flat_map (held_names l.root l.release l.before l.after) l.after.databases
