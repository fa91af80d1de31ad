use Rattle.std.proofs.Common.{◌≡◌, ◌++◌, drop}
use Rattle.std.specs.List.{flat_map}
use Rattle.catalog_server.specs.ReplayNames.{holding_names}
use Rattle.server_profile.proofs.held.add_holdings.Given as goal

abbrev pub invariant-loop-i : goal.invariant-loop-i
invariant-loop-i l =
    l.names.items ++ flat_map (holding_names l.root l.release l.database l.earlier l.relations) (drop l.i l.after.tablespaces) ≡ l.fn.names.items ++ flat_map (holding_names l.root l.release l.database l.earlier l.relations) l.after.tablespaces
