use Rattle.std.proofs.Common.{◌≡◌, ◌++◌, drop}
use Rattle.std.specs.List.{flat_map}
use Rattle.catalog_server.specs.ReplayNames.{tablespace_names}
use Rattle.server_profile.proofs.names.add_tablespaces.Given as goal

abbrev pub invariant-loop-i : goal.invariant-loop-i
invariant-loop-i l =
    l.names.items ++ flat_map (tablespace_names l.root l.release l.before) (drop l.i l.after.tablespaces) ≡ l.fn.names.items ++ flat_map (tablespace_names l.root l.release l.before) l.after.tablespaces
