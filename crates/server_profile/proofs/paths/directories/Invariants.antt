use Rattle.std.proofs.Common.{◌≡◌, ℕ, drop}
use Rattle.std.specs.Option.{option_map}
use Rattle.std.specs.List.{find}
use Rattle.std.specs.FinMap.{get}
use Rattle.catalog.specs.Spaces.{tablespace_has}
use Rattle.catalog_server.specs.ReplayNames.{databases_path}
use Rattle.server_profile.specs.Directories.{first_of}
use Rattle.server_profile.proofs.paths.directories.Given as goal

abbrev pub invariant-loop-i : goal.invariant-loop-i
invariant-loop-i l =
    (oid : ℕ) → first_of (get l.directories oid) (option_map (databases_path l.root l.release) (find (tablespace_has oid) (drop l.i l.catalog.tablespaces))) ≡ option_map (databases_path l.root l.release) (find (tablespace_has oid) l.catalog.tablespaces)
