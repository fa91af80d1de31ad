-- What the clusters have besides their relations.
use Rattle.std.specs.Prelude.{ℕ, Bool, not, nat_eq, if◌then◌else◌, Option}
use Rattle.std.specs.List.{list_any, find}
use Rattle.std.specs.Option.{option_map}
use Rattle.catalog.specs.declared.owners.Role.{Role}
use Rattle.catalog.specs.Cluster.{DatabaseObjects, Cluster, bootstrap_role}

-- a role besides the one that made the cluster
abbrev pub is_added_role : Role → Bool
is_added_role role = not (nat_eq role.oid bootstrap_role)

abbrev pub has_more_roles : Cluster → Bool
has_more_roles c = list_any is_added_role c.roles

-- `template0` with connections, or another database without
abbrev pub has_wrong_connections : DatabaseObjects → Bool
has_wrong_connections d = if nat_eq d.oid 4 then d.connections else not d.connections

-- the OID of the first such database
abbrev pub wrong_connections : Cluster → Option ℕ
wrong_connections c = option_map (λ d. d.oid) (find has_wrong_connections c.databases)
