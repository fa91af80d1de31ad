-- What a cluster has that nobody added to, as counts: a valid catalog begins with the objects that it starts with.
use Rattle.std.specs.Prelude.{ℕ, Bool, false, not, ◌&&◌, ◌==◌, List, length, Option, Some, None, slice_get}
use Rattle.catalog.specs.Cluster.{DatabaseObjects, Cluster}
use Rattle.catalog_checks.specs.Clusters.{has_wrong_connections}

abbrev pub is_bare : DatabaseObjects → Bool
is_bare d =
    (length d.schemas == 1) && (length d.enums == 0) && (length d.tables == 0) && (length d.indexes == 0) && (length d.sequences == 0) && not (has_wrong_connections d)

abbrev pub is_bare_at : Option DatabaseObjects → Bool
is_bare_at None = false
is_bare_at (Some d) = is_bare d

abbrev pub has_first_databases : List DatabaseObjects → Bool
has_first_databases ds = (length ds == 3) && is_bare_at (slice_get ds 0) && is_bare_at (slice_get ds 1) && is_bare_at (slice_get ds 2)

abbrev pub has_first_objects : Cluster → Bool
has_first_objects c = (length c.roles == 1) && (length c.tablespaces == 1) && has_first_databases c.databases
