use Rattle.std.proofs.Common.{◌≡◌, drop}
use Rattle.std.specs.List.{find}
use Rattle.std.specs.Option.{option_map}
use Rattle.catalog.specs.Cluster.{DatabaseObjects}
use Rattle.catalog_checks.specs.Clusters.{has_wrong_connections, wrong_connections}
use Rattle.catalog_checks.proofs.clusters.wrong_connections.Given as goal

abbrev pub invariant-loop-i : goal.invariant-loop-i
invariant-loop-i l = option_map (λ (d : DatabaseObjects). d.oid) (find has_wrong_connections (drop l.i l.catalog.databases)) ≡ wrong_connections l.catalog
