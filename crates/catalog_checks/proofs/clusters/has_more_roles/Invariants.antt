use Rattle.std.proofs.Common.{◌≡◌, drop}
use Rattle.std.specs.List.{list_any}
use Rattle.catalog_checks.specs.Clusters.{is_added_role, has_more_roles}
use Rattle.catalog_checks.proofs.clusters.has_more_roles.Given as goal

abbrev pub invariant-loop-i : goal.invariant-loop-i
invariant-loop-i l = list_any is_added_role (drop l.i l.catalog.roles) ≡ has_more_roles l.catalog
