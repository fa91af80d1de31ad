use Rattle.std.proofs.Common.{◌≡◌, drop}
use Rattle.std.specs.List.{list_any}
use Rattle.catalog_checks.specs.Limits.{is_long, has_long_location}
use Rattle.catalog_checks.proofs.limits.has_long_location.Given as goal

abbrev pub invariant-loop-i : goal.invariant-loop-i
invariant-loop-i l = list_any is_long (drop l.i l.catalog.tablespaces) ≡ has_long_location l.catalog
