use Rattle.std.proofs.Common.{◌≡◌}
use Rattle.cluster_gen.specs.Catalogs.{old_catalog}
use Rattle.cluster_gen.proofs.catalogs.old_catalog.Given as goal

abbrev pub invariant-loop-table : goal.invariant-loop-table
invariant-loop-table l = l.catalog ≡ old_catalog l.table
