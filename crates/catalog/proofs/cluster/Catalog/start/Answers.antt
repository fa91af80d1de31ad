use Rattle.catalog.proofs.ClusterLemmas.{started_valid}
use Rattle.catalog.proofs.cluster.Catalog.start.Goals as goal

pub invariant_of-result : goal.invariant_of-result
invariant_of-result c =
    rw (c.in_ok-roles.ensures.made, c.in_ok-tablespaces.ensures.made, c.in_ok-databases.ensures.made) (started_valid c.args.bootstrap c.requires)
