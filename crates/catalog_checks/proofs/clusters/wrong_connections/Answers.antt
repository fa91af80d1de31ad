use Rattle.std.proofs.Common.{◌∙◌, Some, ap, sym}
use Rattle.catalog.specs.Cluster.{DatabaseObjects}
use Rattle.catalog_checks.specs.Clusters.{has_wrong_connections}
use Rattle.catalog_checks.proofs.Searching.{first_here, first_more}
use Rattle.catalog_checks.proofs.clusters.wrong_connections.Goals as goal

pub returns-then-has_wrong_connections : goal.returns-then-has_wrong_connections
returns-then-has_wrong_connections c =
    ap (λ (d : DatabaseObjects). Some d.oid) c.database.view_is
    ∙ first_here (λ (d : DatabaseObjects). d.oid) has_wrong_connections c.args.catalog.now.databases c.loop-i.i c.in-Some.database.now _ (sym c.in-Some.ensures) (sym c.has_wrong_connections.ensures ∙ c.if-has_wrong_connections.true) c.loop-i.invariant

pub loop-i-preserved : goal.loop-i-preserved
loop-i-preserved c =
    first_more (λ (d : DatabaseObjects). d.oid) has_wrong_connections c.args.catalog.now.databases c.loop-i.i c.in-Some.database.now _ (sym c.in-Some.ensures) (sym c.has_wrong_connections.ensures ∙ c.if-has_wrong_connections.false) c.loop-i.invariant
