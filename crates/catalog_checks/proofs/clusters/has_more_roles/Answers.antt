use Rattle.std.proofs.Common.{◌∙◌, sym}
use Rattle.catalog_checks.specs.Clusters.{is_added_role}
use Rattle.catalog_checks.proofs.Searching.{any_here, any_more}
use Rattle.catalog_checks.proofs.clusters.has_more_roles.Goals as goal

pub returns-then-is_added_role : goal.returns-then-is_added_role
returns-then-is_added_role c = any_here is_added_role c.args.catalog.now.roles c.loop-i.i c.in-Some.role.now _ (sym c.in-Some.ensures) (sym c.is_added_role.ensures ∙ c.if-is_added_role.true) c.loop-i.invariant

pub loop-i-preserved : goal.loop-i-preserved
loop-i-preserved c = any_more is_added_role c.args.catalog.now.roles c.loop-i.i c.in-Some.role.now _ (sym c.in-Some.ensures) (sym c.is_added_role.ensures ∙ c.if-is_added_role.false) c.loop-i.invariant
