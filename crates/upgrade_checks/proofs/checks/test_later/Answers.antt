use Rattle.std.proofs.Common.{false, Ok, ◌++◌}
use Rattle.upgrade_checks.specs.declared.stop.Stop.TheVariants.{Refused}
use Rattle.upgrade_checks.specs.Findings.{Readings}
use Rattle.upgrade_checks.specs.Parts.{catalog_part, tree_part, link_part}
use Rattle.upgrade_checks.proofs.Testing.{tested_on, tested_first, tested_then, tested_refused, tested_behind}
use Rattle.upgrade_checks.proofs.checks.test_later.Goals as goal

pub returns-in_err-test_catalogs : goal.returns-in_err-test_catalogs
returns-in_err-test_catalogs g c = record {
  tested =
      let readings : Readings = record { old = Ok c.args.catalogs.now.old; new = Ok c.args.catalogs.now.new } in
      let refusal = c.in_err-test_catalogs.field-0.0 in
      tested_on false c.args.job.now readings _ _ _ c.from_residual.result (Refused refusal) c.from_residual.ensures.1
      (tested_refused false c.args.job.now readings catalog_part (tree_part ++ link_part) _ refusal (λ s. c.in_err-test_catalogs.ensures s c.args.job.now));
}

pub returns-in_err-test_trees : goal.returns-in_err-test_trees
returns-in_err-test_trees g c = record {
  tested =
      let readings : Readings = record { old = Ok c.args.catalogs.now.old; new = Ok c.args.catalogs.now.new } in
      let stop = c.in_err-test_trees.field-0.0 in
      tested_on false c.args.job.now readings _ _ _ c.from_residual-in_err-test_trees.result stop c.from_residual-in_err-test_trees.ensures.1
      (tested_behind false c.args.job.now readings catalog_part (tree_part ++ link_part) _ _ _ (λ s. c.in_ok-test_catalogs.ensures s c.args.job.now)
      (tested_first false c.args.job.now readings tree_part link_part _ _ stop (c.in_err-test_trees.ensures.tested readings.new)));
}

pub returns : goal.returns
returns g c = record {
  tested =
      let readings : Readings = record { old = Ok c.args.catalogs.now.old; new = Ok c.args.catalogs.now.new } in
      tested_behind false c.args.job.now readings catalog_part (tree_part ++ link_part) _ _ _ (λ s. c.in_ok-test_catalogs.ensures s c.args.job.now)
      (tested_then false c.args.job.now readings tree_part link_part _ _ _ _ c.test_links.result (c.in_ok-test_trees.ensures.tested readings.new) (c.test_links.ensures.tested readings.new));
}
