use Rattle.std.proofs.Common.{refl}
use Rattle.control_file.specs.declared.modes.Side.TheVariants.{New}
use Rattle.tree_checks.specs.Findings.{IsLeast}
use Rattle.tree_checks.specs.NewDirs.{IsUsed}
use Rattle.compat_checks.specs.Order.{NewUsedIs}
use Rattle.upgrade_checks.specs.declared.stop.PathCondition.TheVariants.{NewUsed}
use Rattle.upgrade_checks.proofs.Testing.{path_tested}
use Rattle.upgrade_checks.proofs.trees.test_used.Goals as goal

pub returns : goal.returns
returns g c = record {
  tested = λ readings.
      path_tested c.args.job.now readings NewUsedIs _ _ New (λ s. IsLeast (IsUsed s.names c.args.job.now.new)) NewUsed c.used_path-answer.result c.judged_path.result (λ s none. none) (λ s path some. (path, refl, some))
      c.used_path-answer.ensures.reads (λ _. c.used_path-answer.ensures.never_refused) c.used_path-answer.ensures.finds c.judged_path.ensures;
}
