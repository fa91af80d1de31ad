use Rattle.std.proofs.Common.{refl, Ok}
use Rattle.control_file.specs.declared.modes.Side.TheVariants.{Old}
use Rattle.tree_checks.specs.Findings.{IsFirstOf}
use Rattle.tree_checks.specs.MissingDirs.{IsMissingDir}
use Rattle.compat_checks.specs.Order.{MissingFileIs}
use Rattle.file_checks.specs.RelationFiles.{IsMissingFile}
use Rattle.upgrade_checks.specs.declared.stop.PathCondition.TheVariants.{MissingFile}
use Rattle.upgrade_checks.proofs.Testing.{path_tested}
use Rattle.upgrade_checks.proofs.trees.test_missing.Goals as goal

pub returns : goal.returns
returns g c = record {
  tested = λ new.
      path_tested c.args.job.now (record { old = Ok c.args.old.now; new = new }) MissingFileIs _ _ Old
      (λ s. IsFirstOf (IsMissingDir s.names c.args.job.now.old c.args.job.now.new) (IsMissingFile s c.args.job.now.old c.args.old.now)) MissingFile c.missing_path-answer.result c.judged_path.result
      (λ s none. none) (λ s path some. (path, refl, some))
      c.missing_path-answer.ensures.reads (λ _. c.missing_path-answer.ensures.never_refused) c.missing_path-answer.ensures.finds c.judged_path.ensures;
}
