use Rattle.std.proofs.Common.{refl, Ok}
use Rattle.control_file.specs.declared.modes.Side.TheVariants.{Old}
use Rattle.compat_checks.specs.Order.{TablespaceDirIs}
use Rattle.file_checks.specs.Tablespaces.{IsTablespaceDir}
use Rattle.upgrade_checks.specs.declared.stop.PathCondition.TheVariants.{TablespaceDir}
use Rattle.upgrade_checks.proofs.Testing.{path_tested}
use Rattle.upgrade_checks.proofs.trees.test_tablespaces.Goals as goal

pub returns : goal.returns
returns g c = record {
  tested = λ new.
      path_tested c.args.job.now (record { old = Ok c.args.old.now; new = new }) TablespaceDirIs _ _ Old (λ s. IsTablespaceDir s c.args.job.now.old c.args.job.now.new c.args.old.now) TablespaceDir c.tablespace_dir-answer.result c.judged_path.result
      (λ s none. none) (λ s path some. (path, refl, some))
      c.tablespace_dir-answer.ensures.reads (λ _. c.tablespace_dir-answer.ensures.never_refused) c.tablespace_dir-answer.ensures.finds c.judged_path.ensures;
}
