use Rattle.std.proofs.Common.{refl}
use Rattle.control_file.specs.declared.modes.Side.TheVariants.{Old}
use Rattle.compat_checks.specs.Order.{SharedInodeIs}
use Rattle.shared_inodes.specs.SharedInodes.{IsSharedInode}
use Rattle.upgrade_checks.specs.declared.stop.PathCondition.TheVariants.{SharedInode}
use Rattle.upgrade_checks.proofs.Testing.{path_tested}
use Rattle.upgrade_checks.proofs.trees.test_shared.Goals as goal

pub returns : goal.returns
returns g c = record {
  tested = λ readings.
      path_tested c.args.job.now readings SharedInodeIs _ _ Old (λ s. IsSharedInode s c.args.job.now.old c.args.job.now.new) SharedInode c.shared_inode-answer.result c.judged_path.result (λ s none. none) (λ s path some. (path, refl, some))
      c.shared_inode-answer.ensures.reads c.shared_inode-answer.ensures.never_refused c.shared_inode-answer.ensures.finds c.judged_path.ensures;
}
