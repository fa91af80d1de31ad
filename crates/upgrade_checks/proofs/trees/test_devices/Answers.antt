use Rattle.std.proofs.Common.{refl, sym, subst, Some, None, Ok}
use Rattle.control_file.specs.declared.modes.Side.TheVariants.{Old}
use Rattle.compat_checks.specs.declared.refusal.Refusal.TheVariants as refusal
use Rattle.compat_checks.specs.Order.{DeviceDiffersIs}
use Rattle.file_checks.specs.Devices.{IsDeviceDiffers}
use Rattle.upgrade_checks.specs.Findings.{OfLink, TellsPath}
use Rattle.upgrade_checks.specs.declared.stop.PathCondition.TheVariants.{DeviceDiffers}
use Rattle.upgrade_checks.proofs.Testing.{path_tested}
use Rattle.upgrade_checks.proofs.trees.test_devices.Goals as goal

pub returns : goal.returns
returns g c = record {
  tested = λ new link.
      path_tested c.args.job.now (record { old = Ok c.args.old.now; new = new }) DeviceDiffersIs _ _ Old (λ s. IsDeviceDiffers s c.args.job.now.old c.args.job.now.new c.args.old.now) DeviceDiffers c.device_differs-answer.result c.judged_path.result
      (λ s none. subst (λ mode. OfLink mode (TellsPath refusal.DeviceDiffers (IsDeviceDiffers s c.args.job.now.old c.args.job.now.new c.args.old.now)) None) (sym link) none)
      (λ s path some. subst (λ mode. OfLink mode (TellsPath refusal.DeviceDiffers (IsDeviceDiffers s c.args.job.now.old c.args.job.now.new c.args.old.now)) (Some (refusal.DeviceDiffers path))) (sym link) (path, refl, some))
      c.device_differs-answer.ensures.reads (λ _. c.device_differs-answer.ensures.never_refused) c.device_differs-answer.ensures.finds c.judged_path.ensures;
}
