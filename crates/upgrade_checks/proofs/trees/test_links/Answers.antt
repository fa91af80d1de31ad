use Rattle.std.proofs.Common.{false, ◌∷◌, [], Ok}
use Rattle.compat_checks.specs.Order.{DeviceDiffersIs, ControlOldExistsIs}
use Rattle.upgrade_checks.specs.Findings.{Readings}
use Rattle.upgrade_checks.proofs.Testing.{tested_on, tested_first, tested_then}
use Rattle.upgrade_checks.proofs.trees.test_links.Goals as goal

pub returns-in_err-test_devices-in-Link : goal.returns-in_err-test_devices-in-Link
returns-in_err-test_devices-in-Link g c = record {
  tested = λ new.
      let readings : Readings = record { old = Ok c.args.old.now; new = new } in
      let stop = c.in_err-test_devices-in-Link.field-0.0 in
      tested_on false c.args.job.now readings _ _ _ c.from_residual.result stop c.from_residual.ensures.1
      (tested_first false c.args.job.now readings (DeviceDiffersIs ∷ []) (ControlOldExistsIs ∷ []) _ _ stop (c.in_err-test_devices-in-Link.ensures.tested new c.in-Link.is));
}

pub returns-in_ok-test_devices-in-Link : goal.returns-in_ok-test_devices-in-Link
returns-in_ok-test_devices-in-Link g c = record {
  tested = λ new.
      let readings : Readings = record { old = Ok c.args.old.now; new = new } in
      tested_then false c.args.job.now readings (DeviceDiffersIs ∷ []) (ControlOldExistsIs ∷ []) _ _ _ _ c.test_old_control.result (c.in_ok-test_devices-in-Link.ensures.tested new c.in-Link.is) (c.test_old_control.ensures.tested readings c.in-Link.is);
}
