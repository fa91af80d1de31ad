use Rattle.std.proofs.Common.{false, ◌∷◌, [], refl}
use Rattle.control_file.specs.declared.modes.Side.TheVariants.{Old, New}
use Rattle.compat_checks.specs.Order.{PreparedIs}
use Rattle.upgrade_checks.proofs.Testing.{tested_on, tested_first, tested_then}
use Rattle.upgrade_checks.proofs.trees.test_both_prepared.Goals as goal

pub returns-in_err-test_prepared : goal.returns-in_err-test_prepared
returns-in_err-test_prepared g c = record {
  tested = λ readings.
      tested_on false c.args.job.now readings _ _ _ c.from_residual.result c.in_err-test_prepared.field-0.0 c.from_residual.ensures.1
      (tested_first false c.args.job.now readings (PreparedIs Old ∷ []) (PreparedIs New ∷ []) _ _ c.in_err-test_prepared.field-0.0 (c.in_err-test_prepared.ensures.tested c.args.job.now readings refl));
}

pub returns : goal.returns
returns g c = record {
  tested = λ readings.
      tested_then false c.args.job.now readings (PreparedIs Old ∷ []) (PreparedIs New ∷ []) _ _ _ _ c.test_prepared-2.result (c.in_ok-test_prepared.ensures.tested c.args.job.now readings refl) (c.test_prepared-2.ensures.tested c.args.job.now readings refl);
}
