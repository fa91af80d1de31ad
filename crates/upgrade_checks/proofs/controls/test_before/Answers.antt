use Rattle.std.proofs.Common.{false}
use Rattle.upgrade_checks.specs.Parts.{control_part, prepared_part}
use Rattle.upgrade_checks.proofs.Testing.{tested_on, tested_first, tested_then, tested_stop, tested_as}
use Rattle.upgrade_checks.proofs.controls.test_before.Goals as goal

pub returns-in_err-controls-clause-tested : goal.returns-in_err-controls-clause-tested
returns-in_err-controls-clause-tested g c readings =
    tested_on false c.args.job.now readings _ _ _ c.from_residual.result c.in_err-controls.field-0.0 c.from_residual.ensures.1
    (tested_first false c.args.job.now readings control_part prepared_part _ _ c.in_err-controls.field-0.0 (c.in_err-controls.ensures.tested readings))

pub returns-in_err-test_both_prepared-clause-tested : goal.returns-in_err-test_both_prepared-clause-tested
returns-in_err-test_both_prepared-clause-tested g c readings =
    let stop = c.in_err-test_both_prepared.field-0.0 in
    tested_on false c.args.job.now readings _ _ _ c.from_residual-in_err-test_both_prepared.result stop c.from_residual-in_err-test_both_prepared.ensures.1
    (tested_stop false c.args.job.now readings _ _ _ stop
    (tested_then false c.args.job.now readings control_part prepared_part _ _ _ _ _ (c.in_ok-controls.ensures.tested readings) (c.in_err-test_both_prepared.ensures.tested readings)))

pub returns-clause-tested : goal.returns-clause-tested
returns-clause-tested g c readings =
    tested_as false c.args.job.now readings _ _ _ tt _
    (tested_then false c.args.job.now readings control_part prepared_part _ _ _ _ _ (c.in_ok-controls.ensures.tested readings) (c.in_ok-test_both_prepared.ensures.tested readings))
