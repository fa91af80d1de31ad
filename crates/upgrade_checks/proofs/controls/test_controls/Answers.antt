use Rattle.upgrade_checks.proofs.ControlTests.{controls_tested}
use Rattle.upgrade_checks.proofs.controls.test_controls.Goals as goal

pub returns-clause-tested : goal.returns-clause-tested
returns-clause-tested g c readings = controls_tested c.args.job.now readings _ _ c.check_controls-answer.result c.judged_controls.result c.judged_controls.ensures c.check_controls-answer.ensures.reads c.check_controls-answer.ensures.tells
