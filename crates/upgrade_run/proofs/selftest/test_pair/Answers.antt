use Rattle.std.proofs.Common.{ap, subst}
use Rattle.control_file.specs.declared.job.Job.{Job}
use Rattle.control_file.specs.declared.modes.Mode.{Mode}
use Rattle.upgrade_run.specs.Causes.{TestHasCause}
use Rattle.upgrade_run.proofs.selftest.test_pair.Goals as goal

pub returns-clause-own_cause : goal.returns-clause-own_cause
returns-clause-own_cause g c = subst (λ (mode : Mode). TestHasCause mode c.upgrade_pair.result) (ap (λ (job : Job). job.mode) c.in-Ok.ensures) c.upgrade_pair.ensures.own_cause

pub returns-clause-tested : goal.returns-clause-tested
returns-clause-tested g c told = c.upgrade_pair.ensures.tested told c.args.mode c.in-Ok.ensures
