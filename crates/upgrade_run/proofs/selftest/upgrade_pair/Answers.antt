use Rattle.std.proofs.Common.{◌≡◌, ◌∙◌, subst}
use Rattle.control_file.specs.declared.job.Job.{Job}
use Rattle.upgrade_run.specs.Means.{IfDone}
use Rattle.upgrade_run.specs.Ends.{EndsFinished}
use Rattle.upgrade_run.proofs.selftest.upgrade_pair.Goals as goal

pub returns-clause-own_cause : goal.returns-clause-own_cause
returns-clause-own_cause g c =
    c.count_pair.ensures.own_cause c.args.job (g.F.Fs.counts c.args.fs.now) (g.F.Fs.counts c.upgrade-upgraded.new.fs) (g.S.Server.counts c.args.server.now) (g.S.Server.counts c.upgrade-upgraded.new.server) c.upgrade-upgraded.ensures.own_cause

pub returns-clause-tested : goal.returns-clause-tested
returns-clause-tested g c told mode is =
    let read = g.S.Server.catalog_of in
    let s = (g.F.Fs.trail c.args.fs.now).present in
    let x = (g.F.Fs.trail c.upgrade-upgraded.new.fs).present in
    c.count_pair.ensures.tested (c.upgrade-upgraded.ensures.told ∙ told) mode s (subst (λ (job : Job). IfDone c.upgrade-upgraded.result (EndsFinished read job s x)) is (c.upgrade-upgraded.ensures.finished told))
