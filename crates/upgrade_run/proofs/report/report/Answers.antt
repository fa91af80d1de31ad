use Rattle.std.proofs.Common.{sym, subst}
use Rattle.fs_model.specs.Trail.{HasCause}
use Rattle.upgrade_run.specs.Causes.{ReportHasCause, failure_in}
use Rattle.upgrade_run.specs.Means.{LeavesAll, HasBegun, ReportMeans}
use Rattle.upgrade_run.proofs.Reporting.{report_begun, report_means, report_leaves, report_cause, report_counts}
use Rattle.upgrade_run.proofs.report.report.Goals as goal

pub returns-clause-leaves : goal.returns-clause-leaves
returns-clause-leaves g c told = subst LeavesAll (sym c.report_answer.ensures) (report_leaves c.args.old c.verdict_of-verdict.result (c.verdict_of-verdict.ensures.never_refused told))

pub returns-clause-means : goal.returns-clause-means
returns-clause-means g c told =
    let s = (g.F.Fs.trail c.args.fs.now).present in
    subst (ReportMeans s c.args.old c.args.new.now) (sym c.report_answer.ensures) (report_means s c.args.old c.args.new.now c.verdict_of-verdict.result (c.verdict_of-verdict.ensures.exact told) (c.verdict_of-verdict.ensures.never_refused told))

pub returns-clause-own_cause : goal.returns-clause-own_cause
returns-clause-own_cause g c =
    let before = g.F.Fs.counts c.args.fs.now in
    let now = g.F.Fs.counts c.verdict_of-verdict.new.fs in
    subst (λ answer. ReportHasCause c.args.old answer before now) (sym c.report_answer.ensures) (report_cause c.args.old c.verdict_of-verdict.result (g.F.Fs.firm c.args.fs.now) before now c.verdict_of-verdict.ensures.reads.cause)

pub returns-clause-counts : goal.returns-clause-counts
returns-clause-counts g c =
    let firm = g.F.Fs.firm c.args.fs.now in
    let before = g.F.Fs.counts c.args.fs.now in
    let now = g.F.Fs.counts c.verdict_of-verdict.new.fs in
    subst (λ answer. HasCause firm before now (failure_in answer)) (sym c.report_answer.ensures) (report_counts c.args.old c.verdict_of-verdict.result firm before now c.verdict_of-verdict.ensures.reads.cause)

pub returns-clause-begun : goal.returns-clause-begun
returns-clause-begun g c = subst HasBegun (sym c.report_answer.ensures) (report_begun c.args.old c.verdict_of-verdict.result)
