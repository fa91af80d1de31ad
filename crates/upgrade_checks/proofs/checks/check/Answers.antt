use Rattle.std.proofs.Common.{◌∙◌, sym, subst}
use Rattle.std.specs.Prelude.{IfOk}
use Rattle.fs_model.specs.State.{FsState}
use Rattle.upgrade_checks.specs.Findings.{Readings, readings_in}
use Rattle.upgrade_checks.specs.Passing.{IsFirst, Passes, FindsNothing}
use Rattle.upgrade_checks.specs.Answers.{IfRefused, IsNoChange, IsReadFrom, IsTold}
use Rattle.upgrade_checks.proofs.Judging.{nothing_judged, passes_judged, first_judged, no_change_judged, ok_judged, told_judged, cause_so, server_so, overlap_first}
use Rattle.upgrade_checks.proofs.checks.check.Goals as goal

pub returns-then-overlaps-clause-first : goal.returns-then-overlaps-clause-first
returns-then-overlaps-clause-first g c told =
    let s : FsState = (g.F.Fs.trail c.args.fs.now).present in
    overlap_first c.args.job.now.old c.args.job.now.new s c.args.job.now (readings_in g.S.Server.catalog_of s c.args.job.now) (sym c.overlaps.ensures ∙ c.if-overlaps.true)

pub returns-clause-passes : goal.returns-clause-passes
returns-clause-passes g c told =
    let s : FsState = (g.F.Fs.trail c.args.fs.now).present in
    let readings : Readings = readings_in g.S.Server.catalog_of s c.args.job.now in
    subst (λ r. IfOk r (λ _. Passes s c.args.job.now readings)) (sym c.judged_all.ensures) (passes_judged c.in-Ok-Ok.old c.in-Ok-Ok.new s c.args.job.now readings c.test_all-answer.result (c.test_all-answer.ensures.tested.tells told))

pub returns-clause-nothing : goal.returns-clause-nothing
returns-clause-nothing g c told =
    let s : FsState = (g.F.Fs.trail c.args.fs.now).present in
    let readings : Readings = readings_in g.S.Server.catalog_of s c.args.job.now in
    subst (λ r. IfOk r (λ _. FindsNothing s c.args.job.now readings)) (sym c.judged_all.ensures) (nothing_judged c.in-Ok-Ok.old c.in-Ok-Ok.new s c.args.job.now readings c.test_all-answer.result (c.test_all-answer.ensures.tested.tells told))

pub returns-clause-read : goal.returns-clause-read
returns-clause-read g c told =
    let s : FsState = (g.F.Fs.trail c.args.fs.now).present in
    let readings : Readings = readings_in g.S.Server.catalog_of s c.args.job.now in
    subst (λ r. IfOk r (IsReadFrom s c.args.job.now readings)) (sym c.judged_all.ensures) (ok_judged c.in-Ok-Ok.old c.in-Ok-Ok.new (IsReadFrom s c.args.job.now readings) c.test_all-answer.result (c.test_all-answer.ensures.read told))

pub returns-clause-first : goal.returns-clause-first
returns-clause-first g c told =
    let s : FsState = (g.F.Fs.trail c.args.fs.now).present in
    let readings : Readings = readings_in g.S.Server.catalog_of s c.args.job.now in
    subst (λ r. IfRefused r (IsFirst s c.args.job.now readings)) (sym c.judged_all.ensures) (first_judged c.in-Ok-Ok.old c.in-Ok-Ok.new s c.args.job.now readings c.test_all-answer.result (c.test_all-answer.ensures.tested.tells told))

pub returns-clause-no_change : goal.returns-clause-no_change
returns-clause-no_change g c told =
    let s : FsState = (g.F.Fs.trail c.args.fs.now).present in
    let readings : Readings = readings_in g.S.Server.catalog_of s c.args.job.now in
    subst IsNoChange (sym c.judged_all.ensures) (no_change_judged c.in-Ok-Ok.old c.in-Ok-Ok.new s c.args.job.now readings c.test_all-answer.result (c.test_all-answer.ensures.tested.tells told))

pub returns-clause-roots : goal.returns-clause-roots
returns-clause-roots g c =
    subst (IsTold c.args.job.now) (sym c.judged_all.ensures) (told_judged c.in-Ok-Ok.old c.in-Ok-Ok.new c.args.job.now c.in-Ok-Ok.ensures.path c.in-Ok-Ok.ensures'.path c.test_all-answer.result)

pub returns-clause-cause : goal.returns-clause-cause
returns-clause-cause g c = cause_so c.in-Ok-Ok.old c.in-Ok-Ok.new _ _ _ c.test_all-answer.result c.judged_all.result c.judged_all.ensures c.test_all-answer.ensures.tested.cause

pub returns-clause-server : goal.returns-clause-server
returns-clause-server g c = server_so c.in-Ok-Ok.old c.in-Ok-Ok.new _ _ c.test_all-answer.result c.judged_all.result c.judged_all.ensures c.test_all-answer.ensures.server
