use Rattle.std.proofs.Common.{◌≡◌, sym, subst}
use Rattle.fs_model.specs.Observed.{OnlyReads}
use Rattle.relation_map.specs.Pairs.{entries_of}
use Rattle.plan_build.specs.Plannable.{IsPlanOf}
use Rattle.phases.proofs.Carrying.{if_ok, free_answer, free_unrefused}
use Rattle.phases.proofs.preparing.prepare.Goals as goal

pub returns-clause-reads : goal.returns-clause-reads
returns-clause-reads g c =
    subst (OnlyReads
    (record { told = g.F.Fs.told c.args.fs.now; firm = g.F.Fs.firm c.args.fs.now; depth = g.F.Fs.depth c.args.fs.now; trail = g.F.Fs.trail c.args.fs.now; counts = g.F.Fs.counts c.args.fs.now })
    (record { told = g.F.Fs.told c.make_plan.new.fs; firm = g.F.Fs.firm c.make_plan.new.fs; depth = g.F.Fs.depth c.make_plan.new.fs; trail = g.F.Fs.trail c.make_plan.new.fs; counts = g.F.Fs.counts c.make_plan.new.fs }))
    (sym (free_answer _ c.with_plan.result c.with_plan.ensures.lack)) c.in_ok-plan.ensures.reads

pub returns-clause-plan : goal.returns-clause-plan
returns-clause-plan g c told can =
    let s = (g.F.Fs.trail c.args.fs.now).present in
    let entries = entries_of c.args.job.now c.args.old.now c.args.new.now in
    if_ok _ c.with_plan.result (λ prepared. prepared.plan ≡ c.in_ok-plan.plan) (λ prepared. IsPlanOf s entries prepared.plan)
    (λ prepared is. subst (IsPlanOf s entries) (sym is) (c.in_ok-plan.ensures.plan told can)) c.with_plan.ensures.plan

pub returns-clause-paths : goal.returns-clause-paths
returns-clause-paths g c = c.with_plan.ensures.paths

pub returns-clause-places : goal.returns-clause-places
returns-clause-places g c = c.with_plan.ensures.places

pub returns-clause-unrefused : goal.returns-clause-unrefused
returns-clause-unrefused g c = free_unrefused _ c.with_plan.result c.with_plan.ensures.lack
