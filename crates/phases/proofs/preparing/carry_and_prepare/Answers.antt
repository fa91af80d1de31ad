use Rattle.std.proofs.Common.{◌≡◌, ◌∙◌, sym, subst}
use Rattle.fs_model.specs.State.{FsState}
use Rattle.catalog.specs.Cluster.{Cluster}
use Rattle.relation_map.specs.Pairs.{entries_of}
use Rattle.plan_build.specs.Plannable.{CanBePlanned, IsPlanOf}
use Rattle.phases.specs.Preparing.{HasTransactions}
use Rattle.phases.proofs.Carrying.{if_ok, always_ok, unchanged_after, not_yet_read}
use Rattle.phases.proofs.preparing.carry_and_prepare.Goals as goal

pub prepare-requires : goal.prepare-requires
prepare-requires g c told = c.requires (sym c.carry_transactions.ensures.told ∙ told)

pub returns-in_err-carry_transactions-clause-calls : goal.returns-in_err-carry_transactions-clause-calls
returns-in_err-carry_transactions-clause-calls g c told = not_yet_read c.args.restored.now.job (g.F.Fs.trail c.args.fs.now) (g.F.Fs.trail c.carry_transactions.new.fs) (c.carry_transactions.ensures.calls told)

pub returns-clause-calls : goal.returns-clause-calls
returns-clause-calls g c told =
    unchanged_after c.args.restored.now.job (g.F.Fs.trail c.args.fs.now) (g.F.Fs.trail c.carry_transactions.new.fs) (g.F.Fs.trail c.prepare.new.fs) (c.carry_transactions.ensures.calls told)
    (c.prepare.ensures.reads.unchanged (c.carry_transactions.ensures.told ∙ told))

pub returns-clause-carried : goal.returns-clause-carried
returns-clause-carried g c told apart head =
    let restored = c.args.restored.now in
    let old = g.F.Fs.trail c.args.fs.now in
    let new = g.F.Fs.trail c.prepare.new.fs in
    let same = (c.prepare.ensures.reads.unchanged (c.carry_transactions.ensures.told ∙ told)).present in
    always_ok _ c.prepare.result (HasTransactions restored.job restored.passed.old_control.counters old.present new.present)
    (subst (HasTransactions restored.job restored.passed.old_control.counters old.present) (sym same) (c.in_ok-carry_transactions.ensures.carried told apart head))

pub returns-clause-plan : goal.returns-clause-plan
returns-clause-plan g c told can =
    let restored = c.args.restored.now in
    let told_1 = c.carry_transactions.ensures.told ∙ told in
    let middle = g.F.Fs.trail c.carry_transactions.new.fs in
    let new = g.F.Fs.trail c.prepare.new.fs in
    let old_catalog = restored.passed.old_catalog in
    let same : new.present ≡ middle.present = (c.prepare.ensures.reads.unchanged told_1).present in
    let one : restored.new_catalog ≡ old_catalog = c.requires told in
    let can_here = subst (λ (catalog : Cluster). CanBePlanned middle.present (entries_of restored.job old_catalog catalog)) (sym one) (subst (λ (s : FsState). CanBePlanned s (entries_of restored.job old_catalog old_catalog)) same can) in
    if_ok _ c.prepare.result (λ prepared. IsPlanOf middle.present (entries_of restored.job old_catalog restored.new_catalog) prepared.plan) (λ prepared. IsPlanOf new.present (entries_of restored.job old_catalog old_catalog) prepared.plan)
    (λ prepared is. subst (λ (catalog : Cluster). IsPlanOf new.present (entries_of restored.job old_catalog catalog) prepared.plan) one (subst (λ (s : FsState). IsPlanOf s (entries_of restored.job old_catalog restored.new_catalog) prepared.plan) (sym same) is))
    (c.prepare.ensures.plan told_1 can_here)
