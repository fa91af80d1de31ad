use Rattle.std.proofs.Common.{◌∙◌, subst}
use Rattle.status_transfer.specs.Counted.{SetsCounters}
use Rattle.status_transfer.specs.Status.{status_dirs}
use Rattle.status_transfer.proofs.Sharing.{carries_share_none}
use Rattle.phases.specs.Preparing.{HasTransactions}
use Rattle.phases.proofs.Carrying.{on_ok, carried_alone, nothing_carried, then_counted, head_there}
use Rattle.phases.proofs.preparing.carry_transactions.Goals as goal

pub returns-in_err-control-clause-calls : goal.returns-in_err-control-clause-calls
returns-in_err-control-clause-calls g c told = nothing_carried c.args.job.now (g.F.Fs.trail c.args.fs.now)

pub returns-in_err-carry_status-clause-calls : goal.returns-in_err-carry_status-clause-calls
returns-in_err-carry_status-clause-calls g c told = carried_alone c.args.job.now (g.F.Fs.trail c.args.fs.now) (g.F.Fs.trail c.carry_status.new.fs) (c.carry_status.ensures.calls told)

pub returns-clause-calls : goal.returns-clause-calls
returns-clause-calls g c told =
    let told_1 = c.carry_status.ensures.told ∙ told in
    then_counted c.args.job.now c.in_ok-control.control c.in_ok-control.ensures.path (g.F.Fs.trail c.args.fs.now) (g.F.Fs.trail c.carry_status.new.fs) (g.F.Fs.trail c.set_counters.new.fs) (c.carry_status.ensures.calls told) (c.set_counters.ensures.calls told_1) (c.set_counters.ensures.frame told_1)

pub returns-clause-unrefused : goal.returns-clause-unrefused
returns-clause-unrefused g c told apart old_status new_status head =
    c.set_counters.ensures.unrefused (c.carry_status.ensures.told ∙ told)
    (head_there c.args.job.now c.in_ok-control.control c.in_ok-control.ensures.path (g.F.Fs.trail c.args.fs.now) (g.F.Fs.trail c.carry_status.new.fs) c.args.passed.now.new_record (c.moment.ensures.well_formed told) (c.carry_status.ensures.frame told) head)

pub returns-clause-carried : goal.returns-clause-carried
returns-clause-carried g c told apart head =
    let job = c.args.job.now in
    let old = g.F.Fs.trail c.args.fs.now in
    let middle = g.F.Fs.trail c.carry_status.new.fs in
    let new = g.F.Fs.trail c.set_counters.new.fs in
    let counters = c.args.passed.now.old_control.counters in
    on_ok _ c.set_counters.result (SetsCounters middle.present c.in_ok-control.control counters new.present) (HasTransactions job counters old.present new.present)
    (λ counted. record {
      carried = middle.present;
      status = record { only = (c.carry_status.ensures.frame told).present; own = (carries_share_none (status_dirs job.new) old middle (c.carry_status.ensures.calls told)).present; carried = c.in_ok-carry_status.ensures.carried told apart };
      counted = subst (λ at. SetsCounters middle.present at counters new.present) c.in_ok-control.ensures.path counted;
    })
    (c.set_counters.ensures.counted (c.carry_status.ensures.told ∙ told)
    (head_there job c.in_ok-control.control c.in_ok-control.ensures.path old middle c.args.passed.now.new_record (c.moment.ensures.well_formed told) (c.carry_status.ensures.frame told) head))
