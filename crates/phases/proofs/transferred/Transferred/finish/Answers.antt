use Rattle.std.proofs.Common.{sym, subst}
use Rattle.crash_safety.specs.Places.{control_at}
use Rattle.last_sync.specs.Finished.{IsFileAt}
use Rattle.phase_facts.proofs.Ended.{ended, end_needs, end_control}
use Rattle.phase_frames.proofs.Ends.{ended_framed}
use Rattle.phases.specs.Begun.{stage_of}
use Rattle.fs_model.specs.Names.{Path}
use Rattle.upgraded.specs.Upgraded.{Upgraded}
use Rattle.phase_facts.proofs.Finishable.{can_finish}
use Rattle.phases.specs.Faults.{IsNoChange}
use Rattle.phases.proofs.Disabling.{decided_no_change}
use Rattle.phases.proofs.Crashing.{crashes_have}
use Rattle.phases.proofs.Finishing.{upgraded_then, lists_carried}
use Rattle.phases.proofs.Ending.{still_stage, marks_at_end}
use Rattle.phases.proofs.Linked.{ended_links}
use Rattle.phases.proofs.transferred.Transferred.finish.Goals as goal

pub returns-in-Ok-clause-fact : goal.returns-in-Ok-clause-fact
returns-in-Ok-clause-fact g c told read opening fact =
    let job = c.args.self.job in
    let catalog = c.args.self.catalog in
    let head = fact.transfers.status.head in
    let can = fact.transfers.status.opened.can in
    let run = c.finish_cluster.ensures.marked told in
    let old = g.F.Fs.trail c.args.fs.now in
    let new = g.F.Fs.trail c.finish_cluster.new.fs in
    let marks = marks_at_end job old new (c.moment.ensures.well_formed told) fact.held.unmarked c.args.self.places fact.places.mark run in
    record {
      upgraded = upgraded_then read c.args.self opening old new.present fact marks;
      carried = lists_carried read c.args.self opening old new.present fact marks;
      settled = λ settled.
          let needs = fact.held.needs settled in
          c.in-Ok.ensures.settled told (control_at job.new) (end_control job catalog head opening.present can c.args.self.places fact.places) needs.tracked
          (end_needs job catalog head opening.present can c.args.self.places fact.places (g.F.Fs.trail c.args.fs.now).present needs);
      marked = subst (λ mark. IsFileAt (g.F.Fs.trail c.finish_cluster.new.fs).present mark) fact.places.mark (c.in-Ok.ensures.stands told);
    }

pub returns-in-Ok-clause-marked : goal.returns-in-Ok-clause-marked
returns-in-Ok-clause-marked g c told read opening fact =
    ended c.args.self.job c.args.self.catalog fact.transfers.status.head (stage_of c.args.self.job.mode) (still_stage c.args.self.job.mode) opening (g.F.Fs.trail c.args.fs.now) (g.F.Fs.trail c.finish_cluster.new.fs)
    fact.transfers.status.opened.can c.args.self.places fact.places fact.held (c.finish_cluster.ensures.marked told)

pub returns-in-Err-clause-marked : goal.returns-in-Err-clause-marked
returns-in-Err-clause-marked g c told read opening fact =
    ended c.args.self.job c.args.self.catalog fact.transfers.status.head (stage_of c.args.self.job.mode) (still_stage c.args.self.job.mode) opening (g.F.Fs.trail c.args.fs.now) (g.F.Fs.trail c.finish_cluster.new.fs)
    fact.transfers.status.opened.can c.args.self.places fact.places fact.held (c.finish_cluster.ensures.marked told)

pub returns-in-Ok-clause-crashes : goal.returns-in-Ok-clause-crashes
returns-in-Ok-clause-crashes g c told read opening fact settled =
    let job = c.args.self.job in
    let catalog = c.args.self.catalog in
    let old = g.F.Fs.trail c.args.fs.now in
    let new = g.F.Fs.trail c.finish_cluster.new.fs in
    let run = c.finish_cluster.ensures.marked told in
    crashes_have job (stage_of job.mode) opening old new fact.held settled c.args.self.places fact.places.mark run (Upgraded read job catalog opening.present)
    (λ x marks. upgraded_then read c.args.self opening old x fact marks)
    (ended job catalog fact.transfers.status.head (stage_of job.mode) (still_stage job.mode) opening old new fact.transfers.status.opened.can c.args.self.places fact.places fact.held run)

pub returns-in-Err-clause-crashes : goal.returns-in-Err-clause-crashes
returns-in-Err-clause-crashes g c told read opening fact settled =
    let job = c.args.self.job in
    let catalog = c.args.self.catalog in
    let old = g.F.Fs.trail c.args.fs.now in
    let new = g.F.Fs.trail c.finish_cluster.new.fs in
    let run = c.finish_cluster.ensures.marked told in
    crashes_have job (stage_of job.mode) opening old new fact.held settled c.args.self.places fact.places.mark run (Upgraded read job catalog opening.present)
    (λ x marks. upgraded_then read c.args.self opening old x fact marks)
    (ended job catalog fact.transfers.status.head (stage_of job.mode) (still_stage job.mode) opening old new fact.transfers.status.opened.can c.args.self.places fact.places fact.held run)

pub returns-in-Err-clause-unrefused : goal.returns-in-Err-clause-unrefused
returns-in-Err-clause-unrefused g c told read opening fact =
    let job = c.args.self.job in
    let catalog = c.args.self.catalog in
    let old = g.F.Fs.trail c.args.fs.now in
    let ready = can_finish job catalog fact.transfers.status.head (stage_of job.mode) opening old fact.transfers.status.opened.can c.args.self.places fact.places fact.held (c.moment.ensures.well_formed told) fact.regions in
    subst IsNoChange (sym c.files_fault.ensures) (decided_no_change Path job.new c.in-Err.error (c.in-Err.ensures.unrefused told ready))

pub returns-in-Ok-clause-frame : goal.returns-in-Ok-clause-frame
returns-in-Ok-clause-frame g c told read opening fact framed =
    ended_framed c.args.self.job opening (g.F.Fs.trail c.args.fs.now) (g.F.Fs.trail c.finish_cluster.new.fs) c.args.self.places fact.places.mark framed (c.finish_cluster.ensures.marked told)

pub returns-in-Err-clause-frame : goal.returns-in-Err-clause-frame
returns-in-Err-clause-frame g c told read opening fact framed =
    ended_framed c.args.self.job opening (g.F.Fs.trail c.args.fs.now) (g.F.Fs.trail c.finish_cluster.new.fs) c.args.self.places fact.places.mark framed (c.finish_cluster.ensures.marked told)

pub returns-in-Ok-clause-links : goal.returns-in-Ok-clause-links
returns-in-Ok-clause-links g c told read opening fact settled =
    ended_links c.args.self.job opening (g.F.Fs.trail c.args.fs.now) (g.F.Fs.trail c.finish_cluster.new.fs) (fact.links settled) c.args.self.places (c.finish_cluster.ensures.marked told)

pub returns-in-Err-clause-links : goal.returns-in-Err-clause-links
returns-in-Err-clause-links g c told read opening fact settled =
    ended_links c.args.self.job opening (g.F.Fs.trail c.args.fs.now) (g.F.Fs.trail c.finish_cluster.new.fs) (fact.links settled) c.args.self.places (c.finish_cluster.ensures.marked told)
