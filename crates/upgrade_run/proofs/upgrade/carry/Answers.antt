use Rattle.std.proofs.Common.{◌∙◌, sym, subst}
use Rattle.control_file.specs.declared.job.Job.{Job}
use Rattle.control_file.specs.declared.modes.Side.TheVariants.{New}
use Rattle.phases.specs.Faults.{IsNoChange}
use Rattle.upgrade_run.specs.Causes.{IsLater, LackRose}
use Rattle.upgrade_run.specs.Ends.{IsFailedIn, IsLackCounted, CrashesSafely, EndsFinished}
use Rattle.upgrade_run.proofs.Ending.{failed_files, handed_on, lacked_later}
use Rattle.upgrade_run.proofs.Marking.{before_mark, with_mark, ends_finished}
use Rattle.upgrade_run.proofs.Framing.{framed_then}
use Rattle.upgrade_run.proofs.upgrade.carry.Goals as goal

pub returns-in_err-restored-clause-crashes : goal.returns-in_err-restored-clause-crashes
returns-in_err-restored-clause-crashes g c told opening fact settled = before_mark g.S.Server.catalog_of c.args.checked.job opening _ fact.held.begins settled (c.restore.ensures.safe told opening fact) (c.restore.ensures.links told opening fact settled)

pub prepare-requires : goal.prepare-requires
prepare-requires g c = record {
  fact = λ told.
      let before = sym c.restore.ensures.told ∙ told in
      let (opening, fact) = c.requires.fact before in
      (g.S.Server.catalog_of, opening, c.in_ok-restored.ensures.fact before opening fact);
}

pub returns-in_err-statused-clause-crashes : goal.returns-in_err-statused-clause-crashes
returns-in_err-statused-clause-crashes g c told opening fact settled =
    let restored = c.in_ok-restored.ensures.fact told opening fact in
    let safe = c.prepare.ensures.safe (c.restore.ensures.told ∙ told) g.S.Server.catalog_of opening restored in
    let links = c.prepare.ensures.links (c.restore.ensures.told ∙ told) g.S.Server.catalog_of opening restored settled in
    subst (λ (job : Job). CrashesSafely g.S.Server.catalog_of job opening (g.F.Fs.trail c.prepare.new.fs)) c.in_ok-restored.ensures.job (before_mark g.S.Server.catalog_of _ opening _ restored.held.begins settled safe links)

pub transfer-requires-clause-fact : goal.transfer-requires-clause-fact
transfer-requires-clause-fact g c told =
    let later = sym c.prepare.ensures.told ∙ told in
    let before = sym c.restore.ensures.told ∙ later in
    let (opening, fact) = c.requires.fact before in
    (g.S.Server.catalog_of, opening, c.in_ok-statused.ensures.fact later g.S.Server.catalog_of opening (c.in_ok-restored.ensures.fact before opening fact))

pub returns-in_err-transferred-clause-crashes : goal.returns-in_err-transferred-clause-crashes
returns-in_err-transferred-clause-crashes g c told opening fact settled =
    let told_1 = c.restore.ensures.told ∙ told in
    let statused = c.in_ok-statused.ensures.fact told_1 g.S.Server.catalog_of opening (c.in_ok-restored.ensures.fact told opening fact) in
    let safe = c.transfer.ensures.safe (c.prepare.ensures.told ∙ told_1) g.S.Server.catalog_of opening statused in
    let links = c.transfer.ensures.links (c.prepare.ensures.told ∙ told_1) g.S.Server.catalog_of opening statused settled in
    subst (λ (job : Job). CrashesSafely g.S.Server.catalog_of job opening (g.F.Fs.trail c.transfer.new.fs)) (c.in_ok-statused.ensures.job ∙ c.in_ok-restored.ensures.job) (before_mark g.S.Server.catalog_of _ opening _ statused.held.begins settled safe links)

pub finish-requires : goal.finish-requires
finish-requires g c = record {
  fact = λ told.
      let latest = sym c.transfer.ensures.told ∙ told in
      let later = sym c.prepare.ensures.told ∙ latest in
      let before = sym c.restore.ensures.told ∙ later in
      let (opening, fact) = c.requires.fact before in
      let statused = c.in_ok-statused.ensures.fact later g.S.Server.catalog_of opening (c.in_ok-restored.ensures.fact before opening fact) in
      (g.S.Server.catalog_of, opening, c.in_ok-transferred.ensures.fact latest g.S.Server.catalog_of opening statused);
}

pub returns-in-Ok-clause-crashes : goal.returns-in-Ok-clause-crashes
returns-in-Ok-clause-crashes g c told opening fact settled =
    let told_1 = c.restore.ensures.told ∙ told in
    let told_2 = c.prepare.ensures.told ∙ told_1 in
    let statused = c.in_ok-statused.ensures.fact told_1 g.S.Server.catalog_of opening (c.in_ok-restored.ensures.fact told opening fact) in
    let transferred = c.in_ok-transferred.ensures.fact told_2 g.S.Server.catalog_of opening statused in
    let marked = c.finish.ensures.marked (c.transfer.ensures.told ∙ told_2) g.S.Server.catalog_of opening transferred in
    subst (λ (job : Job). CrashesSafely g.S.Server.catalog_of job opening (g.F.Fs.trail c.finish.new.fs)) (c.in_ok-transferred.ensures.job ∙ c.in_ok-statused.ensures.job ∙ c.in_ok-restored.ensures.job)
    (with_mark g.S.Server.catalog_of _ _ opening _ _ transferred.held.begins settled transferred.transfers.status.opened.upgradable.reading marked
    (c.finish.ensures.crashes (c.transfer.ensures.told ∙ told_2) g.S.Server.catalog_of opening transferred settled)
    (c.finish.ensures.links (c.transfer.ensures.told ∙ told_2) g.S.Server.catalog_of opening transferred settled))

pub returns-in-Err-clause-crashes : goal.returns-in-Err-clause-crashes
returns-in-Err-clause-crashes g c told opening fact settled =
    let told_1 = c.restore.ensures.told ∙ told in
    let told_2 = c.prepare.ensures.told ∙ told_1 in
    let statused = c.in_ok-statused.ensures.fact told_1 g.S.Server.catalog_of opening (c.in_ok-restored.ensures.fact told opening fact) in
    let transferred = c.in_ok-transferred.ensures.fact told_2 g.S.Server.catalog_of opening statused in
    let marked = c.finish.ensures.marked (c.transfer.ensures.told ∙ told_2) g.S.Server.catalog_of opening transferred in
    subst (λ (job : Job). CrashesSafely g.S.Server.catalog_of job opening (g.F.Fs.trail c.finish.new.fs)) (c.in_ok-transferred.ensures.job ∙ c.in_ok-statused.ensures.job ∙ c.in_ok-restored.ensures.job)
    (with_mark g.S.Server.catalog_of _ _ opening _ _ transferred.held.begins settled transferred.transfers.status.opened.upgradable.reading marked
    (c.finish.ensures.crashes (c.transfer.ensures.told ∙ told_2) g.S.Server.catalog_of opening transferred settled)
    (c.finish.ensures.links (c.transfer.ensures.told ∙ told_2) g.S.Server.catalog_of opening transferred settled))

pub returns-in-Ok-clause-finished : goal.returns-in-Ok-clause-finished
returns-in-Ok-clause-finished g c told opening fact =
    let told_1 = c.restore.ensures.told ∙ told in
    let told_2 = c.prepare.ensures.told ∙ told_1 in
    let statused = c.in_ok-statused.ensures.fact told_1 g.S.Server.catalog_of opening (c.in_ok-restored.ensures.fact told opening fact) in
    let transferred = c.in_ok-transferred.ensures.fact told_2 g.S.Server.catalog_of opening statused in
    let finished = c.in-Ok.ensures.fact (c.transfer.ensures.told ∙ told_2) g.S.Server.catalog_of opening transferred in
    let same = c.in_ok-transferred.ensures.job ∙ c.in_ok-statused.ensures.job ∙ c.in_ok-restored.ensures.job in
    let ends = ends_finished g.S.Server.catalog_of _ _ opening (g.F.Fs.trail c.finish.new.fs) c.in-Ok.finished c.summary.result c.in-Ok.ensures.job c.in-Ok.ensures.catalog transferred.transfers.status.opened.upgradable.reading finished c.summary.ensures in
    subst (λ (job : Job). EndsFinished g.S.Server.catalog_of job opening.present (g.F.Fs.trail c.finish.new.fs).present c.summary.result) same ends

pub returns-in-Err-clause-fault : goal.returns-in-Err-clause-fault
returns-in-Err-clause-fault g c =
    let same = c.in_ok-transferred.ensures.job ∙ c.in_ok-statused.ensures.job ∙ c.in_ok-restored.ensures.job in
    subst (λ (job : Job). IsFailedIn job c.in-Err.error) same (failed_files _ c.in-Err.error New (subst (IsLater _) (sym c.in-Err.ensures.phase) tt) c.in-Err.ensures.fault)

pub returns-in_err-restored-clause-unrefused : goal.returns-in_err-restored-clause-unrefused
returns-in_err-restored-clause-unrefused g c told opening fact =
    handed_on (λ error. IsNoChange error.kind) c.from_residual.result _ c.from_residual.ensures.1 (c.in_err-restored.ensures.unrefused told opening fact)

pub returns-in_err-statused-clause-unrefused : goal.returns-in_err-statused-clause-unrefused
returns-in_err-statused-clause-unrefused g c told opening fact =
    let restored = c.in_ok-restored.ensures.fact told opening fact in
    handed_on (λ error. IsNoChange error.kind) c.from_residual-in_err-statused.result _ c.from_residual-in_err-statused.ensures.1
    (c.in_err-statused.ensures.unrefused (c.restore.ensures.told ∙ told) g.S.Server.catalog_of opening restored)

pub returns-in_err-transferred-clause-unrefused : goal.returns-in_err-transferred-clause-unrefused
returns-in_err-transferred-clause-unrefused g c told opening fact =
    let told_1 = c.restore.ensures.told ∙ told in
    let statused = c.in_ok-statused.ensures.fact told_1 g.S.Server.catalog_of opening (c.in_ok-restored.ensures.fact told opening fact) in
    handed_on (λ error. IsNoChange error.kind) c.from_residual-in_err-transferred.result _ c.from_residual-in_err-transferred.ensures.1
    (c.in_err-transferred.ensures.unrefused (c.prepare.ensures.told ∙ told_1) g.S.Server.catalog_of opening statused)

pub returns-in-Err-clause-unrefused : goal.returns-in-Err-clause-unrefused
returns-in-Err-clause-unrefused g c told opening fact =
    let told_1 = c.restore.ensures.told ∙ told in
    let told_2 = c.prepare.ensures.told ∙ told_1 in
    let statused = c.in_ok-statused.ensures.fact told_1 g.S.Server.catalog_of opening (c.in_ok-restored.ensures.fact told opening fact) in
    let transferred = c.in_ok-transferred.ensures.fact told_2 g.S.Server.catalog_of opening statused in
    c.in-Err.ensures.unrefused (c.transfer.ensures.told ∙ told_2) g.S.Server.catalog_of opening transferred

pub returns-in_err-restored-clause-lacked : goal.returns-in_err-restored-clause-lacked
returns-in_err-restored-clause-lacked g c =
    let before = g.F.Fs.counts c.args.fs.now in
    let now = g.F.Fs.counts c.restore.new.fs in
    handed_on (IsLackCounted before now) c.from_residual.result _ c.from_residual.ensures.1
    (λ lack. subst (λ at. LackRose at before now) (sym c.in_err-restored.ensures.phase) tt)

pub returns-in_err-statused-clause-lacked : goal.returns-in_err-statused-clause-lacked
returns-in_err-statused-clause-lacked g c =
    let before = g.F.Fs.counts c.args.fs.now in
    let middle = g.F.Fs.counts c.restore.new.fs in
    let now = g.F.Fs.counts c.prepare.new.fs in
    handed_on (IsLackCounted before now) c.from_residual-in_err-statused.result _ c.from_residual-in_err-statused.ensures.1
    (λ lack. lacked_later before middle now _ c.in_ok-restored.ensures.cause.files.lacks (c.in_err-statused.ensures.lacked lack))

pub returns-in_err-transferred-clause-lacked : goal.returns-in_err-transferred-clause-lacked
returns-in_err-transferred-clause-lacked g c =
    let before = g.F.Fs.counts c.args.fs.now in
    let restored = g.F.Fs.counts c.restore.new.fs in
    let prepared = g.F.Fs.counts c.prepare.new.fs in
    let now = g.F.Fs.counts c.transfer.new.fs in
    handed_on (IsLackCounted before now) c.from_residual-in_err-transferred.result _ c.from_residual-in_err-transferred.ensures.1
    (λ lack. lacked_later before restored now _ c.in_ok-restored.ensures.cause.files.lacks (lacked_later restored prepared now _ c.in_ok-statused.ensures.cause.lacks (c.in_err-transferred.ensures.lacked lack)))

pub returns-in-Err-clause-lacked : goal.returns-in-Err-clause-lacked
returns-in-Err-clause-lacked g c lack =
    let before = g.F.Fs.counts c.args.fs.now in
    let now = g.F.Fs.counts c.finish.new.fs in
    subst (λ at. LackRose at before now) (sym c.in-Err.ensures.phase) tt

pub returns-in_err-restored-clause-frame : goal.returns-in_err-restored-clause-frame
returns-in_err-restored-clause-frame g c told opening fact framed =
    c.restore.ensures.frame told opening fact framed

pub returns-in_err-statused-clause-frame : goal.returns-in_err-statused-clause-frame
returns-in_err-statused-clause-frame g c told opening fact framed =
    let told_1 = c.restore.ensures.told ∙ told in
    let start = g.F.Fs.trail c.args.fs.now in
    let one = g.F.Fs.trail c.restore.new.fs in
    let two = g.F.Fs.trail c.prepare.new.fs in
    let job = c.args.checked.job in
    let restored = c.in_ok-restored.ensures.fact told opening fact in
    let first = c.restore.ensures.frame told opening fact framed in
    let second = framed_then job c.in_ok-restored.restored.job opening.present start one two c.in_ok-restored.ensures.job first (c.prepare.ensures.frame told_1 g.S.Server.catalog_of opening restored) in
    second

pub returns-in_err-transferred-clause-frame : goal.returns-in_err-transferred-clause-frame
returns-in_err-transferred-clause-frame g c told opening fact framed =
    let told_1 = c.restore.ensures.told ∙ told in
    let start = g.F.Fs.trail c.args.fs.now in
    let one = g.F.Fs.trail c.restore.new.fs in
    let two = g.F.Fs.trail c.prepare.new.fs in
    let job = c.args.checked.job in
    let restored = c.in_ok-restored.ensures.fact told opening fact in
    let first = c.restore.ensures.frame told opening fact framed in
    let second = framed_then job c.in_ok-restored.restored.job opening.present start one two c.in_ok-restored.ensures.job first (c.prepare.ensures.frame told_1 g.S.Server.catalog_of opening restored) in
    let told_2 = c.prepare.ensures.told ∙ told_1 in
    let statused = c.in_ok-statused.ensures.fact told_1 g.S.Server.catalog_of opening restored in
    let same = c.in_ok-statused.ensures.job ∙ c.in_ok-restored.ensures.job in
    let three = g.F.Fs.trail c.transfer.new.fs in
    let third = framed_then job c.in_ok-statused.statused.job opening.present start two three same second (c.transfer.ensures.frame told_2 g.S.Server.catalog_of opening statused) in
    third

pub returns-in-Ok-clause-frame : goal.returns-in-Ok-clause-frame
returns-in-Ok-clause-frame g c told opening fact framed =
    let told_1 = c.restore.ensures.told ∙ told in
    let start = g.F.Fs.trail c.args.fs.now in
    let one = g.F.Fs.trail c.restore.new.fs in
    let two = g.F.Fs.trail c.prepare.new.fs in
    let job = c.args.checked.job in
    let restored = c.in_ok-restored.ensures.fact told opening fact in
    let first = c.restore.ensures.frame told opening fact framed in
    let second = framed_then job c.in_ok-restored.restored.job opening.present start one two c.in_ok-restored.ensures.job first (c.prepare.ensures.frame told_1 g.S.Server.catalog_of opening restored) in
    let told_2 = c.prepare.ensures.told ∙ told_1 in
    let statused = c.in_ok-statused.ensures.fact told_1 g.S.Server.catalog_of opening restored in
    let same = c.in_ok-statused.ensures.job ∙ c.in_ok-restored.ensures.job in
    let three = g.F.Fs.trail c.transfer.new.fs in
    let third = framed_then job c.in_ok-statused.statused.job opening.present start two three same second (c.transfer.ensures.frame told_2 g.S.Server.catalog_of opening statused) in
    let transferred = c.in_ok-transferred.ensures.fact told_2 g.S.Server.catalog_of opening statused in
    framed_then job c.in_ok-transferred.transferred.job opening.present start three (g.F.Fs.trail c.finish.new.fs) (c.in_ok-transferred.ensures.job ∙ same) third
    (c.finish.ensures.frame (c.transfer.ensures.told ∙ told_2) g.S.Server.catalog_of opening transferred)

pub returns-in-Err-clause-frame : goal.returns-in-Err-clause-frame
returns-in-Err-clause-frame g c told opening fact framed =
    let told_1 = c.restore.ensures.told ∙ told in
    let start = g.F.Fs.trail c.args.fs.now in
    let one = g.F.Fs.trail c.restore.new.fs in
    let two = g.F.Fs.trail c.prepare.new.fs in
    let job = c.args.checked.job in
    let restored = c.in_ok-restored.ensures.fact told opening fact in
    let first = c.restore.ensures.frame told opening fact framed in
    let second = framed_then job c.in_ok-restored.restored.job opening.present start one two c.in_ok-restored.ensures.job first (c.prepare.ensures.frame told_1 g.S.Server.catalog_of opening restored) in
    let told_2 = c.prepare.ensures.told ∙ told_1 in
    let statused = c.in_ok-statused.ensures.fact told_1 g.S.Server.catalog_of opening restored in
    let same = c.in_ok-statused.ensures.job ∙ c.in_ok-restored.ensures.job in
    let three = g.F.Fs.trail c.transfer.new.fs in
    let third = framed_then job c.in_ok-statused.statused.job opening.present start two three same second (c.transfer.ensures.frame told_2 g.S.Server.catalog_of opening statused) in
    let transferred = c.in_ok-transferred.ensures.fact told_2 g.S.Server.catalog_of opening statused in
    framed_then job c.in_ok-transferred.transferred.job opening.present start three (g.F.Fs.trail c.finish.new.fs) (c.in_ok-transferred.ensures.job ∙ same) third
    (c.finish.ensures.frame (c.transfer.ensures.told ∙ told_2) g.S.Server.catalog_of opening transferred)
