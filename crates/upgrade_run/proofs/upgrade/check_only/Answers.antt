use Rattle.std.proofs.Common.{refl}
use Rattle.upgrade_run.proofs.Framing.{framed_unchanged}
use Rattle.phase_frames.proofs.Kept.{start_framed}
use Rattle.upgrade_run.proofs.upgrade.check_only.Goals as goal

pub returns-in-Ok-clause-means : goal.returns-in-Ok-clause-means
returns-in-Ok-clause-means g c told = c.in-Ok.ensures.passes told

pub returns-in-Ok-clause-server : goal.returns-in-Ok-clause-server
returns-in-Ok-clause-server g c = record { faults = c.in-Ok.ensures.server.faults; texts = c.in-Ok.ensures.server.texts; told = λ other. c.in-Ok.ensures.server.told refl }

pub returns-in-Ok-clause-frame : goal.returns-in-Ok-clause-frame
returns-in-Ok-clause-frame g c told =
    let old = g.F.Fs.trail c.args.fs.now in
    framed_unchanged c.args.job.now old (g.F.Fs.trail c.check.new.fs) (start_framed c.args.job.now old.present) (c.in-Ok.ensures.unchanged told)

pub returns-clause-frame : goal.returns-clause-frame
returns-clause-frame g c told =
    let old = g.F.Fs.trail c.args.fs.now in
    framed_unchanged c.args.job.now old (g.F.Fs.trail c.check.new.fs) (start_framed c.args.job.now old.present) (c.check.ensures.unchanged told)
