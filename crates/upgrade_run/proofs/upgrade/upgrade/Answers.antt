use Rattle.std.proofs.Common.{◌∙◌, false, sym, subst}
use Rattle.fs_model.specs.Trail.{HasCause}
use Rattle.control_file.specs.declared.job.Job.{Job}
use Rattle.phases.specs.Faults.{fault_in}
use Rattle.upgrade_run.specs.Causes.{UpgradeHasCause, ServerCounted, failure_in}
use Rattle.upgrade_run.specs.Means.{LeavesAll, IfDone, HasBegun, UpgradeMeans}
use Rattle.upgrade_run.specs.Ends.{CrashesSafely, EndsFinished}
use Rattle.upgrade_run.proofs.Checking.{check_begun, check_means, check_leaves, check_cause, check_counts, check_server}
use Rattle.upgrade_run.proofs.Ending.{phases_begun, phases_means, phases_cause, phases_finished, leaves_undone, lacks_later, after_check}
use Rattle.upgrade_run.specs.Answers.{phases_answer}
use Rattle.upgrade_run.proofs.Opening.{opened, checked_later}
use Rattle.upgrade_run.proofs.Framing.{framed_then, framed_unchanged}
use Rattle.phase_frames.proofs.Kept.{start_framed}
use Rattle.upgrade_run.proofs.upgrade.upgrade.Goals as goal

pub returns-in-Err-clause-means : goal.returns-in-Err-clause-means
returns-in-Err-clause-means g c told =
    let s = (g.F.Fs.trail c.args.fs.now).present in
    subst (UpgradeMeans g.S.Server.catalog_of s c.args.job) (sym c.check_answer.ensures)
    (check_means g.S.Server.catalog_of s c.args.job c.in-Err.error (c.in-Err.ensures.first told) (c.in-Err.ensures.no_change told) c.in-Err.ensures.roots)

pub returns-in-Err-clause-crashes : goal.returns-in-Err-clause-crashes
returns-in-Err-clause-crashes g c told settled late =
    absurd (late (subst LeavesAll (sym c.check_answer.ensures) (check_leaves c.args.job c.in-Err.error (c.in-Err.ensures.no_change told) c.in-Err.ensures.roots)))

pub returns-in-Err-clause-own_cause : goal.returns-in-Err-clause-own_cause
returns-in-Err-clause-own_cause g c =
    let before = g.F.Fs.counts c.args.fs.now in
    let now = g.F.Fs.counts c.check.new.fs in
    let server_before = g.S.Server.counts c.args.server.now in
    let server_now = g.S.Server.counts c.check.new.server in
    subst (λ answer. UpgradeHasCause c.args.job false answer before now server_before server_now) (sym c.check_answer.ensures)
    (check_cause c.args.job false c.in-Err.error (g.F.Fs.firm c.args.fs.now) before now server_before server_now c.in-Err.ensures.roots c.in-Err.ensures.cause c.in-Err.ensures.server)

pub returns-in-Err-clause-counts : goal.returns-in-Err-clause-counts
returns-in-Err-clause-counts g c =
    let firm = g.F.Fs.firm c.args.fs.now in
    let before = g.F.Fs.counts c.args.fs.now in
    let now = g.F.Fs.counts c.check.new.fs in
    subst (λ answer. HasCause firm before now (failure_in answer)) (sym c.check_answer.ensures) (check_counts c.in-Err.error firm before now c.in-Err.ensures.cause)

pub returns-in-Err-clause-server : goal.returns-in-Err-clause-server
returns-in-Err-clause-server g c =
    let server_before = g.S.Server.counts c.args.server.now in
    let server_now = g.S.Server.counts c.check.new.server in
    subst (ServerCounted server_before server_now) (sym c.check_answer.ensures) (check_server c.in-Err.error server_before server_now c.in-Err.ensures.server)

pub carry-requires-clause-fact : goal.carry-requires-clause-fact
carry-requires-clause-fact g c told =
    let before = sym c.check.ensures.told ∙ told in
    let old = g.F.Fs.trail c.args.fs.now in
    let fact = opened g.S.Server.catalog_of old.present c.args.job c.in-Ok.passed (c.requires.well_formed before) (c.in-Ok.ensures.nothing before) (c.in-Ok.ensures.read before) c.bootstrap.ensures.valid in
    (old, checked_later g.S.Server.catalog_of c.new-checked.result old _ (c.new-checked.ensures.fact g.S.Server.catalog_of old fact) (c.in-Ok.ensures.unchanged before))

pub returns-in-Ok-clause-crashes : goal.returns-in-Ok-clause-crashes
returns-in-Ok-clause-crashes g c told settled late =
    let old = g.F.Fs.trail c.args.fs.now in
    let fact = opened g.S.Server.catalog_of old.present c.args.job c.in-Ok.passed (c.requires.well_formed told) (c.in-Ok.ensures.nothing told) (c.in-Ok.ensures.read told) c.bootstrap.ensures.valid in
    let later = checked_later g.S.Server.catalog_of c.new-checked.result old _ (c.new-checked.ensures.fact g.S.Server.catalog_of old fact) (c.in-Ok.ensures.unchanged told) in
    subst (λ (job : Job). CrashesSafely g.S.Server.catalog_of job old (g.F.Fs.trail c.carry.new.fs)) c.new-checked.ensures.job (c.carry.ensures.crashes (c.check.ensures.told ∙ told) old later settled)

pub returns-in-Ok-clause-finished : goal.returns-in-Ok-clause-finished
returns-in-Ok-clause-finished g c told =
    let old = g.F.Fs.trail c.args.fs.now in
    let fact = opened g.S.Server.catalog_of old.present c.args.job c.in-Ok.passed (c.requires.well_formed told) (c.in-Ok.ensures.nothing told) (c.in-Ok.ensures.read told) c.bootstrap.ensures.valid in
    let later = checked_later g.S.Server.catalog_of c.new-checked.result old _ (c.new-checked.ensures.fact g.S.Server.catalog_of old fact) (c.in-Ok.ensures.unchanged told) in
    let ends = phases_finished (EndsFinished g.S.Server.catalog_of c.new-checked.result.job old.present (g.F.Fs.trail c.carry.new.fs).present) c.carry.result (c.carry.ensures.finished (c.check.ensures.told ∙ told) old later) in
    subst (λ (job : Job). IfDone c.phases_answer.result (EndsFinished g.S.Server.catalog_of job old.present (g.F.Fs.trail c.carry.new.fs).present)) c.new-checked.ensures.job
    (subst (λ answer. IfDone answer (EndsFinished g.S.Server.catalog_of c.new-checked.result.job old.present (g.F.Fs.trail c.carry.new.fs).present)) (sym c.phases_answer.ensures) ends)

pub returns-in-Err-clause-finished : goal.returns-in-Err-clause-finished
returns-in-Err-clause-finished g c told =
    leaves_undone c.check_answer.result _ (subst LeavesAll (sym c.check_answer.ensures) (check_leaves c.args.job c.in-Err.error (c.in-Err.ensures.no_change told) c.in-Err.ensures.roots))

pub returns-in-Ok-clause-begun : goal.returns-in-Ok-clause-begun
returns-in-Ok-clause-begun g c = subst HasBegun (sym c.phases_answer.ensures) (phases_begun c.new-checked.result.job c.carry.result c.carry.ensures.fault)

pub returns-in-Err-clause-begun : goal.returns-in-Err-clause-begun
returns-in-Err-clause-begun g c = subst HasBegun (sym c.check_answer.ensures) (check_begun c.in-Err.error)

pub returns-in-Ok-clause-means : goal.returns-in-Ok-clause-means
returns-in-Ok-clause-means g c told =
    let old = g.F.Fs.trail c.args.fs.now in
    let fact = opened g.S.Server.catalog_of old.present c.args.job c.in-Ok.passed (c.requires.well_formed told) (c.in-Ok.ensures.nothing told) (c.in-Ok.ensures.read told) c.bootstrap.ensures.valid in
    let later = checked_later g.S.Server.catalog_of c.new-checked.result old _ (c.new-checked.ensures.fact g.S.Server.catalog_of old fact) (c.in-Ok.ensures.unchanged told) in
    let none = c.carry.ensures.unrefused (c.check.ensures.told ∙ told) old later in
    subst (UpgradeMeans g.S.Server.catalog_of old.present c.args.job) (sym c.phases_answer.ensures)
    (phases_means g.S.Server.catalog_of old.present c.args.job c.carry.result none (c.in-Ok.ensures.passes told))

pub returns-in-Ok-clause-own_cause : goal.returns-in-Ok-clause-own_cause
returns-in-Ok-clause-own_cause g c =
    let before = g.F.Fs.counts c.args.fs.now in
    let middle = g.F.Fs.counts c.check.new.fs in
    let now = g.F.Fs.counts c.carry.new.fs in
    let server_before = g.S.Server.counts c.args.server.now in
    let server_middle = g.S.Server.counts c.check.new.server in
    let server_now = g.S.Server.counts c.carry.new.server in
    let phase = after_check (g.F.Fs.firm c.args.fs.now) (g.F.Fs.firm c.check.new.fs) before middle now server_before server_middle server_now (fault_in c.carry.result) c.check.ensures.firm c.in-Ok.ensures.cause c.in-Ok.ensures.server c.carry.ensures.cause in
    let lacked = lacks_later c.carry.result before middle now c.in-Ok.ensures.cause.lacks c.carry.ensures.lacked in
    subst (λ answer. UpgradeHasCause c.args.job false answer before now server_before server_now) (sym c.phases_answer.ensures)
    (subst (λ (job : Job). UpgradeHasCause job false (phases_answer c.carry.result) before now server_before server_now) c.new-checked.ensures.job
    (phases_cause c.new-checked.result.job c.carry.result (g.F.Fs.firm c.args.fs.now) before now server_before server_now c.carry.ensures.fault lacked phase))

pub returns-in-Err-clause-frame : goal.returns-in-Err-clause-frame
returns-in-Err-clause-frame g c told =
    let old = g.F.Fs.trail c.args.fs.now in
    framed_unchanged c.args.job old (g.F.Fs.trail c.check.new.fs) (start_framed c.args.job old.present) (c.in-Err.ensures.unchanged told)

pub returns-in-Ok-clause-frame : goal.returns-in-Ok-clause-frame
returns-in-Ok-clause-frame g c told =
    let old = g.F.Fs.trail c.args.fs.now in
    let fact = opened g.S.Server.catalog_of old.present c.args.job c.in-Ok.passed (c.requires.well_formed told) (c.in-Ok.ensures.nothing told) (c.in-Ok.ensures.read told) c.bootstrap.ensures.valid in
    let later = checked_later g.S.Server.catalog_of c.new-checked.result old _ (c.new-checked.ensures.fact g.S.Server.catalog_of old fact) (c.in-Ok.ensures.unchanged told) in
    let front = framed_unchanged c.args.job old (g.F.Fs.trail c.check.new.fs) (start_framed c.args.job old.present) (c.in-Ok.ensures.unchanged told) in
    framed_then c.args.job c.new-checked.result.job old.present old (g.F.Fs.trail c.check.new.fs) (g.F.Fs.trail c.carry.new.fs) c.new-checked.ensures.job front (c.carry.ensures.frame (c.check.ensures.told ∙ told) old later)
