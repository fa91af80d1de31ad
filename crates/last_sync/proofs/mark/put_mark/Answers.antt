use Rattle.std.proofs.Common.{◌≡◌, ◌∙◌, Some, None, refl, ap, subst}
use Rattle.fs_model.specs.Calls.{Creates, SyncsFile, SyncsDir, refusal}
use Rattle.fs_model.specs.Trail.{on, error_of, DecidedBy}
use Rattle.fs_model.proofs.Going.{goes_one}
use Rattle.fs_model.proofs.Runs.{steps_decided}
use Rattle.crash_safety.specs.Marked.{Marks}
use Rattle.fs_tools.proofs.Answering.{decided_on, decides_any, steps_decide}
use Rattle.last_sync.proofs.Marking.{settled_by, stands_by, file_free, dir_free}
use Rattle.last_sync.proofs.mark.put_mark.Goals as goal

pub returns-in_err-create-clause-calls : goal.returns-in_err-create-clause-calls
returns-in_err-create-clause-calls g c told = goes_one (Marks c.args.mark.now) (Creates c.args.mark.now) (error_of c.create.result) (g.F.Fs.trail c.args.fs.now) (g.F.Fs.trail c.create.new.self) refl (c.create.ensures.steps told)

pub returns-in_err-create-clause-unrefused : goal.returns-in_err-create-clause-unrefused
returns-in_err-create-clause-unrefused g c told free =
    let start = g.F.Fs.trail c.args.fs.now in
    decided_on None c.from_residual.result c.in_err-create.field-0.0 c.from_residual.ensures.1
    (decides_any (refusal start.present (Creates c.args.mark.now)) None c.in_err-create.field-0.0 free
    (steps_decide (Creates c.args.mark.now) (Some c.in_err-create.field-0.0) start (g.F.Fs.trail c.create.new.self) (c.in_err-create.ensures.steps told)))

pub returns-in_err-sync_file-clause-calls : goal.returns-in_err-sync_file-clause-calls
returns-in_err-sync_file-clause-calls g c told =
    on (goes_one (Marks c.args.mark.now) (Creates c.args.mark.now) None (g.F.Fs.trail c.args.fs.now) (g.F.Fs.trail c.create.new.self) refl (c.in_ok-create.ensures.steps told))
    (SyncsFile c.args.mark.now) (error_of c.sync_file.result) tt (c.sync_file.ensures.steps (c.create.ensures.told ∙ told))

pub returns-in_err-sync_file-clause-unrefused : goal.returns-in_err-sync_file-clause-unrefused
returns-in_err-sync_file-clause-unrefused g c told free =
    let start = g.F.Fs.trail c.args.fs.now in
    let made = g.F.Fs.trail c.create.new.self in
    decided_on None c.from_residual-in_err-sync_file.result c.in_err-sync_file.field-0.0 c.from_residual-in_err-sync_file.ensures.1
    (decides_any (refusal made.present (SyncsFile c.args.mark.now)) None c.in_err-sync_file.field-0.0 (file_free c.args.mark.now start made (c.in_ok-create.ensures.steps told) free)
    (steps_decide (SyncsFile c.args.mark.now) (Some c.in_err-sync_file.field-0.0) made (g.F.Fs.trail c.sync_file.new.self) (c.in_err-sync_file.ensures.steps (c.create.ensures.told ∙ told))))

pub returns-clause-calls : goal.returns-clause-calls
returns-clause-calls g c told =
    let told_1 = c.create.ensures.told ∙ told in
    on (on (goes_one (Marks c.args.mark.now) (Creates c.args.mark.now) None (g.F.Fs.trail c.args.fs.now) (g.F.Fs.trail c.create.new.self) refl (c.in_ok-create.ensures.steps told))
    (SyncsFile c.args.mark.now) None tt (c.in_ok-sync_file.ensures.steps told_1))
    (SyncsDir c.args.dir.now) (error_of c.sync_dir.result) tt (c.sync_dir.ensures.steps (c.sync_file.ensures.told ∙ told_1))

pub returns-clause-settled : goal.returns-clause-settled
returns-clause-settled g c told settled =
    let told_1 = c.create.ensures.told ∙ told in
    settled_by c.args.mark.now c.args.dir.now c.requires (g.F.Fs.trail c.args.fs.now) (g.F.Fs.trail c.create.new.self) (g.F.Fs.trail c.sync_file.new.self) (g.F.Fs.trail c.sync_dir.new.self)
    (c.in_ok-create.ensures.steps told) (c.in_ok-sync_file.ensures.steps told_1) c.sync_dir.result (c.sync_dir.ensures.steps (c.sync_file.ensures.told ∙ told_1)) settled (c.moment.ensures.well_formed told)

pub returns-clause-stands : goal.returns-clause-stands
returns-clause-stands g c told =
    let told_1 = c.create.ensures.told ∙ told in
    stands_by c.args.mark.now c.args.dir.now c.requires (g.F.Fs.trail c.args.fs.now) (g.F.Fs.trail c.create.new.self) (g.F.Fs.trail c.sync_file.new.self) (g.F.Fs.trail c.sync_dir.new.self)
    (c.in_ok-create.ensures.steps told) (c.in_ok-sync_file.ensures.steps told_1) c.sync_dir.result (c.sync_dir.ensures.steps (c.sync_file.ensures.told ∙ told_1))

pub returns-clause-unrefused : goal.returns-clause-unrefused
returns-clause-unrefused g c told free =
    let told_1 = c.create.ensures.told ∙ told in
    let synced = g.F.Fs.trail c.sync_file.new.self in
    let allowed : refusal synced.present (SyncsDir c.args.dir.now) ≡ None =
    ap (λ d. refusal synced.present (SyncsDir d)) c.requires
    ∙ dir_free c.args.mark.now (g.F.Fs.trail c.args.fs.now) (g.F.Fs.trail c.create.new.self) (c.in_ok-create.ensures.steps told) synced (c.in_ok-sync_file.ensures.steps told_1) (c.moment.ensures.well_formed told) free in
    subst (λ refused. DecidedBy refused c.sync_dir.result) allowed (steps_decided (SyncsDir c.args.dir.now) c.sync_dir.result synced (g.F.Fs.trail c.sync_dir.new.self) (c.sync_dir.ensures.steps (c.sync_file.ensures.told ∙ told_1)))
