use Rattle.std.proofs.Common.{◌≡◌, ◌∙◌, None, Err, sym, ap}
use Rattle.std.proofs.lemmas.Result.{err_from_is_err_and}
use Rattle.fs_model.specs.Trail.{error_of}
use Rattle.disable_old.proofs.Lasting.{decided_on, rename_calls, rename_sound, sync_decided, both_calls, both_sound, both_moved, both_renamed, both_lacks, rename_persists, both_persist}
use Rattle.disable_old.proofs.disabling.disable.Goals as goal

pub returns-in_err-rename-clause-calls : goal.returns-in_err-rename-clause-calls
returns-in_err-rename-clause-calls g c told =
    rename_calls c.args.paths.control c.args.paths.renamed c.args.paths.dir (g.F.Fs.trail c.args.fs.now) (g.F.Fs.trail c.rename.new.self) (error_of c.rename.result) (c.rename.ensures.steps told)

pub returns-in_err-rename-clause-sound : goal.returns-in_err-rename-clause-sound
returns-in_err-rename-clause-sound g c told u ready disables is_control is_renamed sound =
    rename_sound u ready disables c.args.paths.control c.args.paths.renamed c.args.paths.dir c.args.paths.together is_control is_renamed (error_of c.rename.result) (g.F.Fs.trail c.args.fs.now) (g.F.Fs.trail c.rename.new.self) sound (c.rename.ensures.steps told)

pub returns-in_err-sync_dir-clause-decided : goal.returns-in_err-sync_dir-clause-decided
returns-in_err-sync_dir-clause-decided g c told =
    let p = err_from_is_err_and c.from_residual-in_err-sync_dir.result c.from_residual-in_err-sync_dir.ensures.1 in
    decided_on None c.sync_dir.result c.from_residual-in_err-sync_dir.result p.0 (c.in_err-sync_dir.was ∙ ap (λ e. Err e) (sym p.2)) p.1 (sync_decided c.args.paths.control c.args.paths.renamed c.args.paths.dir c.args.paths.together (g.F.Fs.trail c.args.fs.now) (g.F.Fs.trail c.rename.new.self) (c.requires told) (c.in_ok-rename.ensures.steps told)
    c.sync_dir.result (g.F.Fs.trail c.sync_dir.new.self) (c.sync_dir.ensures.steps (c.rename.ensures.told ∙ told)))

pub returns-in_err-sync_dir-clause-calls : goal.returns-in_err-sync_dir-clause-calls
returns-in_err-sync_dir-clause-calls g c told =
    both_calls c.args.paths.control c.args.paths.renamed c.args.paths.dir (g.F.Fs.trail c.args.fs.now) (g.F.Fs.trail c.rename.new.self) (g.F.Fs.trail c.sync_dir.new.self) (error_of c.sync_dir.result) (c.in_ok-rename.ensures.steps told) (c.sync_dir.ensures.steps (c.rename.ensures.told ∙ told))

pub returns-in_err-sync_dir-clause-sound : goal.returns-in_err-sync_dir-clause-sound
returns-in_err-sync_dir-clause-sound g c told u ready disables is_control is_renamed sound =
    both_sound u ready disables c.args.paths.control c.args.paths.renamed c.args.paths.dir c.args.paths.together is_control is_renamed
    (error_of c.sync_dir.result) (g.F.Fs.trail c.args.fs.now) (g.F.Fs.trail c.rename.new.self) (g.F.Fs.trail c.sync_dir.new.self) sound (c.in_ok-rename.ensures.steps told) (c.sync_dir.ensures.steps (c.rename.ensures.told ∙ told))

pub returns-clause-calls : goal.returns-clause-calls
returns-clause-calls g c told =
    both_calls c.args.paths.control c.args.paths.renamed c.args.paths.dir (g.F.Fs.trail c.args.fs.now) (g.F.Fs.trail c.rename.new.self) (g.F.Fs.trail c.sync_dir.new.self) (error_of c.sync_dir.result) (c.in_ok-rename.ensures.steps told) (c.sync_dir.ensures.steps (c.rename.ensures.told ∙ told))

pub returns-clause-sound : goal.returns-clause-sound
returns-clause-sound g c told u ready disables is_control is_renamed sound =
    both_sound u ready disables c.args.paths.control c.args.paths.renamed c.args.paths.dir c.args.paths.together is_control is_renamed
    (error_of c.sync_dir.result) (g.F.Fs.trail c.args.fs.now) (g.F.Fs.trail c.rename.new.self) (g.F.Fs.trail c.sync_dir.new.self) sound (c.in_ok-rename.ensures.steps told) (c.sync_dir.ensures.steps (c.rename.ensures.told ∙ told))

pub returns-clause-moved : goal.returns-clause-moved
returns-clause-moved g c told u ready disables is_control is_renamed sound =
    both_moved u ready disables c.args.paths.control c.args.paths.renamed c.args.paths.dir c.args.paths.together is_control is_renamed
    (g.F.Fs.trail c.args.fs.now) (g.F.Fs.trail c.rename.new.self) (g.F.Fs.trail c.sync_dir.new.self) sound (c.in_ok-rename.ensures.steps told) (c.in_ok-sync_dir.ensures.steps (c.rename.ensures.told ∙ told))

pub returns-clause-renamed : goal.returns-clause-renamed
returns-clause-renamed g c told =
    both_renamed c.args.paths.control c.args.paths.renamed c.args.paths.dir c.args.paths.together (g.F.Fs.trail c.args.fs.now) (g.F.Fs.trail c.rename.new.self) (g.F.Fs.trail c.sync_dir.new.self)
    (c.in_ok-rename.ensures.steps told) (c.in_ok-sync_dir.ensures.steps (c.rename.ensures.told ∙ told))

pub returns-clause-lacks : goal.returns-clause-lacks
returns-clause-lacks g c told tracked =
    both_lacks c.args.paths.control c.args.paths.renamed c.args.paths.dir c.args.paths.together (g.F.Fs.trail c.args.fs.now) (g.F.Fs.trail c.rename.new.self) (g.F.Fs.trail c.sync_dir.new.self) (c.requires told) tracked
    (c.in_ok-rename.ensures.steps told) (c.in_ok-sync_dir.ensures.steps (c.rename.ensures.told ∙ told))

pub returns-in_err-rename-clause-lasts : goal.returns-in_err-rename-clause-lasts
returns-in_err-rename-clause-lasts g c told u ready disables is_control is_renamed sound =
    rename_persists u ready disables c.args.paths.control c.args.paths.renamed c.args.paths.dir c.args.paths.together is_control is_renamed (error_of c.rename.result) (g.F.Fs.trail c.args.fs.now) (g.F.Fs.trail c.rename.new.self) sound (c.rename.ensures.steps told)

pub returns-in_err-sync_dir-clause-lasts : goal.returns-in_err-sync_dir-clause-lasts
returns-in_err-sync_dir-clause-lasts g c told u ready disables is_control is_renamed sound =
    both_persist u ready disables c.args.paths.control c.args.paths.renamed c.args.paths.dir c.args.paths.together is_control is_renamed
    (error_of c.sync_dir.result) (g.F.Fs.trail c.args.fs.now) (g.F.Fs.trail c.rename.new.self) (g.F.Fs.trail c.sync_dir.new.self) sound (c.in_ok-rename.ensures.steps told) (c.sync_dir.ensures.steps (c.rename.ensures.told ∙ told))

pub returns-clause-lasts : goal.returns-clause-lasts
returns-clause-lasts g c told u ready disables is_control is_renamed sound =
    both_persist u ready disables c.args.paths.control c.args.paths.renamed c.args.paths.dir c.args.paths.together is_control is_renamed
    (error_of c.sync_dir.result) (g.F.Fs.trail c.args.fs.now) (g.F.Fs.trail c.rename.new.self) (g.F.Fs.trail c.sync_dir.new.self) sound (c.in_ok-rename.ensures.steps told) (c.sync_dir.ensures.steps (c.rename.ensures.told ∙ told))
