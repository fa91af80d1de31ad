use Rattle.std.proofs.Common.{◌∙◌, None}
use Rattle.fs_model.specs.Calls.{Stats, SyncsFile}
use Rattle.fs_model.specs.Trail.{on, error_of}
use Rattle.fs_model.proofs.Going.{goes_one}
use Rattle.fs_tools.specs.TreeSync.{SyncsFiles}
use Rattle.fs_tools.proofs.TreeSyncing.{ok_clean}
use Rattle.fs_tools.proofs.syncs.sync_leaf.Goals as goal

pub returns-in_err-stat-clause-calls : goal.returns-in_err-stat-clause-calls
returns-in_err-stat-clause-calls g c told top under =
    goes_one (SyncsFiles top) (Stats c.args.at.now) (error_of c.stat.result) (g.F.Fs.trail c.args.fs.now) (g.F.Fs.trail c.stat.new.self) tt (c.stat.ensures.steps told)

pub returns-then-eq-clause-calls : goal.returns-then-eq-clause-calls
returns-then-eq-clause-calls g c told top under =
    on (goes_one (SyncsFiles top) (Stats c.args.at.now) None (g.F.Fs.trail c.args.fs.now) (g.F.Fs.trail c.stat.new.self) tt (c.in_ok-stat.ensures.steps told))
    (SyncsFile c.args.at.now) (error_of c.sync_file.result) under (c.sync_file.ensures.steps (c.stat.ensures.told ∙ told))

pub returns-then-eq-clause-clean : goal.returns-then-eq-clause-clean
returns-then-eq-clause-clean g c told = ok_clean c.sync_file.result c.args.at.now (g.F.Fs.trail c.stat.new.self) (g.F.Fs.trail c.sync_file.new.self) (c.sync_file.ensures.steps (c.stat.ensures.told ∙ told))

pub returns-clause-calls : goal.returns-clause-calls
returns-clause-calls g c told top under =
    goes_one (SyncsFiles top) (Stats c.args.at.now) None (g.F.Fs.trail c.args.fs.now) (g.F.Fs.trail c.stat.new.self) tt (c.in_ok-stat.ensures.steps told)
