use Rattle.std.proofs.Common.{◌≡◌, ◌∙◌, Some, None, Err, sym, subst}
use Rattle.std.proofs.lemmas.Result.{on_ok_weaker}
use Rattle.fs_model.specs.Calls.{Stats, refusal}
use Rattle.fs_model.specs.WellFormed.{IsTree}
use Rattle.fs_model.specs.Trail.{DecidedBy, error_of, unless_lack}
use Rattle.fs_model.proofs.Going.{goes_then}
use Rattle.fs_model.proofs.Causes.{cause_then, cause_unless_lack}
use Rattle.fs_tools.specs.TreeSync.{SyncsFiles}
use Rattle.fs_tools.proofs.Answering.{decided_on, decides, cause_on_lack}
use Rattle.fs_tools.proofs.TreeSyncing.{file_syncs, clean_stays, under_itself, all_under, all_stand}
use Rattle.fs_tools.proofs.Gathering.{all_clean}
use Rattle.fs_tools.proofs.syncs.sync_files_under.Goals as goal

pub returns-in_err-sync_leaf-clause-calls : goal.returns-in_err-sync_leaf-clause-calls
returns-in_err-sync_leaf-clause-calls g c told all = c.sync_leaf.ensures.calls told c.args.top.now (under_itself c.args.top.now)

pub returns-in_err-sync_leaf-clause-decided : goal.returns-in_err-sync_leaf-clause-decided
returns-in_err-sync_leaf-clause-decided g c told tree are =
    let s = (g.F.Fs.trail c.args.fs.now).present in
    decided_on (refusal s (Stats c.args.top.now)) c.from_residual.result c.in_err-sync_leaf.field-0.0 c.from_residual.ensures.1
    (decides {T = Unit {0}} (refusal s (Stats c.args.top.now)) (Err c.in_err-sync_leaf.field-0.0) (c.in_err-sync_leaf.ensures.decided told))

pub returns-in_err-sync_leaf-clause-cause : goal.returns-in_err-sync_leaf-clause-cause
returns-in_err-sync_leaf-clause-cause g c =
    cause_on_lack (g.F.Fs.firm c.args.fs.now) (g.F.Fs.counts c.args.fs.now) (g.F.Fs.counts c.sync_leaf.new.fs) c.from_residual.result c.in_err-sync_leaf.field-0.0 c.from_residual.ensures.1
    (cause_unless_lack (g.F.Fs.firm c.args.fs.now) (g.F.Fs.counts c.args.fs.now) (g.F.Fs.counts c.sync_leaf.new.fs) (Some c.in_err-sync_leaf.field-0.0) c.in_err-sync_leaf.ensures.cause)

pub returns-clause-calls : goal.returns-clause-calls
returns-clause-calls g c told all =
    goes_then (SyncsFiles c.args.top.now) (c.sync_leaf.ensures.calls told c.args.top.now (under_itself c.args.top.now)) (c.sync_files.ensures.calls (c.sync_leaf.ensures.told ∙ told) c.args.top.now all)

pub returns-clause-decided : goal.returns-clause-decided
returns-clause-decided g c told tree are =
    let start = g.F.Fs.trail c.args.fs.now in
    let mid = g.F.Fs.trail c.sync_leaf.new.fs in
    let syncs = file_syncs c.args.top.now start mid (c.sync_leaf.ensures.calls told c.args.top.now (under_itself c.args.top.now)) in
    let free : refusal start.present (Stats c.args.top.now) ≡ None = c.in_ok-sync_leaf.ensures.decided told in
    subst (λ refused. DecidedBy refused c.sync_files.result) (sym free)
    (c.sync_files.ensures.decided (c.sync_leaf.ensures.told ∙ told) (subst IsTree (sym syncs.names) tree) (all_stand c.args.top.now start.present mid.present c.args.dirs.now syncs.names are.each))

pub returns-clause-clean : goal.returns-clause-clean
returns-clause-clean g c told tree are =
    let start = g.F.Fs.trail c.args.fs.now in
    let mid = g.F.Fs.trail c.sync_leaf.new.fs in
    let new = g.F.Fs.trail c.sync_files.new.fs in
    let first = file_syncs c.args.top.now start mid (c.sync_leaf.ensures.calls told c.args.top.now (under_itself c.args.top.now)) in
    let second = file_syncs c.args.top.now mid new (c.sync_files.ensures.calls (c.sync_leaf.ensures.told ∙ told) c.args.top.now (all_under c.args.top.now start.present c.args.dirs.now are.each)) in
    let here = clean_stays c.args.top.now mid.present new.present second (c.in_ok-sync_leaf.ensures.clean told) in
    on_ok_weaker c.sync_files.result
    (λ clean path under. all_clean start.present new.present c.args.top.now c.args.dirs.now tree are (second.names ∙ first.names) here clean path under.0 under.1)
    (c.sync_files.ensures.clean (c.sync_leaf.ensures.told ∙ told))

pub returns-clause-cause : goal.returns-clause-cause
returns-clause-cause g c =
    cause_then (g.F.Fs.firm c.args.fs.now) (g.F.Fs.firm c.sync_leaf.new.fs) (g.F.Fs.counts c.args.fs.now) (g.F.Fs.counts c.sync_leaf.new.fs) (g.F.Fs.counts c.sync_files.new.fs) None (unless_lack (error_of c.sync_files.result)) tt
    c.sync_leaf.ensures.firm c.in_ok-sync_leaf.ensures.cause c.sync_files.ensures.cause
