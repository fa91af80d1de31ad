use Rattle.std.proofs.Common.{◌≡◌, ◌∙◌, Some, None, Err, sym, subst}
use Rattle.std.proofs.lemmas.Result.{on_ok_weaker}
use Rattle.fs_model.specs.Calls.{Stats, refusal}
use Rattle.fs_model.specs.WellFormed.{IsTree}
use Rattle.fs_model.specs.Trail.{DecidedBy, stays, unless_lack}
use Rattle.fs_model.proofs.Going.{goes_then}
use Rattle.fs_model.proofs.Causes.{cause_then}
use Rattle.fs_tools.specs.Walked.{AreDirsUnder}
use Rattle.fs_tools.specs.TreeSync.{SyncsFiles}
use Rattle.fs_tools.proofs.Answering.{decided_on, decides, cause_on_lack}
use Rattle.fs_tools.proofs.Reruns.{unchanged_goes, stat_may_fail}
use Rattle.fs_tools.proofs.TreeSyncing.{file_syncs, dir_syncs, tree_syncs, all_under, all_free}
use Rattle.fs_tools.proofs.DiskKeeping.{tree_keeps_disk}
use Rattle.fs_tools.proofs.Gathering.{tree_synced}
use Rattle.fs_tools.proofs.syncs.sync_tree.Goals as goal

pub returns-in_err-dirs-clause-calls : goal.returns-in_err-dirs-clause-calls
returns-in_err-dirs-clause-calls g c told =
    let new = g.F.Fs.trail c.dirs_under.new.fs in
    (new, unchanged_goes (SyncsFiles c.args.top.now) (Stats c.args.top.now) (λ s. tt) (stat_may_fail c.args.top.now) (g.F.Fs.trail c.args.fs.now) new (c.dirs_under.ensures.reads.unchanged told), stays)

pub returns-in_err-dirs-clause-keeps : goal.returns-in_err-dirs-clause-keeps
returns-in_err-dirs-clause-keeps g c told =
    tree_syncs c.args.top.now (g.F.Fs.trail c.args.fs.now) (g.F.Fs.trail c.dirs_under.new.fs) (returns-in_err-dirs-clause-calls g c told)

pub returns-in_err-sync_files_under-clause-calls : goal.returns-in_err-sync_files_under-clause-calls
returns-in_err-sync_files_under-clause-calls g c told =
    let start = g.F.Fs.trail c.args.fs.now in
    let read = g.F.Fs.trail c.dirs_under.new.fs in
    let new = g.F.Fs.trail c.sync_files_under.new.fs in
    let are = subst (AreDirsUnder start.present c.args.top.now) (sym c.deref.ensures.value) (c.in_ok-dirs.ensures.dirs told) in (
      new,
      goes_then (SyncsFiles c.args.top.now)
          (unchanged_goes (SyncsFiles c.args.top.now) (Stats c.args.top.now) (λ s. tt) (stat_may_fail c.args.top.now) start read (c.dirs_under.ensures.reads.unchanged told))
          (c.sync_files_under.ensures.calls (c.dirs_under.ensures.reads.told ∙ told) (all_under c.args.top.now start.present c.deref.result.now are.each)),
      stays,
    )

pub returns-in_err-sync_files_under-clause-keeps : goal.returns-in_err-sync_files_under-clause-keeps
returns-in_err-sync_files_under-clause-keeps g c told =
    tree_syncs c.args.top.now (g.F.Fs.trail c.args.fs.now) (g.F.Fs.trail c.sync_files_under.new.fs) (returns-in_err-sync_files_under-clause-calls g c told)

pub returns-in_err-sync_files_under-clause-decided : goal.returns-in_err-sync_files_under-clause-decided
returns-in_err-sync_files_under-clause-decided g c told =
    let start = (g.F.Fs.trail c.args.fs.now).present in
    let read = (g.F.Fs.trail c.dirs_under.new.fs).present in
    let same = (c.dirs_under.ensures.reads.unchanged told).present in
    let are = subst (AreDirsUnder start c.args.top.now) (sym c.deref.ensures.value) (c.in_ok-dirs.ensures.dirs told) in
    let tree = (c.moment.ensures.well_formed told).tree in
    decided_on (refusal start (Stats c.args.top.now)) c.from_residual-in_err-sync_files_under.result c.in_err-sync_files_under.field-0.0 c.from_residual-in_err-sync_files_under.ensures.1
    (decides {T = Unit {0}} (refusal start (Stats c.args.top.now)) (Err c.in_err-sync_files_under.field-0.0)
    (subst (λ s. DecidedBy {T = Unit {0}} (refusal s (Stats c.args.top.now)) (Err c.in_err-sync_files_under.field-0.0)) same
    (c.in_err-sync_files_under.ensures.decided (c.dirs_under.ensures.reads.told ∙ told) (subst (λ s. IsTree s.names) (sym same) tree) (subst (λ s. AreDirsUnder s c.args.top.now c.deref.result.now) (sym same) are))))

pub returns-in_err-sync_files_under-clause-cause : goal.returns-in_err-sync_files_under-clause-cause
returns-in_err-sync_files_under-clause-cause g c =
    cause_on_lack (g.F.Fs.firm c.args.fs.now) (g.F.Fs.counts c.args.fs.now) (g.F.Fs.counts c.sync_files_under.new.fs) c.from_residual-in_err-sync_files_under.result c.in_err-sync_files_under.field-0.0 c.from_residual-in_err-sync_files_under.ensures.1
    (cause_then (g.F.Fs.firm c.args.fs.now) (g.F.Fs.firm c.dirs_under.new.fs) (g.F.Fs.counts c.args.fs.now) (g.F.Fs.counts c.dirs_under.new.fs) (g.F.Fs.counts c.sync_files_under.new.fs) None (unless_lack (Some c.in_err-sync_files_under.field-0.0)) tt
    c.dirs_under.ensures.reads.firm c.in_ok-dirs.ensures.reads.cause c.in_err-sync_files_under.ensures.cause)

pub returns-clause-calls : goal.returns-clause-calls
returns-clause-calls g c told =
    let start = g.F.Fs.trail c.args.fs.now in
    let read = g.F.Fs.trail c.dirs_under.new.fs in
    let mid = g.F.Fs.trail c.sync_files_under.new.fs in
    let are = subst (AreDirsUnder start.present c.args.top.now) (sym c.deref.ensures.value) (c.in_ok-dirs.ensures.dirs told) in
    let told_read = c.dirs_under.ensures.reads.told ∙ told in (
      mid,
      goes_then (SyncsFiles c.args.top.now)
          (unchanged_goes (SyncsFiles c.args.top.now) (Stats c.args.top.now) (λ s. tt) (stat_may_fail c.args.top.now) start read (c.dirs_under.ensures.reads.unchanged told))
          (c.sync_files_under.ensures.calls told_read (all_under c.args.top.now start.present c.deref.result.now are.each)),
      c.sync_dirs.ensures.calls (c.sync_files_under.ensures.told ∙ told_read) c.args.top.now (all_under c.args.top.now start.present _ (subst (AreDirsUnder start.present c.args.top.now) (sym c.deref-2.ensures.value) (c.in_ok-dirs.ensures.dirs told)).each),
    )

pub returns-clause-keeps : goal.returns-clause-keeps
returns-clause-keeps g c told = tree_syncs c.args.top.now (g.F.Fs.trail c.args.fs.now) (g.F.Fs.trail c.sync_dirs.new.fs) (returns-clause-calls g c told)

pub returns-clause-decided : goal.returns-clause-decided
unfolding returns-clause-calls
returns-clause-decided g c told =
    let start = g.F.Fs.trail c.args.fs.now in
    let mid = g.F.Fs.trail c.sync_files_under.new.fs in
    let tree = (c.moment.ensures.well_formed told).tree in
    let free : refusal start.present (Stats c.args.top.now) ≡ None = c.in_ok-dirs.ensures.decided told in
    let are = subst (AreDirsUnder start.present c.args.top.now) (sym c.deref-2.ensures.value) (c.in_ok-dirs.ensures.dirs told) in
    let same = (file_syncs c.args.top.now start mid (returns-clause-calls g c told).1).names in
    subst (λ refused. DecidedBy refused c.sync_dirs.result) (sym free)
    (c.sync_dirs.ensures.decided (c.sync_files_under.ensures.told ∙ (c.dirs_under.ensures.reads.told ∙ told)) (all_free c.args.top.now start.present mid.present c.deref-2.result.now tree same are.each))

pub returns-clause-synced : goal.returns-clause-synced
unfolding returns-clause-calls
returns-clause-synced g c told =
    let start = g.F.Fs.trail c.args.fs.now in
    let mid = g.F.Fs.trail c.sync_files_under.new.fs in
    let new = g.F.Fs.trail c.sync_dirs.new.fs in
    let calls = returns-clause-calls g c told in
    let read_same = (c.dirs_under.ensures.reads.unchanged told).present in
    let tree = (c.moment.ensures.well_formed told).tree in
    let first = subst (AreDirsUnder start.present c.args.top.now) (sym c.deref.ensures.value) (c.in_ok-dirs.ensures.dirs told) in
    let are = subst (AreDirsUnder start.present c.args.top.now) (sym c.deref-2.ensures.value) (c.in_ok-dirs.ensures.dirs told) in
    let told_read = c.dirs_under.ensures.reads.told ∙ told in
    let clean = c.in_ok-sync_files_under.ensures.clean told_read (subst (λ s. IsTree s.names) (sym read_same) tree) (subst (λ s. AreDirsUnder s c.args.top.now c.deref.result.now) (sym read_same) first) in
    on_ok_weaker c.sync_dirs.result
    (λ quiet. tree_synced start.present mid.present new.present c.args.top.now c.deref-2.result.now are (file_syncs c.args.top.now start mid calls.1).names (dir_syncs c.args.top.now mid new calls.2) clean quiet)
    (c.sync_dirs.ensures.quiet (c.sync_files_under.ensures.told ∙ told_read))

pub returns-in_err-dirs-clause-disk : goal.returns-in_err-dirs-clause-disk
returns-in_err-dirs-clause-disk g c told =
    tree_keeps_disk c.args.top.now (g.F.Fs.trail c.args.fs.now) (g.F.Fs.trail c.dirs_under.new.fs) (c.moment.ensures.well_formed told).together (returns-in_err-dirs-clause-calls g c told)

pub returns-in_err-sync_files_under-clause-disk : goal.returns-in_err-sync_files_under-clause-disk
returns-in_err-sync_files_under-clause-disk g c told =
    tree_keeps_disk c.args.top.now (g.F.Fs.trail c.args.fs.now) (g.F.Fs.trail c.sync_files_under.new.fs) (c.moment.ensures.well_formed told).together (returns-in_err-sync_files_under-clause-calls g c told)

pub returns-clause-disk : goal.returns-clause-disk
returns-clause-disk g c told = tree_keeps_disk c.args.top.now (g.F.Fs.trail c.args.fs.now) (g.F.Fs.trail c.sync_dirs.new.fs) (c.moment.ensures.well_formed told).together (returns-clause-calls g c told)
