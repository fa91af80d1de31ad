use Rattle.std.proofs.Common.{◌≡◌, ◌∙◌, ◌∷◌, [], Some, None, Err, refl, arith}
use Rattle.fs_model.specs.Calls.{Stats, refusal}
use Rattle.fs_model.specs.Trail.{stays, unless_lack}
use Rattle.fs_model.proofs.Going.{goes_then}
use Rattle.fs_model.proofs.Causes.{no_cause, cause_then, others_then}
use Rattle.crash_safety.specs.Calling.{Syncs}
use Rattle.crash_safety.specs.Synced.{IsSynced}
use Rattle.fs_tools.proofs.Answering.{decided_on, decides, decides_any, cause_on_lack}
use Rattle.fs_tools.proofs.Walking.{nth_has}
use Rattle.fs_tools.proofs.TreeSyncing.{only_syncs, stat_still, grown_by, whole_of}
use Rattle.last_sync.proofs.Syncing.{tree_goes, still_synced, all_synced}
use Rattle.last_sync.proofs.trees.sync_trees.Goals as goal

pub loop-top-init : goal.loop-top-init
loop-top-init g c = record {
  told = refl;
  firm = refl;
  calls = λ told. stays;
  synced = λ told. tt;
  cause = no_cause (g.F.Fs.firm c.args.fs.now) (g.F.Fs.counts c.args.fs.now);
  others = record { refusals = refl; lacks = refl };
}

pub returns-in_err-sync_tree-clause-calls : goal.returns-in_err-sync_tree-clause-calls
returns-in_err-sync_tree-clause-calls g c told =
    goes_then Syncs (c.loop-top.invariant.calls told) (tree_goes c.top-item.result (g.F.Fs.trail c.loop-top.fs) (g.F.Fs.trail c.sync_tree.new.fs) (c.sync_tree.ensures.calls (c.loop-top.invariant.told ∙ told)))

pub returns-in_err-sync_tree-clause-unrefused : goal.returns-in_err-sync_tree-clause-unrefused
returns-in_err-sync_tree-clause-unrefused g c told all =
    let start = g.F.Fs.trail c.args.fs.now in
    let here = g.F.Fs.trail c.loop-top.fs in
    let syncs = (only_syncs start here (c.loop-top.invariant.calls told)).present in
    let free = stat_still start.present here.present c.top-item.result syncs.names (nth_has c.args.tops.now c.loop-top.top-index c.top-item.result c.loop-top-test.true c.top-item.is (λ top. refusal start.present (Stats top) ≡ None) all) in
    decided_on None c.from_residual.result c.in_err-sync_tree.field-0.0 c.from_residual.ensures.1
    (decides_any (refusal here.present (Stats c.top-item.result)) None c.in_err-sync_tree.field-0.0 free
    (decides {T = Unit {0}} (refusal here.present (Stats c.top-item.result)) (Err c.in_err-sync_tree.field-0.0) (c.in_err-sync_tree.ensures.decided (c.loop-top.invariant.told ∙ told))))

pub returns-in_err-sync_tree-clause-cause : goal.returns-in_err-sync_tree-clause-cause
returns-in_err-sync_tree-clause-cause g c =
    cause_on_lack (g.F.Fs.firm c.args.fs.now) (g.F.Fs.counts c.args.fs.now) (g.F.Fs.counts c.sync_tree.new.fs) c.from_residual.result c.in_err-sync_tree.field-0.0 c.from_residual.ensures.1
    (cause_then (g.F.Fs.firm c.args.fs.now) (g.F.Fs.firm c.loop-top.fs) (g.F.Fs.counts c.args.fs.now) (g.F.Fs.counts c.loop-top.fs) (g.F.Fs.counts c.sync_tree.new.fs) None (unless_lack (Some c.in_err-sync_tree.field-0.0)) tt
    c.loop-top.invariant.firm c.loop-top.invariant.cause c.in_err-sync_tree.ensures.cause)

pub loop-top-preserved : goal.loop-top-preserved
loop-top-preserved g c = record {
  told = c.sync_tree.ensures.told ∙ c.loop-top.invariant.told;
  firm = c.sync_tree.ensures.firm ∙ c.loop-top.invariant.firm;
  calls = λ told. goes_then Syncs (c.loop-top.invariant.calls told) (tree_goes c.top-item.result (g.F.Fs.trail c.loop-top.fs) (g.F.Fs.trail c.sync_tree.new.fs) (c.sync_tree.ensures.calls (c.loop-top.invariant.told ∙ told)));
  synced = λ told.
      let here = g.F.Fs.trail c.loop-top.fs in
      let new = g.F.Fs.trail c.sync_tree.new.fs in
      let told_here = c.loop-top.invariant.told ∙ told in
      let syncs = (c.sync_tree.ensures.keeps told_here).present in
      grown_by (λ top. IsSynced (top ∷ []) here.present) (λ top. IsSynced (top ∷ []) new.present) c.args.tops.now c.loop-top.top-index c.top-item.result c.loop-top-test.true c.top-item.is
      (λ top synced. still_synced (top ∷ []) here.present new.present syncs synced) (c.loop-top.invariant.synced told) (c.in_ok-sync_tree.ensures.synced told_here);
  cause =
      cause_then (g.F.Fs.firm c.args.fs.now) (g.F.Fs.firm c.loop-top.fs) (g.F.Fs.counts c.args.fs.now) (g.F.Fs.counts c.loop-top.fs) (g.F.Fs.counts c.sync_tree.new.fs) None None tt
      c.loop-top.invariant.firm c.loop-top.invariant.cause c.in_ok-sync_tree.ensures.cause;
  others = others_then (g.F.Fs.counts c.args.fs.now) (g.F.Fs.counts c.loop-top.fs) (g.F.Fs.counts c.sync_tree.new.fs) None c.loop-top.invariant.others c.in_ok-sync_tree.ensures.others;
}

pub returns-clause-synced : goal.returns-clause-synced
returns-clause-synced g c told =
    let here = (g.F.Fs.trail c.loop-top.fs).present in
    all_synced c.args.tops.now here (whole_of (λ top. IsSynced (top ∷ []) here) c.args.tops.now c.loop-top.top-index (omega arith) (c.loop-top.invariant.synced told))
