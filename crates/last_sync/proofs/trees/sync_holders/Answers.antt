use Rattle.std.proofs.Common.{◌≡◌, ◌∙◌, Some, None, refl, arith}
use Rattle.fs_model.specs.Calls.{SyncsDir, refusal}
use Rattle.fs_model.specs.Trail.{stays, on, error_of}
use Rattle.fs_model.proofs.Going.{goes_one}
use Rattle.fs_model.proofs.Causes.{no_cause, cause_then, others_then}
use Rattle.crash_safety.specs.Calling.{Syncs}
use Rattle.fs_tools.specs.TreeSync.{IsQuiet}
use Rattle.fs_tools.proofs.Answering.{decided_on, decides_any, steps_decide}
use Rattle.fs_tools.proofs.Walking.{nth_has}
use Rattle.fs_tools.proofs.TreeSyncing.{only_syncs, dir_still, dir_quiet, grown_by, whole_of}
use Rattle.last_sync.proofs.Syncing.{all_quiet}
use Rattle.last_sync.proofs.trees.sync_holders.Goals as goal

pub loop-holder-init : goal.loop-holder-init
loop-holder-init g c = record {
  told = refl;
  firm = refl;
  calls = λ told. stays;
  quiet = λ told. tt;
  cause = no_cause (g.F.Fs.firm c.args.fs.now) (g.F.Fs.counts c.args.fs.now);
  others = record { refusals = refl; lacks = refl };
}

pub returns-in_err-sync_dir-clause-calls : goal.returns-in_err-sync_dir-clause-calls
returns-in_err-sync_dir-clause-calls g c told =
    on (c.loop-holder.invariant.calls told) (SyncsDir c.holder-item.result) (error_of c.sync_dir.result) tt (c.sync_dir.ensures.steps (c.loop-holder.invariant.told ∙ told))

pub returns-in_err-sync_dir-clause-unrefused : goal.returns-in_err-sync_dir-clause-unrefused
returns-in_err-sync_dir-clause-unrefused g c told all =
    let start = g.F.Fs.trail c.args.fs.now in
    let here = g.F.Fs.trail c.loop-holder.fs in
    let syncs = (only_syncs start here (c.loop-holder.invariant.calls told)).present in
    let free = dir_still start.present here.present c.holder-item.result syncs.names (nth_has c.args.holders.now c.loop-holder.holder-index c.holder-item.result c.loop-holder-test.true c.holder-item.is (λ dir. refusal start.present (SyncsDir dir) ≡ None) all) in
    decided_on None c.from_residual.result c.in_err-sync_dir.field-0.0 c.from_residual.ensures.1
    (decides_any (refusal here.present (SyncsDir c.holder-item.result)) None c.in_err-sync_dir.field-0.0 free
    (steps_decide (SyncsDir c.holder-item.result) (Some c.in_err-sync_dir.field-0.0) here (g.F.Fs.trail c.sync_dir.new.self) (c.in_err-sync_dir.ensures.steps (c.loop-holder.invariant.told ∙ told))))

pub loop-holder-preserved : goal.loop-holder-preserved
loop-holder-preserved g c = record {
  told = c.sync_dir.ensures.told ∙ c.loop-holder.invariant.told;
  firm = c.sync_dir.ensures.firm ∙ c.loop-holder.invariant.firm;
  calls = λ told. on (c.loop-holder.invariant.calls told) (SyncsDir c.holder-item.result) None tt (c.in_ok-sync_dir.ensures.steps (c.loop-holder.invariant.told ∙ told));
  quiet = λ told.
      let here = g.F.Fs.trail c.loop-holder.fs in
      let new = g.F.Fs.trail c.sync_dir.new.self in
      let steps = c.in_ok-sync_dir.ensures.steps (c.loop-holder.invariant.told ∙ told) in
      let syncs = (only_syncs here new (goes_one Syncs (SyncsDir c.holder-item.result) None here new tt steps)).present in
      grown_by (λ dir. IsQuiet dir here.present.pending) (λ dir. IsQuiet dir new.present.pending) c.args.holders.now c.loop-holder.holder-index c.holder-item.result c.loop-holder-test.true c.holder-item.is
      (λ dir quiet. syncs.quiet dir quiet) (c.loop-holder.invariant.quiet told) (dir_quiet c.holder-item.result here new steps);
  cause =
      cause_then (g.F.Fs.firm c.args.fs.now) (g.F.Fs.firm c.loop-holder.fs) (g.F.Fs.counts c.args.fs.now) (g.F.Fs.counts c.loop-holder.fs) (g.F.Fs.counts c.sync_dir.new.self) None None tt
      c.loop-holder.invariant.firm c.loop-holder.invariant.cause c.in_ok-sync_dir.ensures.cause;
  others = others_then (g.F.Fs.counts c.args.fs.now) (g.F.Fs.counts c.loop-holder.fs) (g.F.Fs.counts c.sync_dir.new.self) None c.loop-holder.invariant.others c.in_ok-sync_dir.ensures.others;
}

pub returns-clause-quiet : goal.returns-clause-quiet
returns-clause-quiet g c told =
    let here = (g.F.Fs.trail c.loop-holder.fs).present in
    all_quiet c.args.holders.now here (whole_of (λ dir. IsQuiet dir here.pending) c.args.holders.now c.loop-holder.holder-index (omega arith) (c.loop-holder.invariant.quiet told))
