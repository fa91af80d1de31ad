use Rattle.std.proofs.Common.{◌≡◌, ◌∙◌, Some, None, [], refl, arith}
use Rattle.fs_model.specs.Names.{IsUnder}
use Rattle.fs_model.specs.Calls.{SyncsDir, refusal}
use Rattle.fs_model.specs.Trail.{stays, on, error_of}
use Rattle.fs_model.proofs.Going.{goes_one}
use Rattle.fs_model.proofs.Causes.{no_cause, cause_then, others_then}
use Rattle.fs_tools.specs.TreeSync.{SyncsDirs, IsQuiet}
use Rattle.fs_tools.proofs.Answering.{decided_on, decides_any, steps_decide}
use Rattle.fs_tools.proofs.Walking.{nth_has}
use Rattle.fs_tools.proofs.TreeSyncing.{dir_syncs, dir_quiet, under_itself, all_under_root, grown_by, whole_of, dir_still}
use Rattle.fs_tools.proofs.syncs.sync_dirs.Goals as goal

pub loop-dir-init : goal.loop-dir-init
loop-dir-init g c = record {
  told = refl;
  firm = refl;
  calls = λ told top all. stays;
  quiet = λ told. tt;
  cause = no_cause (g.F.Fs.firm c.args.fs.now) (g.F.Fs.counts c.args.fs.now);
  others = record { refusals = refl; lacks = refl };
}

pub returns-in_err-sync_dir-clause-calls : goal.returns-in_err-sync_dir-clause-calls
returns-in_err-sync_dir-clause-calls g c told top all =
    on (c.loop-dir.invariant.calls told top all) (SyncsDir c.dir-item.result) (error_of c.sync_dir.result) (nth_has c.args.dirs.now c.loop-dir.dir-index c.dir-item.result c.loop-dir-test.true c.dir-item.is (IsUnder top) all)
    (c.sync_dir.ensures.steps (c.loop-dir.invariant.told ∙ told))

pub returns-in_err-sync_dir-clause-decided : goal.returns-in_err-sync_dir-clause-decided
returns-in_err-sync_dir-clause-decided g c told all =
    let start = g.F.Fs.trail c.args.fs.now in
    let here = g.F.Fs.trail c.loop-dir.fs in
    let syncs = dir_syncs [] start here (c.loop-dir.invariant.calls told [] (all_under_root c.args.dirs.now)) in
    let free = dir_still start.present here.present c.dir-item.result syncs.names (nth_has c.args.dirs.now c.loop-dir.dir-index c.dir-item.result c.loop-dir-test.true c.dir-item.is (λ dir. refusal start.present (SyncsDir dir) ≡ None) all) in
    decided_on None c.from_residual.result c.in_err-sync_dir.field-0.0 c.from_residual.ensures.1
    (decides_any (refusal here.present (SyncsDir c.dir-item.result)) None c.in_err-sync_dir.field-0.0 free
    (steps_decide (SyncsDir c.dir-item.result) (Some c.in_err-sync_dir.field-0.0) here (g.F.Fs.trail c.sync_dir.new.self) (c.in_err-sync_dir.ensures.steps (c.loop-dir.invariant.told ∙ told))))

pub loop-dir-preserved : goal.loop-dir-preserved
loop-dir-preserved g c = record {
  told = c.sync_dir.ensures.told ∙ c.loop-dir.invariant.told;
  firm = c.sync_dir.ensures.firm ∙ c.loop-dir.invariant.firm;
  calls = λ told top all.
      on (c.loop-dir.invariant.calls told top all) (SyncsDir c.dir-item.result) None (nth_has c.args.dirs.now c.loop-dir.dir-index c.dir-item.result c.loop-dir-test.true c.dir-item.is (IsUnder top) all)
      (c.in_ok-sync_dir.ensures.steps (c.loop-dir.invariant.told ∙ told));
  quiet = λ told.
      let here = g.F.Fs.trail c.loop-dir.fs in
      let new = g.F.Fs.trail c.sync_dir.new.self in
      let steps = c.in_ok-sync_dir.ensures.steps (c.loop-dir.invariant.told ∙ told) in
      let syncs = dir_syncs c.dir-item.result here new (goes_one (SyncsDirs c.dir-item.result) (SyncsDir c.dir-item.result) None here new (under_itself c.dir-item.result) steps) in
      grown_by (λ dir. IsQuiet dir here.present.pending) (λ dir. IsQuiet dir new.present.pending) c.args.dirs.now c.loop-dir.dir-index c.dir-item.result c.loop-dir-test.true c.dir-item.is
      (λ dir quiet. syncs.quiet dir quiet) (c.loop-dir.invariant.quiet told) (dir_quiet c.dir-item.result here new steps);
  cause =
      cause_then (g.F.Fs.firm c.args.fs.now) (g.F.Fs.firm c.loop-dir.fs) (g.F.Fs.counts c.args.fs.now) (g.F.Fs.counts c.loop-dir.fs) (g.F.Fs.counts c.sync_dir.new.self) None None tt
      c.loop-dir.invariant.firm c.loop-dir.invariant.cause c.in_ok-sync_dir.ensures.cause;
  others = others_then (g.F.Fs.counts c.args.fs.now) (g.F.Fs.counts c.loop-dir.fs) (g.F.Fs.counts c.sync_dir.new.self) None c.loop-dir.invariant.others c.in_ok-sync_dir.ensures.others;
}

pub returns-clause-quiet : goal.returns-clause-quiet
returns-clause-quiet g c told =
    whole_of (λ dir. IsQuiet dir (g.F.Fs.trail c.loop-dir.fs).present.pending) c.args.dirs.now c.loop-dir.dir-index (omega arith) (c.loop-dir.invariant.quiet told)
