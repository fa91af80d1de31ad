use Rattle.std.proofs.Common.{◌∙◌, Some, None, Err, sym, subst, arith}
use Rattle.std.specs.List.{AllByRecursion}
use Rattle.fs_model.specs.Calls.{Stats, Lists, refusal}
use Rattle.fs_model.proofs.Going.{goes_then}
use Rattle.fs_model.proofs.Causes.{cause_then, others_then, cause_unless_lack}
use Rattle.fs_tools.specs.Children.{IsIn}
use Rattle.fs_tools.specs.TreeSync.{SyncsFiles, IsCleanAt}
use Rattle.fs_tools.proofs.Answering.{decided_on, decides, decides_any, cause_on_lack}
use Rattle.fs_tools.proofs.Reruns.{unchanged_goes, stat_may_fail}
use Rattle.fs_tools.proofs.Walking.{nth_has, nth_free}
use Rattle.fs_tools.proofs.TreeSyncing.{file_syncs, clean_stays, under_itself, under_deeper, children_in, grown_by, whole_of, stat_still, dir_free, dir_clean}
use Rattle.fs_tools.proofs.syncs.sync_files_in.Goals as goal

pub returns-in_err-paths-clause-calls : goal.returns-in_err-paths-clause-calls
returns-in_err-paths-clause-calls g c told top under =
    unchanged_goes (SyncsFiles top) (Stats c.args.dir.now) (λ s. tt) (stat_may_fail c.args.dir.now) (g.F.Fs.trail c.args.fs.now) (g.F.Fs.trail c.list_paths.new.fs) (c.list_paths.ensures.reads.unchanged told)

pub returns-in_err-paths-clause-decided : goal.returns-in_err-paths-clause-decided
returns-in_err-paths-clause-decided g c told tree is_dir =
    let s = (g.F.Fs.trail c.args.fs.now).present in
    decided_on None c.from_residual.result c.in_err-paths.field-0.0 c.from_residual.ensures.1
    (decides_any (refusal s (Lists c.args.dir.now)) None c.in_err-paths.field-0.0 (dir_free s c.args.dir.now tree is_dir).0
    (decides {T = Unit {0}} (refusal s (Lists c.args.dir.now)) (Err c.in_err-paths.field-0.0) (c.in_err-paths.ensures.decided told)))

pub returns-in_err-paths-clause-cause : goal.returns-in_err-paths-clause-cause
returns-in_err-paths-clause-cause g c =
    cause_on_lack (g.F.Fs.firm c.args.fs.now) (g.F.Fs.counts c.args.fs.now) (g.F.Fs.counts c.list_paths.new.fs) c.from_residual.result c.in_err-paths.field-0.0 c.from_residual.ensures.1 c.in_err-paths.ensures.reads.cause

pub loop-path-init : goal.loop-path-init
loop-path-init g c = record {
  told = c.list_paths.ensures.reads.told;
  firm = c.list_paths.ensures.reads.firm;
  calls = λ told top under.
      unchanged_goes (SyncsFiles top) (Stats c.args.dir.now) (λ s. tt) (stat_may_fail c.args.dir.now) (g.F.Fs.trail c.args.fs.now) (g.F.Fs.trail c.list_paths.new.fs) (c.list_paths.ensures.reads.unchanged told);
  clean = λ told. tt;
  cause = c.in_ok-paths.ensures.reads.cause;
  others = c.in_ok-paths.ensures.others;
}

pub returns-in_err-sync_leaf-clause-calls : goal.returns-in_err-sync_leaf-clause-calls
returns-in_err-sync_leaf-clause-calls g c told top under =
    let (names, are) = c.in_ok-paths.ensures.below in
    let inside = nth_has c.deref-path-items.result.now c.loop-path.path-index c.path-item.result c.loop-path-test.true c.path-item.is (IsIn c.args.dir.now)
    (subst (AllByRecursion (IsIn c.args.dir.now)) (sym (c.deref-path-items.ensures.value ∙ are)) (children_in c.args.dir.now names)) in
    goes_then (SyncsFiles top) (c.loop-path.invariant.calls told top under) (c.sync_leaf.ensures.calls (c.loop-path.invariant.told ∙ told) top (under_deeper top c.args.dir.now c.path-item.result under inside))

pub returns-in_err-sync_leaf-clause-decided : goal.returns-in_err-sync_leaf-clause-decided
returns-in_err-sync_leaf-clause-decided g c told tree is_dir =
    let start = g.F.Fs.trail c.args.fs.now in
    let here = g.F.Fs.trail c.loop-path.fs in
    let syncs = file_syncs c.args.dir.now start here (c.loop-path.invariant.calls told c.args.dir.now (under_itself c.args.dir.now)) in
    let free = stat_still start.present here.present c.path-item.result syncs.names
    (nth_free c.deref-path-items.result.now c.loop-path.path-index c.path-item.result c.loop-path-test.true c.path-item.is start.present c.args.dir.now (c.deref-path-items.ensures.value ∙ c.in_ok-paths.ensures.paths told) tree) in
    decided_on None c.from_residual-in_err-sync_leaf.result c.in_err-sync_leaf.field-0.0 c.from_residual-in_err-sync_leaf.ensures.1
    (decides_any (refusal here.present (Stats c.path-item.result)) None c.in_err-sync_leaf.field-0.0 free
    (decides {T = Unit {0}} (refusal here.present (Stats c.path-item.result)) (Err c.in_err-sync_leaf.field-0.0) (c.in_err-sync_leaf.ensures.decided (c.loop-path.invariant.told ∙ told))))

pub returns-in_err-sync_leaf-clause-cause : goal.returns-in_err-sync_leaf-clause-cause
returns-in_err-sync_leaf-clause-cause g c =
    cause_on_lack (g.F.Fs.firm c.args.fs.now) (g.F.Fs.counts c.args.fs.now) (g.F.Fs.counts c.sync_leaf.new.fs) c.from_residual-in_err-sync_leaf.result c.in_err-sync_leaf.field-0.0 c.from_residual-in_err-sync_leaf.ensures.1
    (cause_unless_lack (g.F.Fs.firm c.args.fs.now) (g.F.Fs.counts c.args.fs.now) (g.F.Fs.counts c.sync_leaf.new.fs) (Some c.in_err-sync_leaf.field-0.0)
    (cause_then (g.F.Fs.firm c.args.fs.now) (g.F.Fs.firm c.loop-path.fs) (g.F.Fs.counts c.args.fs.now) (g.F.Fs.counts c.loop-path.fs) (g.F.Fs.counts c.sync_leaf.new.fs) None (Some c.in_err-sync_leaf.field-0.0) tt
    c.loop-path.invariant.firm c.loop-path.invariant.cause c.in_err-sync_leaf.ensures.cause))

pub loop-path-preserved : goal.loop-path-preserved
loop-path-preserved g c = record {
  told = c.sync_leaf.ensures.told ∙ c.loop-path.invariant.told;
  firm = c.sync_leaf.ensures.firm ∙ c.loop-path.invariant.firm;
  calls = λ told top under.
      let (names, are) = c.in_ok-paths.ensures.below in
      let inside = nth_has c.deref-path-items.result.now c.loop-path.path-index c.path-item.result c.loop-path-test.true c.path-item.is (IsIn c.args.dir.now)
      (subst (AllByRecursion (IsIn c.args.dir.now)) (sym (c.deref-path-items.ensures.value ∙ are)) (children_in c.args.dir.now names)) in
      goes_then (SyncsFiles top) (c.loop-path.invariant.calls told top under) (c.sync_leaf.ensures.calls (c.loop-path.invariant.told ∙ told) top (under_deeper top c.args.dir.now c.path-item.result under inside));
  clean = λ told.
      let here = g.F.Fs.trail c.loop-path.fs in
      let new = g.F.Fs.trail c.sync_leaf.new.fs in
      let told_here = c.loop-path.invariant.told ∙ told in
      let syncs = file_syncs c.path-item.result here new (c.sync_leaf.ensures.calls told_here c.path-item.result (under_itself c.path-item.result)) in
      grown_by (λ path. IsCleanAt path here.present) (λ path. IsCleanAt path new.present) c.deref-path-items.result.now c.loop-path.path-index c.path-item.result c.loop-path-test.true c.path-item.is
      (λ path clean. clean_stays path here.present new.present syncs clean) (c.loop-path.invariant.clean told) (c.in_ok-sync_leaf.ensures.clean told_here);
  cause =
      cause_then (g.F.Fs.firm c.args.fs.now) (g.F.Fs.firm c.loop-path.fs) (g.F.Fs.counts c.args.fs.now) (g.F.Fs.counts c.loop-path.fs) (g.F.Fs.counts c.sync_leaf.new.fs) None None tt
      c.loop-path.invariant.firm c.loop-path.invariant.cause c.in_ok-sync_leaf.ensures.cause;
  others = others_then (g.F.Fs.counts c.args.fs.now) (g.F.Fs.counts c.loop-path.fs) (g.F.Fs.counts c.sync_leaf.new.fs) None c.loop-path.invariant.others c.in_ok-sync_leaf.ensures.others;
}

pub returns-clause-clean : goal.returns-clause-clean
returns-clause-clean g c told =
    let start = g.F.Fs.trail c.args.fs.now in
    let here = g.F.Fs.trail c.loop-path.fs in
    let syncs = file_syncs c.args.dir.now start here (c.loop-path.invariant.calls told c.args.dir.now (under_itself c.args.dir.now)) in
    dir_clean start.present here.present c.args.dir.now c.deref-path-items.result.now (c.deref-path-items.ensures.value ∙ c.in_ok-paths.ensures.paths told) syncs.names
    (whole_of (λ path. IsCleanAt path here.present) c.deref-path-items.result.now c.loop-path.path-index (omega arith) (c.loop-path.invariant.clean told))
