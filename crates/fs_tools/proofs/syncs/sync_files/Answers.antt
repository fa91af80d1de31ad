use Rattle.std.proofs.Common.{◌≡◌, ◌∙◌, Some, None, Err, [], refl, sym, ap, subst, arith}
use Rattle.std.specs.FinMap.{get}
use Rattle.fs_model.specs.declared.node.Node.TheVariants.{Dir}
use Rattle.fs_model.specs.Names.{Path, IsUnder}
use Rattle.fs_model.specs.WellFormed.{IsTree}
use Rattle.fs_model.specs.Trail.{stays, unless_lack}
use Rattle.fs_model.proofs.Going.{goes_then}
use Rattle.fs_model.proofs.Causes.{no_cause, cause_then, others_then}
use Rattle.fs_tools.specs.Children.{IsIn}
use Rattle.fs_tools.specs.TreeSync.{SyncsFiles, IsCleanAt}
use Rattle.fs_tools.proofs.Answering.{decided_on, decides, cause_on_lack}
use Rattle.fs_tools.proofs.Walking.{nth_has}
use Rattle.fs_tools.proofs.TreeSyncing.{file_syncs, clean_stays, under_itself, all_under_root, grown_by, whole_of}
use Rattle.fs_tools.proofs.syncs.sync_files.Goals as goal

pub loop-dir-init : goal.loop-dir-init
loop-dir-init g c = record {
  told = refl;
  firm = refl;
  calls = λ told top all. stays;
  clean = λ told. tt;
  cause = no_cause (g.F.Fs.firm c.args.fs.now) (g.F.Fs.counts c.args.fs.now);
  others = record { refusals = refl; lacks = refl };
}

pub returns-in_err-sync_files_in-clause-calls : goal.returns-in_err-sync_files_in-clause-calls
returns-in_err-sync_files_in-clause-calls g c told top all =
    goes_then (SyncsFiles top) (c.loop-dir.invariant.calls told top all)
    (c.sync_files_in.ensures.calls (c.loop-dir.invariant.told ∙ told) top (nth_has c.args.dirs.now c.loop-dir.dir-index c.dir-item.result c.loop-dir-test.true c.dir-item.is (IsUnder top) all))

pub returns-in_err-sync_files_in-clause-decided : goal.returns-in_err-sync_files_in-clause-decided
returns-in_err-sync_files_in-clause-decided g c told tree all =
    let start = g.F.Fs.trail c.args.fs.now in
    let here = g.F.Fs.trail c.loop-dir.fs in
    let syncs = file_syncs [] start here (c.loop-dir.invariant.calls told [] (all_under_root c.args.dirs.now)) in
    let stands = nth_has c.args.dirs.now c.loop-dir.dir-index c.dir-item.result c.loop-dir-test.true c.dir-item.is (λ dir. get start.present.names dir ≡ Some Dir) all in
    decided_on None c.from_residual.result c.in_err-sync_files_in.field-0.0 c.from_residual.ensures.1
    (decides {T = Unit {0}} None (Err c.in_err-sync_files_in.field-0.0)
    (c.in_err-sync_files_in.ensures.decided (c.loop-dir.invariant.told ∙ told) (subst IsTree (sym syncs.names) tree) (ap (λ m. get m c.dir-item.result) syncs.names ∙ stands)))

pub returns-in_err-sync_files_in-clause-cause : goal.returns-in_err-sync_files_in-clause-cause
returns-in_err-sync_files_in-clause-cause g c =
    cause_on_lack (g.F.Fs.firm c.args.fs.now) (g.F.Fs.counts c.args.fs.now) (g.F.Fs.counts c.sync_files_in.new.fs) c.from_residual.result c.in_err-sync_files_in.field-0.0 c.from_residual.ensures.1
    (cause_then (g.F.Fs.firm c.args.fs.now) (g.F.Fs.firm c.loop-dir.fs) (g.F.Fs.counts c.args.fs.now) (g.F.Fs.counts c.loop-dir.fs) (g.F.Fs.counts c.sync_files_in.new.fs) None (unless_lack (Some c.in_err-sync_files_in.field-0.0)) tt
    c.loop-dir.invariant.firm c.loop-dir.invariant.cause c.in_err-sync_files_in.ensures.cause)

pub loop-dir-preserved : goal.loop-dir-preserved
loop-dir-preserved g c = record {
  told = c.sync_files_in.ensures.told ∙ c.loop-dir.invariant.told;
  firm = c.sync_files_in.ensures.firm ∙ c.loop-dir.invariant.firm;
  calls = λ told top all.
      goes_then (SyncsFiles top) (c.loop-dir.invariant.calls told top all)
      (c.sync_files_in.ensures.calls (c.loop-dir.invariant.told ∙ told) top (nth_has c.args.dirs.now c.loop-dir.dir-index c.dir-item.result c.loop-dir-test.true c.dir-item.is (IsUnder top) all));
  clean = λ told.
      let here = g.F.Fs.trail c.loop-dir.fs in
      let new = g.F.Fs.trail c.sync_files_in.new.fs in
      let told_here = c.loop-dir.invariant.told ∙ told in
      let syncs = file_syncs c.dir-item.result here new (c.sync_files_in.ensures.calls told_here c.dir-item.result (under_itself c.dir-item.result)) in
      grown_by (λ dir. (path : Path) → IsIn dir path → IsCleanAt path here.present) (λ dir. (path : Path) → IsIn dir path → IsCleanAt path new.present)
      c.args.dirs.now c.loop-dir.dir-index c.dir-item.result c.loop-dir-test.true c.dir-item.is
      (λ dir clean path inside. clean_stays path here.present new.present syncs (clean path inside)) (c.loop-dir.invariant.clean told) (c.in_ok-sync_files_in.ensures.clean told_here);
  cause =
      cause_then (g.F.Fs.firm c.args.fs.now) (g.F.Fs.firm c.loop-dir.fs) (g.F.Fs.counts c.args.fs.now) (g.F.Fs.counts c.loop-dir.fs) (g.F.Fs.counts c.sync_files_in.new.fs) None None tt
      c.loop-dir.invariant.firm c.loop-dir.invariant.cause c.in_ok-sync_files_in.ensures.cause;
  others = others_then (g.F.Fs.counts c.args.fs.now) (g.F.Fs.counts c.loop-dir.fs) (g.F.Fs.counts c.sync_files_in.new.fs) None c.loop-dir.invariant.others c.in_ok-sync_files_in.ensures.others;
}

pub returns-clause-clean : goal.returns-clause-clean
returns-clause-clean g c told =
    whole_of (λ dir. (path : Path) → IsIn dir path → IsCleanAt path (g.F.Fs.trail c.loop-dir.fs).present) c.args.dirs.now c.loop-dir.dir-index (omega arith) (c.loop-dir.invariant.clean told)
