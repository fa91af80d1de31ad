use Rattle.std.proofs.Common.{◌≡◌, ◌∙◌, ◌<◌, ◌+◌, ◌-◌, ◌++◌, ◌∷◌, [], length, Some, None, Err, refl, sym, ap, subst, arith, rules}
use Rattle.fs_model.specs.Calls.{Stats, refusal}
use Rattle.fs_model.specs.WellFormed.{IsTree}
use Rattle.fs_model.specs.Trail.{unless_lack}
use Rattle.fs_model.proofs.Causes.{others_then}
use Rattle.fs_model.proofs.Observing.{reads_then}
use Rattle.fs_tools.specs.Children.{paths_in}
use Rattle.fs_tools.specs.Walked.{IsWalk}
use Rattle.fs_tools.proofs.Answering.{reads_on_lack, decided_on, decides_any, decides}
use Rattle.fs_tools.proofs.Walking.{walk_starts, walk_alone, walk_next, walk_done, nth_free, child_length, takes_then}
use Rattle.fs_tools.proofs.walks.+look_below.Goals as goal

pub returns-then-not-is_dir-clause-walked : goal.returns-then-not-is_dir-clause-walked
returns-then-not-is_dir-clause-walked g t c told tree =
    let s = (g.F.Fs.trail c.args.fs.now).present in
    let (stat, is, took) = c.in_ok-is_dir.ensures.looked told in
    ((c.args.at.now, stat) ∷ [], (c.look_at.new.look, took, refl), walk_alone s c.args.at.now stat tree is (λ dir. (let yes = (c.in_ok-is_dir.ensures.tells told).1 dir in cc)))

pub returns-in_err-paths-clause-reads : goal.returns-in_err-paths-clause-reads
returns-in_err-paths-clause-reads g t c =
    reads_on_lack _ _ c.from_residual-in_err-paths.result c.in_err-paths.field-0.0 c.from_residual-in_err-paths.ensures.1
    (reads_then _ _ _ None (unless_lack (Some c.in_err-paths.field-0.0)) tt c.in_ok-is_dir.ensures.reads c.in_err-paths.ensures.reads)

pub loop-path-init : goal.loop-path-init
loop-path-init g t c = record {
  reads = reads_then _ _ _ None None tt c.in_ok-is_dir.ensures.reads c.in_ok-paths.ensures.reads;
  others = others_then _ _ _ None c.in_ok-is_dir.ensures.others c.in_ok-paths.ensures.others;
  walked = λ told tree.
      let (stat, is, took) = c.in_ok-is_dir.ensures.looked told in
      ((c.args.at.now, stat) ∷ [], (c.look_at.new.look, took, refl), walk_starts (g.F.Fs.trail c.args.fs.now).present c.args.at.now stat is);
}

pub look_below-requires : goal.look_below-requires
look_below-requires g t c =
    let (names, are) = c.in_ok-paths.ensures.below in
    let longer : length c.path-item.result ≡ length c.args.at.now + 1 = child_length c.args.at.now names c.deref-path-items.result.now c.loop-path.path-index c.path-item.result (c.deref-path-items.ensures.value ∙ are) c.loop-path-test.true c.path-item.is in
    let depth = c.loop-path.invariant.reads.depth in
    let first = c.in_ok-is_dir.ensures.reads.depth in
    let shallow = c.in_ok-paths.ensures.shallow in
    let smaller : g.F.Fs.depth c.loop-path.fs - length c.path-item.result < g.F.Fs.depth c.args.fs.now - length c.args.at.now = omega (arith, longer, depth, first, shallow) in
    search rules

pub returns-in_err-look_below-clause-reads : goal.returns-in_err-look_below-clause-reads
returns-in_err-look_below-clause-reads g t c =
    reads_on_lack _ _ c.from_residual-in_err-look_below.result c.in_err-look_below.field-0.0 c.from_residual-in_err-look_below.ensures.1
    (reads_then _ _ _ None (unless_lack (Some c.in_err-look_below.field-0.0)) tt c.loop-path.invariant.reads c.in_err-look_below.ensures.reads)

pub returns-in_err-look_below-clause-decided : goal.returns-in_err-look_below-clause-decided
returns-in_err-look_below-clause-decided g t c told tree =
    let start = (g.F.Fs.trail c.args.fs.now).present in
    let here = (g.F.Fs.trail c.loop-path.fs).present in
    let same = (c.loop-path.invariant.reads.unchanged told).present in
    let paths : c.deref-path-items.result.now ≡ paths_in start.names c.args.at.now =
    c.deref-path-items.ensures.value ∙ c.in_ok-paths.ensures.paths (c.in_ok-is_dir.ensures.reads.told ∙ told) ∙ ap (λ s. paths_in s.names c.args.at.now) (c.in_ok-is_dir.ensures.reads.unchanged told).present in
    let free : refusal here (Stats c.path-item.result) ≡ None =
    ap (λ s. refusal s (Stats c.path-item.result)) same ∙ nth_free c.deref-path-items.result.now c.loop-path.path-index c.path-item.result c.loop-path-test.true c.path-item.is start c.args.at.now paths tree in
    decided_on (refusal start (Stats c.args.at.now)) c.from_residual-in_err-look_below.result c.in_err-look_below.field-0.0 c.from_residual-in_err-look_below.ensures.1
    (decides_any (refusal here (Stats c.path-item.result)) (refusal start (Stats c.args.at.now)) c.in_err-look_below.field-0.0 free
    (decides {T = Unit {0}} (refusal here (Stats c.path-item.result)) (Err c.in_err-look_below.field-0.0) (c.in_err-look_below.ensures.decided (c.loop-path.invariant.reads.told ∙ told) (subst (λ s. IsTree s.names) (sym same) tree))))

pub loop-path-preserved : goal.loop-path-preserved
loop-path-preserved g t c = record {
  reads = reads_then _ _ _ None None tt c.loop-path.invariant.reads c.in_ok-look_below.ensures.reads;
  others = others_then _ _ _ None c.loop-path.invariant.others c.in_ok-look_below.ensures.others;
  walked = λ told tree.
      let start = (g.F.Fs.trail c.args.fs.now).present in
      let same = (c.loop-path.invariant.reads.unchanged told).present in
      let paths : c.deref-path-items.result.now ≡ paths_in start.names c.args.at.now =
      c.deref-path-items.ensures.value ∙ c.in_ok-paths.ensures.paths (c.in_ok-is_dir.ensures.reads.told ∙ told) ∙ ap (λ s. paths_in s.names c.args.at.now) (c.in_ok-is_dir.ensures.reads.unchanged told).present in
      let (items, taken, so_far) = c.loop-path.invariant.walked told tree in
      let (more, took, walk) = c.in_ok-look_below.ensures.walked (c.loop-path.invariant.reads.told ∙ told) (subst (λ s. IsTree s.names) (sym same) tree) in (
        items ++ more,
        takes_then g.L.Look.takes c.args.look.now c.loop-path.look c.look_below.new.look items more taken took,
        walk_next c.deref-path-items.result.now c.loop-path.path-index c.path-item.result c.loop-path-test.true c.path-item.is start c.args.at.now items more paths so_far (subst (λ s. IsWalk s c.path-item.result more) same walk),
      );
}

pub returns-clause-walked : goal.returns-clause-walked
returns-clause-walked g t c told tree =
    let start = (g.F.Fs.trail c.args.fs.now).present in
    let paths : c.deref-path-items.result.now ≡ paths_in start.names c.args.at.now =
    c.deref-path-items.ensures.value ∙ c.in_ok-paths.ensures.paths (c.in_ok-is_dir.ensures.reads.told ∙ told) ∙ ap (λ s. paths_in s.names c.args.at.now) (c.in_ok-is_dir.ensures.reads.unchanged told).present in
    let (items, taken, so_far) = c.loop-path.invariant.walked told tree in
    (items, taken, walk_done start c.args.at.now c.deref-path-items.result.now c.loop-path.path-index items paths (omega arith) tree so_far)
