use Rattle.std.proofs.Common.{◌∙◌, Some, None, sym, subst}
use Rattle.fs_model.specs.State.{FsState}
use Rattle.fs_model.specs.Trail.{unless_lack}
use Rattle.fs_model.specs.WellFormed.{WellFormed}
use Rattle.fs_model.proofs.Observing.{reads_then}
use Rattle.tree_checks.specs.MissingDirs.{IsNoDir}
use Rattle.tree_checks.proofs.Firsts.{first_on}
use Rattle.tree_checks.proofs.missing.first_no_dir.Goals as goal

pub returns-in-Ok-Some-clause-reads : goal.returns-in-Ok-Some-clause-reads
returns-in-Ok-Some-clause-reads g c = reads_then _ _ _ None None tt c.loop-dir.invariant.reads c.in-Ok-Some.ensures.reads

pub returns-in-Err-clause-reads : goal.returns-in-Err-clause-reads
returns-in-Err-clause-reads g c = reads_then _ _ _ None (unless_lack (Some c.in-Err.error)) tt c.loop-dir.invariant.reads c.in-Err.ensures.reads

pub loop-dir-preserved : goal.loop-dir-preserved
loop-dir-preserved g c = record {
  reads = reads_then _ _ _ None None tt c.loop-dir.invariant.reads c.in-Ok-None.ensures.reads;
  rest = λ told formed.
      let s = (g.F.Fs.trail c.args.fs.now).present in
      let same = (c.loop-dir.invariant.reads.unchanged told).present in
      let none : IsNoDir s.names c.dir-item.result None =
      subst (IsNoDir s.names c.dir-item.result) c.in-Ok-None.field-0-is (subst (λ (t : FsState). IsNoDir t.names c.dir-item.result c.in-Ok-None.field-0) same (c.in-Ok-None.ensures.finds (c.loop-dir.invariant.reads.told ∙ told) (subst WellFormed (sym same) formed))) in
      first_on c.args.dirs.now c.loop-dir.dir-index c.dir-item.result c.loop-dir-test.true c.dir-item.is (IsNoDir s.names) none (c.loop-dir.invariant.rest told formed);
}
