use Rattle.std.proofs.Common.{◌∙◌, ◌++◌, ◌∷◌, [], take, Some, None, sym, subst}
use Rattle.fs_model.specs.State.{FsState}
use Rattle.fs_model.specs.Trail.{unless_lack}
use Rattle.fs_model.specs.WellFormed.{WellFormed}
use Rattle.fs_model.proofs.Observing.{no_reads, reads_then}
use Rattle.std.proofs.lemmas.List.{take_all}
use Rattle.file_checks.specs.Kept.{AreFirstBad}
use Rattle.file_checks.proofs.Bad.{none_bad}
use Rattle.file_checks.proofs.Lists.{taken_to}
use Rattle.file_checks.proofs.files.bad_names.Goals as goal

pub loop-name-init : goal.loop-name-init
loop-name-init g c = record {
  reads = no_reads _;
  bad = λ told formed. none_bad (g.F.Fs.trail c.args.fs.now).present.names c.args.dir.now c.new-bad.result c.new-bad.ensures;
}

pub returns-in-Err-clause-reads : goal.returns-in-Err-clause-reads
returns-in-Err-clause-reads g c = reads_then _ _ _ None (unless_lack (Some c.in-Err.error)) tt c.loop-name.invariant.reads c.in-Err.ensures.reads

pub loop-name-preserved : goal.loop-name-preserved
loop-name-preserved g c = record {
  reads = reads_then _ _ _ None None tt c.loop-name.invariant.reads c.in-Ok.ensures.reads;
  bad = λ told formed.
      let s : FsState = (g.F.Fs.trail c.args.fs.now).present in
      let same = (c.loop-name.invariant.reads.unchanged told).present in
      let i = c.loop-name.name-index in
      let names = c.args.names.now in
      let before : AreFirstBad (g.F.Fs.trail c.loop-name.fs).present.names c.args.dir.now (take i names) c.loop-name.bad =
      subst (λ (t : FsState). AreFirstBad t.names c.args.dir.now (take i names) c.loop-name.bad) (sym same) (c.loop-name.invariant.bad told formed) in
      let added = c.in-Ok.ensures.found (c.loop-name.invariant.reads.told ∙ told) (subst WellFormed (sym same) formed) (take i names) before in
      subst (λ l. AreFirstBad s.names c.args.dir.now l c.add_name.new.bad) (sym (taken_to names i c.name-item.result c.loop-name-test.true c.name-item.is))
      (subst (λ (t : FsState). AreFirstBad t.names c.args.dir.now (take i names ++ c.name-item.result ∷ []) c.add_name.new.bad) same added);
}

pub returns-clause-found : goal.returns-clause-found
returns-clause-found g c told formed =
    subst (λ l. AreFirstBad (g.F.Fs.trail c.args.fs.now).present.names c.args.dir.now l c.loop-name.bad) (take_all c.loop-name.name-index c.args.names.now c.loop-name-test.false) (c.loop-name.invariant.bad told formed)
