use Rattle.std.proofs.Common.{◌≡◌, ◌∙◌, false, Some, None, ap, sym, subst}
use Rattle.std.specs.Prelude.{not}
use Rattle.fs_model.specs.Trail.{unless_lack}
use Rattle.fs_model.proofs.Observing.{reads_then}
use Rattle.fs_model.specs.WellFormed.{WellFormed}
use Rattle.fs_tools.specs.Children.{child_of}
use Rattle.tree_checks.specs.Looks.{is_file, kind_at}
use Rattle.tree_checks.specs.MissingDirs.{is_no_file_in}
use Rattle.tree_checks.proofs.Firsts.{find_on}
use Rattle.tree_checks.proofs.missing.has_no_file.Goals as goal

pub returns-then-not-is_file-clause-reads : goal.returns-then-not-is_file-clause-reads
returns-then-not-is_file-clause-reads g c = reads_then _ _ _ None None tt c.loop-name.invariant.reads c.in-Ok-kind_at.ensures.reads

pub returns-in-Err-clause-reads : goal.returns-in-Err-clause-reads
returns-in-Err-clause-reads g c = reads_then _ _ _ None (unless_lack (Some c.in-Err.error)) tt c.loop-name.invariant.reads c.in-Err.ensures.reads

pub loop-name-preserved : goal.loop-name-preserved
loop-name-preserved g c = record {
  reads = reads_then _ _ _ None None tt c.loop-name.invariant.reads c.in-Ok-kind_at.ensures.reads;
  rest = λ told formed.
      let s = (g.F.Fs.trail c.args.fs.now).present in
      let same = (c.loop-name.invariant.reads.unchanged told).present in
      let kind : c.in-Ok-kind_at.kind ≡ kind_at s.names (child_of c.args.dir.now c.name-item.result) =
      c.in-Ok-kind_at.ensures.shows (c.loop-name.invariant.reads.told ∙ told) (subst WellFormed (sym same) formed) ∙ (λ i. kind_at (same i).names (c.in-Ok.ensures.path i)) in
      let fails : is_no_file_in s.names c.args.dir.now c.name-item.result ≡ false = ap not (ap is_file (sym kind) ∙ sym c.is_file.ensures ∙ c.if-not-is_file.false) in
      find_on c.args.names.now c.loop-name.name-index c.name-item.result c.loop-name-test.true c.name-item.is (is_no_file_in s.names c.args.dir.now) fails (c.loop-name.invariant.rest told formed);
}
