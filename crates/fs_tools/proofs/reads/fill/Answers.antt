use Rattle.std.proofs.Common.{◌∙◌, ◌+◌, arith, sym, subst, Some, None, refl}
use Rattle.fs_model.proofs.Causes.{others_then}
use Rattle.fs_model.proofs.Observing.{no_reads, reads_then}
use Rattle.fs_tools.specs.Filled.{Filled}
use Rattle.fs_tools.proofs.Answering.{reads_on}
use Rattle.fs_tools.proofs.Filling.{filled_none}
use Rattle.fs_tools.proofs.reads.fill.Goals as goal

pub loop-count-init : goal.loop-count-init
loop-count-init g c = record {
  within = omega arith;
  reads = no_reads _;
  others = record { refusals = refl; lacks = refl };
  filled = λ told. filled_none (g.F.Fs.trail c.args.fs.now).present c.args.at.now c.args.into.now;
}

pub returns-in_err-count-clause-reads : goal.returns-in_err-count-clause-reads
returns-in_err-count-clause-reads g c =
    reads_on _ _ c.from_residual.result c.in_err-count.field-0.0 c.from_residual.ensures.1 (reads_then _ _ _ None (Some c.in_err-count.field-0.0) tt c.loop-count.invariant.reads c.in_err-count.ensures.reads)

pub returns-then-count-eq0-clause-reads : goal.returns-then-count-eq0-clause-reads
returns-then-count-eq0-clause-reads g c = reads_then _ _ _ None None tt c.loop-count.invariant.reads c.in_ok-count.ensures.reads

pub loop-count-preserved : goal.loop-count-preserved
loop-count-preserved g c = record {
  within = omega (arith, c.in_ok-count.ensures.count);
  reads = reads_then _ _ _ None None tt c.loop-count.invariant.reads c.in_ok-count.ensures.reads;
  others = others_then _ _ _ None c.loop-count.invariant.others c.in_ok-count.ensures.others;
  filled = λ told.
      let same = (c.loop-count.invariant.reads.unchanged told).present in
      subst (λ s. Filled s c.args.at.now (c.loop-count.filled + c.in_ok-count.count) c.read_more.new.into) same
      (c.in_ok-count.ensures.filled (c.loop-count.invariant.reads.told ∙ told) (subst (λ s. Filled s c.args.at.now c.loop-count.filled c.loop-count.into) (sym same) (c.loop-count.invariant.filled told)));
}
