use Rattle.std.proofs.Common.{◌∙◌, ℕ, None, Err, refl, arith}
use Rattle.fs_model.specs.Trail.{stays}
use Rattle.fs_model.proofs.Going.{goes_then}
use Rattle.fs_model.proofs.Causes.{no_cause, cause_then, others_then}
use Rattle.fs_tools.specs.Copied.{Copies}
use Rattle.fs_tools.proofs.Answering.{decided_on, decides}
use Rattle.fs_tools.proofs.Copying.{all_done}
use Rattle.fs_tools.proofs.copies.write_pieces.Goals as goal

pub loop-count-init : goal.loop-count-init
loop-count-init g c = record {
  within = omega arith;
  inside = c.requires.inside;
  told = refl;
  firm = refl;
  going = λ told start bytes copying size. (stays, copying);
  cause = no_cause (g.F.Fs.firm c.args.fs.now) (g.F.Fs.counts c.args.fs.now);
  others = record { refusals = refl; lacks = refl };
}

pub loop-count-preserved : goal.loop-count-preserved
loop-count-preserved g c = record {
  within = omega (arith, c.in_ok-next.ensures.within);
  inside = omega (arith, c.in_ok-next.ensures.inside, c.next_piece.auto.buffer);
  told = c.next_piece.ensures.told ∙ c.loop-count.invariant.told;
  firm = c.next_piece.ensures.firm ∙ c.loop-count.invariant.firm;
  going = λ told start bytes copying size.
      let so_far = c.loop-count.invariant.going told start bytes copying size in
      let told_here = c.loop-count.invariant.told ∙ told in
      (goes_then (Copies c.args.from.now c.args.to.now start) so_far.0 (c.next_piece.ensures.calls told_here start bytes so_far.1), c.in_ok-next.ensures.copied told_here start bytes so_far.1 size);
  cause =
      cause_then (g.F.Fs.firm c.args.fs.now) (g.F.Fs.firm c.loop-count.fs) (g.F.Fs.counts c.args.fs.now) (g.F.Fs.counts c.loop-count.fs) (g.F.Fs.counts c.next_piece.new.fs) None None tt
      c.loop-count.invariant.firm c.loop-count.invariant.cause c.in_ok-next.ensures.cause;
  others = others_then (g.F.Fs.counts c.args.fs.now) (g.F.Fs.counts c.loop-count.fs) (g.F.Fs.counts c.next_piece.new.fs) None c.loop-count.invariant.others c.in_ok-next.ensures.others;
}

pub returns-in_err-next-clause-calls : goal.returns-in_err-next-clause-calls
returns-in_err-next-clause-calls g c told start bytes copying size =
    let so_far = c.loop-count.invariant.going told start bytes copying size in
    goes_then (Copies c.args.from.now c.args.to.now start) so_far.0 (c.next_piece.ensures.calls (c.loop-count.invariant.told ∙ told) start bytes so_far.1)

pub returns-in_err-next-clause-free : goal.returns-in_err-next-clause-free
returns-in_err-next-clause-free g c told start bytes copying size =
    let so_far = c.loop-count.invariant.going told start bytes copying size in
    decided_on None c.from_residual.result c.in_err-next.field-0.0 c.from_residual.ensures.1 (decides {T = ℕ} None (Err c.in_err-next.field-0.0) (c.in_err-next.ensures.free (c.loop-count.invariant.told ∙ told) start bytes so_far.1))

pub returns-clause-calls : goal.returns-clause-calls
returns-clause-calls g c told start bytes copying size = (c.loop-count.invariant.going told start bytes copying size).0

pub returns-clause-copied : goal.returns-clause-copied
returns-clause-copied g c told start bytes copying size =
    let so_far = c.loop-count.invariant.going told start bytes copying size in
    all_done start c.args.from.now c.args.to.now bytes c.loop-count.done c.loop-count.count c.loop-count.buffer (g.F.Fs.trail c.loop-count.fs).present so_far.1 (omega arith) (omega arith)
