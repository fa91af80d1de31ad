use Rattle.std.proofs.Common.{◌∙◌, ◌+◌, Some, None, refl, sym, ap, subst, drop}
use Rattle.std.specs.List.{AllByRecursion}
use Rattle.fs_model.specs.Calls.{Unlinks, refusal}
use Rattle.fs_model.specs.Trail.{stays, on, error_of}
use Rattle.fs_model.proofs.Causes.{no_cause, cause_then, others_then}
use Rattle.fs_tools.specs.Children.{IsIn}
use Rattle.fs_tools.specs.Cleared.{unlinked, AreFree}
use Rattle.fs_tools.proofs.Answering.{decided_on, decides_any, steps_decide}
use Rattle.fs_tools.proofs.Clearing.{next_of, unlink_present}
use Rattle.fs_tools.proofs.clears.unlink_all.Goals as goal

pub loop-path-init : goal.loop-path-init
loop-path-init g c = record {
  told = refl;
  firm = refl;
  calls = λ told at all. (stays, all);
  free = λ told free. free;
  unlinked = λ told. refl;
  cause = no_cause (g.F.Fs.firm c.args.fs.now) (g.F.Fs.counts c.args.fs.now);
  others = record { refusals = refl; lacks = refl };
}

pub returns-in_err-unlink-clause-calls : goal.returns-in_err-unlink-clause-calls
returns-in_err-unlink-clause-calls g c told at all =
    let so_far = c.loop-path.invariant.calls told at all in
    let next = next_of c.args.paths.now c.loop-path.path-index c.path-item.result c.loop-path-test.true c.path-item.is in
    on so_far.0 (Unlinks c.path-item.result) (error_of c.unlink.result) (subst (AllByRecursion (IsIn at)) next so_far.1).0 (c.unlink.ensures.steps (c.loop-path.invariant.told ∙ told))

pub returns-in_err-unlink-clause-free : goal.returns-in_err-unlink-clause-free
returns-in_err-unlink-clause-free g c told free =
    let here = g.F.Fs.trail c.loop-path.fs in
    let next = next_of c.args.paths.now c.loop-path.path-index c.path-item.result c.loop-path-test.true c.path-item.is in
    decided_on None c.from_residual.result c.in_err-unlink.field-0.0 c.from_residual.ensures.1
    (decides_any (refusal here.present (Unlinks c.path-item.result)) None c.in_err-unlink.field-0.0 (subst (AreFree here.present) next (c.loop-path.invariant.free told free)).0
    (steps_decide (Unlinks c.path-item.result) (Some c.in_err-unlink.field-0.0) here (g.F.Fs.trail c.unlink.new.self) (c.in_err-unlink.ensures.steps (c.loop-path.invariant.told ∙ told))))

pub loop-path-preserved : goal.loop-path-preserved
loop-path-preserved g c =
    let here = g.F.Fs.trail c.loop-path.fs in
    let new = g.F.Fs.trail c.unlink.new.self in
    let rest = drop (c.loop-path.path-index + 1) c.args.paths.now in
    let next = next_of c.args.paths.now c.loop-path.path-index c.path-item.result c.loop-path-test.true c.path-item.is in
    record {
      told = c.unlink.ensures.told ∙ c.loop-path.invariant.told;
      firm = c.unlink.ensures.firm ∙ c.loop-path.invariant.firm;
      calls = λ told at all.
          let so_far = c.loop-path.invariant.calls told at all in
          let both = subst (AllByRecursion (IsIn at)) next so_far.1 in
          (on so_far.0 (Unlinks c.path-item.result) None both.0 (c.in_ok-unlink.ensures.steps (c.loop-path.invariant.told ∙ told)), both.1);
      free = λ told free.
          subst (λ t. AreFree t rest) (sym (unlink_present c.path-item.result here new (c.in_ok-unlink.ensures.steps (c.loop-path.invariant.told ∙ told)))) (subst (AreFree here.present) next (c.loop-path.invariant.free told free)).1;
      unlinked = λ told.
          ap (λ t. unlinked t rest) (unlink_present c.path-item.result here new (c.in_ok-unlink.ensures.steps (c.loop-path.invariant.told ∙ told)))
          ∙ sym (ap (unlinked here.present) next)
          ∙ c.loop-path.invariant.unlinked told;
      cause =
          cause_then (g.F.Fs.firm c.args.fs.now) (g.F.Fs.firm c.loop-path.fs) (g.F.Fs.counts c.args.fs.now) (g.F.Fs.counts c.loop-path.fs) (g.F.Fs.counts c.unlink.new.self) None None tt
          c.loop-path.invariant.firm c.loop-path.invariant.cause c.in_ok-unlink.ensures.cause;
      others = others_then (g.F.Fs.counts c.args.fs.now) (g.F.Fs.counts c.loop-path.fs) (g.F.Fs.counts c.unlink.new.self) None c.loop-path.invariant.others c.in_ok-unlink.ensures.others;
    }
