use Rattle.std.proofs.Common.{◌≡◌, ◌∙◌, ◌+◌, [], ◌∷◌, ℕ, Err, Some, None, refl, sym, subst, drop, arith}
use Rattle.std.proofs.lemmas.List.{drop_all}
use Rattle.std.specs.List.{AllByRecursion}
use Rattle.fs_model.specs.Trail.{stays, HasCause, unless_lack}
use Rattle.fs_model.proofs.Causes.{no_cause, cause_then, others_then}
use Rattle.fs_tools.proofs.Answering.{handed_on, decided_on, decides}
use Rattle.fs_tools.proofs.Clearing.{next_of}
use Rattle.status_transfer.specs.Carried.{CopiesNames, IsReady, AreApart}
use Rattle.status_transfer.proofs.Framing.{carries_joined}
use Rattle.status_transfer.proofs.Carrying.{ready_next}
use Rattle.status_transfer.proofs.names.copy_names.Goals as goal

pub loop-name-init : goal.loop-name-init
loop-name-init g c = record {
  told = refl;
  firm = refl;
  room = c.requires;
  calls = λ told. stays;
  ready = λ told ready apart. (ready, apart);
  copied = λ told t copies. copies;
  cause = no_cause (g.F.Fs.firm c.args.fs.now) (g.F.Fs.counts c.args.fs.now);
  others = record { refusals = refl; lacks = refl };
}

pub returns-in_err-copy_name-clause-calls : goal.returns-in_err-copy_name-clause-calls
returns-in_err-copy_name-clause-calls g c told =
    carries_joined (c.args.to.now ∷ []) (c.args.to.now ∷ []) (λ path within. within) (g.F.Fs.trail c.args.fs.now) (g.F.Fs.trail c.loop-name.fs) (g.F.Fs.trail c.copy_name.new.fs)
    (c.loop-name.invariant.calls told) (c.copy_name.ensures.calls (c.loop-name.invariant.told ∙ told))

pub returns-in_err-copy_name-clause-unrefused : goal.returns-in_err-copy_name-clause-unrefused
returns-in_err-copy_name-clause-unrefused g c told ready apart =
    let here = (g.F.Fs.trail c.loop-name.fs).present in
    let next = next_of c.args.names.now c.loop-name.name-index c.name-item.result c.loop-name-test.true c.name-item.is in
    let left = subst (AllByRecursion (IsReady here c.args.from.now c.args.to.now)) next (c.loop-name.invariant.ready told ready apart).0 in
    decided_on None c.from_residual.result c.in_err-copy_name.field-0.0 c.from_residual.ensures.1
    (decides {T = ℕ} None (Err c.in_err-copy_name.field-0.0) (c.in_err-copy_name.ensures.unrefused (c.loop-name.invariant.told ∙ told) left.0))

pub returns-in_err-copy_name-clause-cause : goal.returns-in_err-copy_name-clause-cause
returns-in_err-copy_name-clause-cause g c =
    subst (λ answer. HasCause (g.F.Fs.firm c.args.fs.now) (g.F.Fs.counts c.args.fs.now) (g.F.Fs.counts c.copy_name.new.fs) (unless_lack answer)) (sym (handed_on c.from_residual.result c.in_err-copy_name.field-0.0 c.from_residual.ensures.1))
    (cause_then (g.F.Fs.firm c.args.fs.now) (g.F.Fs.firm c.loop-name.fs) (g.F.Fs.counts c.args.fs.now) (g.F.Fs.counts c.loop-name.fs) (g.F.Fs.counts c.copy_name.new.fs) None (unless_lack (Some c.in_err-copy_name.field-0.0)) tt
    c.loop-name.invariant.firm c.loop-name.invariant.cause c.in_err-copy_name.ensures.cause)

pub loop-name-preserved : goal.loop-name-preserved
loop-name-preserved g c =
    let here = (g.F.Fs.trail c.loop-name.fs).present in
    let new = (g.F.Fs.trail c.copy_name.new.fs).present in
    let rest = drop (c.loop-name.name-index + 1) c.args.names.now in
    let next = next_of c.args.names.now c.loop-name.name-index c.name-item.result c.loop-name-test.true c.name-item.is in
    record {
      told = c.copy_name.ensures.told ∙ c.loop-name.invariant.told;
      firm = c.copy_name.ensures.firm ∙ c.loop-name.invariant.firm;
      room = omega (arith, c.loop-name.invariant.room, c.copy_name.auto.buffer);
      calls = λ told.
          carries_joined (c.args.to.now ∷ []) (c.args.to.now ∷ []) (λ path within. within) (g.F.Fs.trail c.args.fs.now) (g.F.Fs.trail c.loop-name.fs) (g.F.Fs.trail c.copy_name.new.fs)
          (c.loop-name.invariant.calls told) (c.copy_name.ensures.calls (c.loop-name.invariant.told ∙ told));
      ready = λ told ready apart.
          let both = c.loop-name.invariant.ready told ready apart in
          ready_next here new c.args.from.now c.args.to.now c.name-item.result rest (c.in_ok-copy_name.field-0, c.in_ok-copy_name.ensures.copied (c.loop-name.invariant.told ∙ told))
          (subst (AllByRecursion (IsReady here c.args.from.now c.args.to.now)) next both.0) (subst AreApart next both.1);
      copied = λ told t copies.
          c.loop-name.invariant.copied told t
          (subst (λ xs. CopiesNames here c.args.from.now c.args.to.now xs t) (sym next) (new, (c.in_ok-copy_name.field-0, c.in_ok-copy_name.ensures.copied (c.loop-name.invariant.told ∙ told)), copies));
      cause =
          cause_then (g.F.Fs.firm c.args.fs.now) (g.F.Fs.firm c.loop-name.fs) (g.F.Fs.counts c.args.fs.now) (g.F.Fs.counts c.loop-name.fs) (g.F.Fs.counts c.copy_name.new.fs) None None tt
          c.loop-name.invariant.firm c.loop-name.invariant.cause c.in_ok-copy_name.ensures.cause;
      others = others_then (g.F.Fs.counts c.args.fs.now) (g.F.Fs.counts c.loop-name.fs) (g.F.Fs.counts c.copy_name.new.fs) None c.loop-name.invariant.others c.in_ok-copy_name.ensures.others;
    }

pub returns-clause-copied : goal.returns-clause-copied
returns-clause-copied g c told =
    let here = (g.F.Fs.trail c.loop-name.fs).present in
    let none : drop c.loop-name.name-index c.args.names.now ≡ [] = drop_all c.loop-name.name-index c.args.names.now (omega (arith, c.loop-name-test.false)) in
    c.loop-name.invariant.copied told here (subst (λ xs. CopiesNames here c.args.from.now c.args.to.now xs here) (sym none) refl)
