use Rattle.std.proofs.Common.{◌≡◌, ◌∙◌, ◌∷◌, [], Some, None, sym, subst}
use Rattle.std.specs.List.{AllByRecursion}
use Rattle.std.proofs.lemmas.Result.{on_ok_weaker}
use Rattle.fs_model.specs.Calls.{Lists, refusal, children}
use Rattle.fs_model.specs.Trail.{HasCause, error_of, unless_lack}
use Rattle.fs_model.proofs.Going.{goes_one}
use Rattle.fs_model.proofs.Runs.{reading_present}
use Rattle.fs_model.proofs.Causes.{cause_then, cause_unless_lack}
use Rattle.fs_tools.proofs.Answering.{decided_on, decides_any, steps_decide, handed_on}
use Rattle.status_transfer.specs.Carried.{CarriesInto, CopiesNames, IsReady, AreApart}
use Rattle.status_transfer.proofs.Framing.{carries_joined}
use Rattle.status_transfer.proofs.Carrying.{names_ready, names_differ, names_carried, dir_open}
use Rattle.status_transfer.proofs.dirs.copy_files.Goals as goal

pub returns-in_err-names-clause-calls : goal.returns-in_err-names-clause-calls
returns-in_err-names-clause-calls g c told =
    goes_one (CarriesInto (c.args.to.now ∷ []) (g.F.Fs.trail c.args.fs.now).present) (Lists c.args.from.now) (error_of c.list.result) (g.F.Fs.trail c.args.fs.now) (g.F.Fs.trail c.list.new.self) tt (c.list.ensures.steps told)

pub returns-in_err-names-clause-unrefused : goal.returns-in_err-names-clause-unrefused
returns-in_err-names-clause-unrefused g c told holds stands is_empty =
    let s = (g.F.Fs.trail c.args.fs.now).present in
    decided_on None c.from_residual.result c.in_err-names.field-0.0 c.from_residual.ensures.1
    (decides_any (refusal s (Lists c.args.from.now)) None c.in_err-names.field-0.0 (dir_open s (c.moment.ensures.well_formed told) c.args.from.now holds.stands)
    (steps_decide (Lists c.args.from.now) (Some c.in_err-names.field-0.0) (g.F.Fs.trail c.args.fs.now) (g.F.Fs.trail c.list.new.self) (c.in_err-names.ensures.steps told)))

pub returns-in_err-names-clause-cause : goal.returns-in_err-names-clause-cause
returns-in_err-names-clause-cause g c =
    subst (λ answer. HasCause (g.F.Fs.firm c.args.fs.now) (g.F.Fs.counts c.args.fs.now) (g.F.Fs.counts c.list.new.self) (unless_lack answer)) (sym (handed_on c.from_residual.result c.in_err-names.field-0.0 c.from_residual.ensures.1))
    (cause_unless_lack (g.F.Fs.firm c.args.fs.now) (g.F.Fs.counts c.args.fs.now) (g.F.Fs.counts c.list.new.self) (Some c.in_err-names.field-0.0) c.in_err-names.ensures.cause)

pub returns-clause-calls : goal.returns-clause-calls
returns-clause-calls g c told =
    carries_joined (c.args.to.now ∷ []) (c.args.to.now ∷ []) (λ path within. within) (g.F.Fs.trail c.args.fs.now) (g.F.Fs.trail c.list.new.self) (g.F.Fs.trail c.copy_names.new.fs)
    (goes_one (CarriesInto (c.args.to.now ∷ []) (g.F.Fs.trail c.args.fs.now).present) (Lists c.args.from.now) None (g.F.Fs.trail c.args.fs.now) (g.F.Fs.trail c.list.new.self) tt (c.in_ok-names.ensures.steps told))
    (c.copy_names.ensures.calls (c.list.ensures.told ∙ told))

pub returns-clause-unrefused : goal.returns-clause-unrefused
returns-clause-unrefused g c told holds stands is_empty =
    let s = (g.F.Fs.trail c.args.fs.now).present in
    let same = reading_present (Lists c.args.from.now) None (g.F.Fs.trail c.args.fs.now) (g.F.Fs.trail c.list.new.self) tt (c.in_ok-names.ensures.steps told) in
    let names : c.deref.result.now ≡ children s.names c.args.from.now = (let e = c.deref.ensures.value in let f = c.in_ok-names.ensures.gives told in cc (e, f)) in
    let well = c.moment.ensures.well_formed told in
    c.copy_names.ensures.unrefused (c.list.ensures.told ∙ told)
    (subst (λ xs. AllByRecursion (IsReady (g.F.Fs.trail c.list.new.self).present c.args.from.now c.args.to.now) xs) (sym names)
    (subst (λ x. AllByRecursion (IsReady x c.args.from.now c.args.to.now) (children s.names c.args.from.now)) (sym same) (names_ready s c.args.from.now c.args.to.now well holds stands is_empty)))
    (subst AreApart (sym names) (names_differ s c.args.from.now c.args.to.now well holds stands is_empty))

pub returns-clause-carried : goal.returns-clause-carried
returns-clause-carried g c told apart is_empty =
    let s = (g.F.Fs.trail c.args.fs.now).present in
    let t = (g.F.Fs.trail c.copy_names.new.fs).present in
    let same = reading_present (Lists c.args.from.now) None (g.F.Fs.trail c.args.fs.now) (g.F.Fs.trail c.list.new.self) tt (c.in_ok-names.ensures.steps told) in
    let names : c.deref.result.now ≡ children s.names c.args.from.now = (let e = c.deref.ensures.value in let f = c.in_ok-names.ensures.gives told in cc (e, f)) in
    on_ok_weaker c.copy_names.result
    (λ copies. names_carried c.args.from.now c.args.to.now apart s (c.moment.ensures.well_formed told) t is_empty
    (subst (λ xs. CopiesNames s c.args.from.now c.args.to.now xs t) names (subst (λ x. CopiesNames x c.args.from.now c.args.to.now c.deref.result.now t) same copies)))
    (c.copy_names.ensures.copied (c.list.ensures.told ∙ told))

pub returns-clause-cause : goal.returns-clause-cause
returns-clause-cause g c =
    cause_then (g.F.Fs.firm c.args.fs.now) (g.F.Fs.firm c.list.new.self) (g.F.Fs.counts c.args.fs.now) (g.F.Fs.counts c.list.new.self) (g.F.Fs.counts c.copy_names.new.fs) None (unless_lack (error_of c.copy_names.result)) tt c.list.ensures.firm
    c.in_ok-names.ensures.cause c.copy_names.ensures.cause
