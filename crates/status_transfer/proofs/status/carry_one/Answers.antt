use Rattle.std.proofs.Common.{◌++◌, ◌∙◌, ◌∷◌, [], Some, None, OnOk, refl, sym, ap, subst}
use Rattle.std.specs.Prelude.{map}
use Rattle.fs_model.specs.Trail.{stays, Goes, HasCause, OthersStay, unless_lack}
use Rattle.fs_model.proofs.Causes.{no_cause}
use Rattle.fs_tools.proofs.Answering.{handed_on, decided_on, Decides}
use Rattle.status_transfer.specs.Carried.{CarriesInto, CarriesDir, HoldsFiles}
use Rattle.status_transfer.proofs.StatusDirs.{roots_differ}
use Rattle.status_transfer.proofs.status.carry_one.Goals as goal

pub returns-in_err-from-clause-calls : goal.returns-in_err-from-clause-calls
returns-in_err-from-clause-calls g c told = stays

pub returns-in_err-from-clause-unrefused : goal.returns-in_err-from-clause-unrefused
returns-in_err-from-clause-unrefused g c told apart from_holds to_holds =
    decided_on None c.from_residual.result c.in_err-from.field-0.0 c.from_residual.ensures.1 (subst (λ e. Decides None (Some e)) (sym c.in_err-from.ensures.lack) tt)

pub returns-in_err-from-clause-cause : goal.returns-in_err-from-clause-cause
returns-in_err-from-clause-cause g c =
    subst (λ answer. HasCause (g.F.Fs.firm c.args.fs.now) (g.F.Fs.counts c.args.fs.now) (g.F.Fs.counts c.args.fs.now) (unless_lack answer))
    (sym (handed_on c.from_residual.result c.in_err-from.field-0.0 c.from_residual.ensures.1 ∙ ap (λ e. Some e) c.in_err-from.ensures.lack)) (no_cause (g.F.Fs.firm c.args.fs.now) (g.F.Fs.counts c.args.fs.now))

pub returns-in_err-from-clause-others : goal.returns-in_err-from-clause-others
returns-in_err-from-clause-others g c =
    subst (λ answer. OthersStay (g.F.Fs.counts c.args.fs.now) (g.F.Fs.counts c.args.fs.now) answer)
    (sym (handed_on c.from_residual.result c.in_err-from.field-0.0 c.from_residual.ensures.1 ∙ ap (λ e. Some e) c.in_err-from.ensures.lack)) (record { refusals = refl; lacks = tt })

pub returns-clause-calls : goal.returns-clause-calls
returns-clause-calls g c told =
    let start = g.F.Fs.trail c.args.fs.now in
    subst (λ to. Goes (CarriesInto (to ∷ []) start.present) start (g.F.Fs.trail c.carry_dir.new.fs)) c.in_ok-from.ensures.new (c.carry_dir.ensures.calls told)

pub returns-clause-unrefused : goal.returns-clause-unrefused
returns-clause-unrefused g c told apart from_holds to_holds =
    let s = (g.F.Fs.trail c.args.fs.now).present in
    let names = map (λ name. name.now) c.args.names.now in
    c.carry_dir.ensures.unrefused told
    (λ same. roots_differ c.args.job.now.old c.args.job.now.new names apart (sym c.in_ok-from.ensures.old ∙ same ∙ c.in_ok-from.ensures.new))
    (subst (HoldsFiles s.names) (sym c.in_ok-from.ensures.old) from_holds)
    (subst (HoldsFiles s.names) (sym c.in_ok-from.ensures.new) to_holds)

pub returns-clause-carried : goal.returns-clause-carried
returns-clause-carried g c told apart =
    let s = (g.F.Fs.trail c.args.fs.now).present in
    let t = (g.F.Fs.trail c.carry_dir.new.fs).present in
    let names = map (λ name. name.now) c.args.names.now in
    subst (λ to. OnOk c.carry_dir.result (CarriesDir s (c.args.job.now.old ++ names) to t)) c.in_ok-from.ensures.new
    (subst (λ from. OnOk c.carry_dir.result (CarriesDir s from c.in_ok-from.to t)) c.in_ok-from.ensures.old
    (c.carry_dir.ensures.carried told (λ same. roots_differ c.args.job.now.old c.args.job.now.new names apart (sym c.in_ok-from.ensures.old ∙ same ∙ c.in_ok-from.ensures.new))))
