use Rattle.std.proofs.Common.{◌≡◌, ◌∙◌, ◌∷◌, [], Some, None, refl, sym, ap, subst}
use Rattle.std.proofs.lemmas.Result.{IfOk-weaker}
use Rattle.fs_model.specs.Calls.{ReadsAt, Creates, refusal, or_else}
use Rattle.fs_model.specs.Trail.{stays, DecidedBy, HasCause, OthersStay, error_of, unless_lack}
use Rattle.fs_model.proofs.Going.{goes_weaker}
use Rattle.fs_model.proofs.Causes.{no_cause, cause_unless_lack}
use Rattle.fs_tools.specs.Children.{child_of}
use Rattle.fs_tools.specs.Copied.{Copies, CopiesFile}
use Rattle.fs_tools.proofs.Answering.{handed_on, decided_on, Decides}
use Rattle.status_transfer.specs.Carried.{CarriesInto}
use Rattle.status_transfer.proofs.Framing.{copies_carry}
use Rattle.status_transfer.proofs.names.copy_name.Goals as goal

pub returns-in_err-source-clause-calls : goal.returns-in_err-source-clause-calls
returns-in_err-source-clause-calls g c told = stays

pub returns-in_err-source-clause-unrefused : goal.returns-in_err-source-clause-unrefused
returns-in_err-source-clause-unrefused g c told ready =
    decided_on None c.from_residual.result c.in_err-source.field-0.0 c.from_residual.ensures.1 (subst (λ e. Decides None (Some e)) (sym c.in_err-source.ensures.lack) tt)

pub returns-in_err-source-clause-cause : goal.returns-in_err-source-clause-cause
returns-in_err-source-clause-cause g c =
    subst (λ answer. HasCause (g.F.Fs.firm c.args.fs.now) (g.F.Fs.counts c.args.fs.now) (g.F.Fs.counts c.args.fs.now) (unless_lack answer))
    (sym (handed_on c.from_residual.result c.in_err-source.field-0.0 c.from_residual.ensures.1 ∙ ap (λ e. Some e) c.in_err-source.ensures.lack)) (no_cause (g.F.Fs.firm c.args.fs.now) (g.F.Fs.counts c.args.fs.now))

pub returns-in_err-source-clause-others : goal.returns-in_err-source-clause-others
returns-in_err-source-clause-others g c =
    subst (λ answer. OthersStay (g.F.Fs.counts c.args.fs.now) (g.F.Fs.counts c.args.fs.now) answer)
    (sym (handed_on c.from_residual.result c.in_err-source.field-0.0 c.from_residual.ensures.1 ∙ ap (λ e. Some e) c.in_err-source.ensures.lack)) (record { refusals = refl; lacks = tt })

pub returns-clause-calls : goal.returns-clause-calls
returns-clause-calls g c told =
    let start = (g.F.Fs.trail c.args.fs.now).present in
    goes_weaker (Copies c.in_ok-source.source c.in_ok-source.target start) (CarriesInto (c.args.to.now ∷ []) start)
    (copies_carry c.args.to.now c.in_ok-source.source c.in_ok-source.target (c.args.name.now, c.in_ok-source.ensures.target) start) (c.copy_file.ensures.calls told)

pub returns-clause-unrefused : goal.returns-clause-unrefused
returns-clause-unrefused g c told ready =
    let s = (g.F.Fs.trail c.args.fs.now).present in
    let readable : refusal s (ReadsAt c.in_ok-source.source) ≡ None = ap (λ p. refusal s (ReadsAt p)) c.in_ok-source.ensures.source ∙ ready.0 in
    let creatable : refusal s (Creates c.in_ok-source.target) ≡ None = ap (λ p. refusal s (Creates p)) c.in_ok-source.ensures.target ∙ ready.1 in
    subst (λ refused. DecidedBy refused c.copy_file.result) (λ i. or_else (readable i) (creatable i)) (c.copy_file.ensures.decided told)

pub returns-clause-copied : goal.returns-clause-copied
returns-clause-copied g c told =
    let s = (g.F.Fs.trail c.args.fs.now).present in
    let t = (g.F.Fs.trail c.copy_file.new.fs).present in
    IfOk-weaker c.copy_file.result (λ number. CopiesFile s c.in_ok-source.source c.in_ok-source.target number t) (λ number. CopiesFile s (child_of c.args.from.now c.args.name.now) (child_of c.args.to.now c.args.name.now) number t)
    (λ number copies. subst (λ p. CopiesFile s (child_of c.args.from.now c.args.name.now) p number t) c.in_ok-source.ensures.target (subst (λ p. CopiesFile s p c.in_ok-source.target number t) c.in_ok-source.ensures.source copies))
    (c.copy_file.ensures.copied told)

pub returns-clause-cause : goal.returns-clause-cause
returns-clause-cause g c = cause_unless_lack (g.F.Fs.firm c.args.fs.now) (g.F.Fs.counts c.args.fs.now) (g.F.Fs.counts c.copy_file.new.fs) (error_of c.copy_file.result) c.copy_file.ensures.cause
