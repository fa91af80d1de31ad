use Rattle.std.proofs.Common.{◌∙◌, ◌∷◌, [], Err, None, sym, subst}
use Rattle.std.proofs.lemmas.Result.{on_ok_weaker}
use Rattle.fs_model.specs.Trail.{DecidedBy, HasCause, error_of, unless_lack}
use Rattle.fs_model.proofs.Going.{goes_weaker}
use Rattle.fs_model.proofs.Causes.{cause_then}
use Rattle.fs_tools.specs.Cleared.{Clears}
use Rattle.fs_tools.proofs.Answering.{decided_on, decides, handed_on}
use Rattle.status_transfer.specs.Carried.{CarriesInto}
use Rattle.status_transfer.proofs.Framing.{carries_joined, carries_since, carries_sound, clears_carry}
use Rattle.status_transfer.proofs.Carrying.{dir_open, no_dirs, no_names, stays_dir, stays_held, carried_before}
use Rattle.status_transfer.proofs.dirs.carry_dir.Goals as goal

pub returns-in_err-clear_dir-clause-calls : goal.returns-in_err-clear_dir-clause-calls
returns-in_err-clear_dir-clause-calls g c told =
    let start = (g.F.Fs.trail c.args.fs.now).present in
    goes_weaker (Clears c.args.to.now) (CarriesInto (c.args.to.now ∷ []) start) (clears_carry c.args.to.now start) (c.clear_dir.ensures.calls told)

pub returns-in_err-clear_dir-clause-unrefused : goal.returns-in_err-clear_dir-clause-unrefused
returns-in_err-clear_dir-clause-unrefused g c told apart from_holds to_holds =
    let s = (g.F.Fs.trail c.args.fs.now).present in
    decided_on None c.from_residual.result c.in_err-clear_dir.field-0.0 c.from_residual.ensures.1
    (decides {T = Unit {0}} None (Err c.in_err-clear_dir.field-0.0)
    (subst (λ refused. DecidedBy {T = Unit {0}} refused (Err c.in_err-clear_dir.field-0.0)) (dir_open s (c.moment.ensures.well_formed told) c.args.to.now to_holds.stands) (c.in_err-clear_dir.ensures.decided told (no_dirs s.names c.args.to.now to_holds))))

pub returns-in_err-clear_dir-clause-cause : goal.returns-in_err-clear_dir-clause-cause
returns-in_err-clear_dir-clause-cause g c =
    subst (λ answer. HasCause (g.F.Fs.firm c.args.fs.now) (g.F.Fs.counts c.args.fs.now) (g.F.Fs.counts c.clear_dir.new.fs) (unless_lack answer)) (sym (handed_on c.from_residual.result c.in_err-clear_dir.field-0.0 c.from_residual.ensures.1)) c.in_err-clear_dir.ensures.cause

pub returns-clause-calls : goal.returns-clause-calls
returns-clause-calls g c told =
    let start = (g.F.Fs.trail c.args.fs.now).present in
    carries_joined (c.args.to.now ∷ []) (c.args.to.now ∷ []) (λ path within. within) (g.F.Fs.trail c.args.fs.now) (g.F.Fs.trail c.clear_dir.new.fs) (g.F.Fs.trail c.copy_files.new.fs)
    (goes_weaker (Clears c.args.to.now) (CarriesInto (c.args.to.now ∷ []) start) (clears_carry c.args.to.now start) (c.clear_dir.ensures.calls told))
    (c.copy_files.ensures.calls (c.clear_dir.ensures.told ∙ told))

pub returns-clause-unrefused : goal.returns-clause-unrefused
returns-clause-unrefused g c told apart from_holds to_holds =
    let start = g.F.Fs.trail c.args.fs.now in
    let mid = g.F.Fs.trail c.clear_dir.new.fs in
    let keeps = (carries_since (c.args.to.now ∷ []) start mid (goes_weaker (Clears c.args.to.now) (CarriesInto (c.args.to.now ∷ []) start.present) (clears_carry c.args.to.now start.present) (c.clear_dir.ensures.calls told))).present in
    c.copy_files.ensures.unrefused (c.clear_dir.ensures.told ∙ told)
    (stays_held c.args.from.now c.args.to.now apart start.present mid.present keeps from_holds to_holds)
    (stays_dir c.args.to.now start.present mid.present keeps c.args.to.now to_holds to_holds.stands)
    (no_names mid.present.names c.args.to.now (c.in_ok-clear_dir.ensures.empty told))

pub returns-clause-carried : goal.returns-clause-carried
returns-clause-carried g c told apart =
    let start = g.F.Fs.trail c.args.fs.now in
    let mid = g.F.Fs.trail c.clear_dir.new.fs in
    let new = g.F.Fs.trail c.copy_files.new.fs in
    let keeps = (carries_since (c.args.to.now ∷ []) start mid (goes_weaker (Clears c.args.to.now) (CarriesInto (c.args.to.now ∷ []) start.present) (clears_carry c.args.to.now start.present) (c.clear_dir.ensures.calls told))).present in
    on_ok_weaker c.copy_files.result (λ carried. carried_before c.args.from.now c.args.to.now apart start.present (c.moment.ensures.well_formed told) mid.present new.present keeps carried)
    (c.copy_files.ensures.carried (c.clear_dir.ensures.told ∙ told) apart (no_names mid.present.names c.args.to.now (c.in_ok-clear_dir.ensures.empty told)))

pub returns-clause-cause : goal.returns-clause-cause
returns-clause-cause g c =
    cause_then (g.F.Fs.firm c.args.fs.now) (g.F.Fs.firm c.clear_dir.new.fs) (g.F.Fs.counts c.args.fs.now) (g.F.Fs.counts c.clear_dir.new.fs) (g.F.Fs.counts c.copy_files.new.fs) None (unless_lack (error_of c.copy_files.result)) tt c.clear_dir.ensures.firm
    c.in_ok-clear_dir.ensures.cause c.copy_files.ensures.cause

pub returns-in_err-clear_dir-clause-frame : goal.returns-in_err-clear_dir-clause-frame
returns-in_err-clear_dir-clause-frame g c told =
    carries_since (c.args.to.now ∷ []) (g.F.Fs.trail c.args.fs.now) (g.F.Fs.trail c.clear_dir.new.fs) (returns-in_err-clear_dir-clause-calls g c told)

pub returns-in_err-clear_dir-clause-sound : goal.returns-in_err-clear_dir-clause-sound
returns-in_err-clear_dir-clause-sound g c told u ready stage still inside sound =
    carries_sound u ready stage (c.args.to.now ∷ []) inside still (g.F.Fs.trail c.args.fs.now) (g.F.Fs.trail c.clear_dir.new.fs) sound (returns-in_err-clear_dir-clause-calls g c told)

pub returns-clause-frame : goal.returns-clause-frame
returns-clause-frame g c told =
    carries_since (c.args.to.now ∷ []) (g.F.Fs.trail c.args.fs.now) (g.F.Fs.trail c.copy_files.new.fs) (returns-clause-calls g c told)

pub returns-clause-sound : goal.returns-clause-sound
returns-clause-sound g c told u ready stage still inside sound =
    carries_sound u ready stage (c.args.to.now ∷ []) inside still (g.F.Fs.trail c.args.fs.now) (g.F.Fs.trail c.copy_files.new.fs) sound (returns-clause-calls g c told)
