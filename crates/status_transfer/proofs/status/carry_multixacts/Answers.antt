use Rattle.std.proofs.Common.{◌∙◌, ◌∷◌, [], Err, None, sym, subst}
use Rattle.std.proofs.lemmas.Result.{on_ok_weaker}
use Rattle.fs_model.specs.Trail.{HasCause, error_of, unless_lack}
use Rattle.fs_model.proofs.Causes.{cause_then}
use Rattle.fs_tools.proofs.Answering.{handed_on, decided_on, decides}
use Rattle.status_transfer.specs.Status.{offsets_dir, members_dir, multixact_dirs}
use Rattle.status_transfer.proofs.Framing.{in_first, in_rest, carries_more, carries_joined, carries_since}
use Rattle.status_transfer.proofs.Staying.{holds_over, stays_over, since_over}
use Rattle.status_transfer.proofs.StatusDirs.{offsets_apart, members_apart}
use Rattle.status_transfer.proofs.status.carry_multixacts.Goals as goal

pub returns-in_err-carry_one-clause-calls : goal.returns-in_err-carry_one-clause-calls
returns-in_err-carry_one-clause-calls g c told =
    let new = c.args.job.now.new in
    carries_more (multixact_dirs new) (offsets_dir new ∷ []) (in_first (offsets_dir new) (members_dir new ∷ [])) (g.F.Fs.trail c.args.fs.now) (g.F.Fs.trail c.carry_one.new.fs) (c.carry_one.ensures.calls told)

pub returns-in_err-carry_one-clause-unrefused : goal.returns-in_err-carry_one-clause-unrefused
returns-in_err-carry_one-clause-unrefused g c told apart old_holds new_holds =
    decided_on None c.from_residual.result c.in_err-carry_one.field-0.0 c.from_residual.ensures.1
    (decides {T = Unit {0}} None (Err c.in_err-carry_one.field-0.0) (c.in_err-carry_one.ensures.unrefused told apart old_holds.offsets new_holds.offsets))

pub returns-in_err-carry_one-clause-cause : goal.returns-in_err-carry_one-clause-cause
returns-in_err-carry_one-clause-cause g c =
    subst (λ answer. HasCause (g.F.Fs.firm c.args.fs.now) (g.F.Fs.counts c.args.fs.now) (g.F.Fs.counts c.carry_one.new.fs) (unless_lack answer)) (sym (handed_on c.from_residual.result c.in_err-carry_one.field-0.0 c.from_residual.ensures.1)) c.in_err-carry_one.ensures.cause

pub returns-clause-calls : goal.returns-clause-calls
returns-clause-calls g c told =
    let new = c.args.job.now.new in
    carries_joined (multixact_dirs new) (members_dir new ∷ []) (in_rest (offsets_dir new) (members_dir new ∷ [])) (g.F.Fs.trail c.args.fs.now) (g.F.Fs.trail c.carry_one.new.fs) (g.F.Fs.trail c.carry_one-2.new.fs)
    (carries_more (multixact_dirs new) (offsets_dir new ∷ []) (in_first (offsets_dir new) (members_dir new ∷ [])) (g.F.Fs.trail c.args.fs.now) (g.F.Fs.trail c.carry_one.new.fs) (c.carry_one.ensures.calls told))
    (c.carry_one-2.ensures.calls (c.carry_one.ensures.told ∙ told))

pub returns-clause-unrefused : goal.returns-clause-unrefused
returns-clause-unrefused g c told apart old_holds new_holds =
    let start = g.F.Fs.trail c.args.fs.now in
    let mid = g.F.Fs.trail c.carry_one.new.fs in
    let old = c.args.job.now.old in
    let new = c.args.job.now.new in
    let keeps = (carries_since (offsets_dir new ∷ []) start mid (c.carry_one.ensures.calls told)).present in
    c.carry_one-2.ensures.unrefused (c.carry_one.ensures.told ∙ told) apart
    (holds_over (offsets_dir new ∷ []) start.present mid.present keeps (members_dir old) (members_apart old new) (new_holds.offsets, tt) old_holds.members)
    (holds_over (offsets_dir new ∷ []) start.present mid.present keeps (members_dir new) (members_apart new new) (new_holds.offsets, tt) new_holds.members)

pub returns-clause-carried : goal.returns-clause-carried
returns-clause-carried g c told apart =
    let start = g.F.Fs.trail c.args.fs.now in
    let mid = g.F.Fs.trail c.carry_one.new.fs in
    let end = g.F.Fs.trail c.carry_one-2.new.fs in
    let old = c.args.job.now.old in
    let new = c.args.job.now.new in
    let later = c.carry_one.ensures.told ∙ told in
    let first = (carries_since (offsets_dir new ∷ []) start mid (c.carry_one.ensures.calls told)).present in
    let second = (carries_since (members_dir new ∷ []) mid end (c.carry_one-2.ensures.calls later)).present in
    on_ok_weaker c.carry_one-2.result
    (λ carried. record {
      offsets = stays_over (members_dir new ∷ []) mid.present end.present second (offsets_dir old) (offsets_dir new) (offsets_apart new new) start.present (c.in_ok-carry_one.ensures.carried told apart);
      members = since_over (offsets_dir new ∷ []) start.present mid.present first (members_dir old) (members_dir new) (members_apart old new) (c.moment.ensures.well_formed told) end.present carried;
    })
    (c.carry_one-2.ensures.carried later apart)

pub returns-clause-cause : goal.returns-clause-cause
returns-clause-cause g c =
    cause_then (g.F.Fs.firm c.args.fs.now) (g.F.Fs.firm c.carry_one.new.fs) (g.F.Fs.counts c.args.fs.now) (g.F.Fs.counts c.carry_one.new.fs) (g.F.Fs.counts c.carry_one-2.new.fs) None (unless_lack (error_of c.carry_one-2.result)) tt
    c.carry_one.ensures.firm c.in_ok-carry_one.ensures.cause c.carry_one-2.ensures.cause
