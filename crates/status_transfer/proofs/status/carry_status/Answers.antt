use Rattle.std.proofs.Common.{◌∙◌, ◌∷◌, [], Err, None, refl, sym, subst}
use Rattle.std.proofs.lemmas.Result.{on_ok_weaker}
use Rattle.fs_model.specs.declared.error.FsError.TheVariants.{OutOfMemory}
use Rattle.fs_model.specs.Trail.{stays, HasCause, OthersStay, error_of, unless_lack}
use Rattle.fs_model.proofs.Causes.{no_cause, cause_then}
use Rattle.fs_tools.proofs.Answering.{handed_on, decided_on, decides}
use Rattle.status_transfer.specs.Status.{commit_log_dir, offsets_dir, members_dir, multixact_dirs, status_dirs}
use Rattle.status_transfer.proofs.Framing.{in_first, in_rest, carries_more, carries_joined, carries_since, carries_sound}
use Rattle.status_transfer.proofs.Staying.{holds_over, stays_over, since_over}
use Rattle.status_transfer.proofs.StatusDirs.{commit_log_apart, offsets_beside, members_beside}
use Rattle.status_transfer.proofs.status.carry_status.Goals as goal

-- memory for the buffer lacked

pub returns-in_err-buffer-clause-calls : goal.returns-in_err-buffer-clause-calls
returns-in_err-buffer-clause-calls g c told = stays

pub returns-in_err-buffer-clause-frame : goal.returns-in_err-buffer-clause-frame
returns-in_err-buffer-clause-frame g c told = carries_since (status_dirs c.args.job.now.new) (g.F.Fs.trail c.args.fs.now) (g.F.Fs.trail c.args.fs.now) stays

pub returns-in_err-buffer-clause-sound : goal.returns-in_err-buffer-clause-sound
returns-in_err-buffer-clause-sound g c told u ready stage still inside sound =
    carries_sound u ready stage (status_dirs c.args.job.now.new) inside still (g.F.Fs.trail c.args.fs.now) (g.F.Fs.trail c.args.fs.now) sound stays

pub returns-in_err-buffer-clause-unrefused : goal.returns-in_err-buffer-clause-unrefused
returns-in_err-buffer-clause-unrefused g c told apart old_holds new_holds = decided_on None c.from_residual.result OutOfMemory c.from_residual.ensures.1 tt

pub returns-in_err-buffer-clause-cause : goal.returns-in_err-buffer-clause-cause
returns-in_err-buffer-clause-cause g c =
    subst (λ answer. HasCause (g.F.Fs.firm c.args.fs.now) (g.F.Fs.counts c.args.fs.now) (g.F.Fs.counts c.args.fs.now) (unless_lack answer)) (sym (handed_on c.from_residual.result OutOfMemory c.from_residual.ensures.1))
    (no_cause (g.F.Fs.firm c.args.fs.now) (g.F.Fs.counts c.args.fs.now))

pub returns-in_err-buffer-clause-others : goal.returns-in_err-buffer-clause-others
returns-in_err-buffer-clause-others g c =
    subst (λ answer. OthersStay (g.F.Fs.counts c.args.fs.now) (g.F.Fs.counts c.args.fs.now) answer) (sym (handed_on c.from_residual.result OutOfMemory c.from_residual.ensures.1)) (record { refusals = refl; lacks = tt })

-- the first directory wasn't carried

pub returns-in_err-carry_one-clause-calls : goal.returns-in_err-carry_one-clause-calls
returns-in_err-carry_one-clause-calls g c told =
    let new = c.args.job.now.new in
    carries_more (status_dirs new) (commit_log_dir new ∷ []) (in_first (commit_log_dir new) (multixact_dirs new)) (g.F.Fs.trail c.args.fs.now) (g.F.Fs.trail c.carry_one.new.fs) (c.carry_one.ensures.calls told)

pub returns-in_err-carry_one-clause-frame : goal.returns-in_err-carry_one-clause-frame
returns-in_err-carry_one-clause-frame g c told =
    carries_since (status_dirs c.args.job.now.new) (g.F.Fs.trail c.args.fs.now) (g.F.Fs.trail c.carry_one.new.fs) (returns-in_err-carry_one-clause-calls g c told)

pub returns-in_err-carry_one-clause-sound : goal.returns-in_err-carry_one-clause-sound
returns-in_err-carry_one-clause-sound g c told u ready stage still inside sound =
    carries_sound u ready stage (status_dirs c.args.job.now.new) inside still (g.F.Fs.trail c.args.fs.now) (g.F.Fs.trail c.carry_one.new.fs) sound (returns-in_err-carry_one-clause-calls g c told)

pub returns-in_err-carry_one-clause-unrefused : goal.returns-in_err-carry_one-clause-unrefused
returns-in_err-carry_one-clause-unrefused g c told apart old_holds new_holds =
    decided_on None c.from_residual-in_err-carry_one.result c.in_err-carry_one.field-0.0 c.from_residual-in_err-carry_one.ensures.1
    (decides {T = Unit {0}} None (Err c.in_err-carry_one.field-0.0) (c.in_err-carry_one.ensures.unrefused told apart old_holds.commit_log new_holds.commit_log))

pub returns-in_err-carry_one-clause-cause : goal.returns-in_err-carry_one-clause-cause
returns-in_err-carry_one-clause-cause g c =
    subst (λ answer. HasCause (g.F.Fs.firm c.args.fs.now) (g.F.Fs.counts c.args.fs.now) (g.F.Fs.counts c.carry_one.new.fs) (unless_lack answer))
    (sym (handed_on c.from_residual-in_err-carry_one.result c.in_err-carry_one.field-0.0 c.from_residual-in_err-carry_one.ensures.1)) c.in_err-carry_one.ensures.cause

-- all was carried, or one of the others wasn't

pub returns-clause-calls : goal.returns-clause-calls
returns-clause-calls g c told =
    let new = c.args.job.now.new in
    carries_joined (status_dirs new) (multixact_dirs new) (in_rest (commit_log_dir new) (multixact_dirs new)) (g.F.Fs.trail c.args.fs.now) (g.F.Fs.trail c.carry_one.new.fs) (g.F.Fs.trail c.carry_multixacts.new.fs)
    (carries_more (status_dirs new) (commit_log_dir new ∷ []) (in_first (commit_log_dir new) (multixact_dirs new)) (g.F.Fs.trail c.args.fs.now) (g.F.Fs.trail c.carry_one.new.fs) (c.carry_one.ensures.calls told))
    (c.carry_multixacts.ensures.calls (c.carry_one.ensures.told ∙ told))

pub returns-clause-frame : goal.returns-clause-frame
returns-clause-frame g c told = carries_since (status_dirs c.args.job.now.new) (g.F.Fs.trail c.args.fs.now) (g.F.Fs.trail c.carry_multixacts.new.fs) (returns-clause-calls g c told)

pub returns-clause-sound : goal.returns-clause-sound
returns-clause-sound g c told u ready stage still inside sound =
    carries_sound u ready stage (status_dirs c.args.job.now.new) inside still (g.F.Fs.trail c.args.fs.now) (g.F.Fs.trail c.carry_multixacts.new.fs) sound (returns-clause-calls g c told)

pub returns-clause-unrefused : goal.returns-clause-unrefused
returns-clause-unrefused g c told apart old_holds new_holds =
    let start = g.F.Fs.trail c.args.fs.now in
    let mid = g.F.Fs.trail c.carry_one.new.fs in
    let old = c.args.job.now.old in
    let new = c.args.job.now.new in
    let first = commit_log_dir new ∷ [] in
    let keeps = (carries_since first start mid (c.carry_one.ensures.calls told)).present in
    c.carry_multixacts.ensures.unrefused (c.carry_one.ensures.told ∙ told) apart
    (record {
      offsets = holds_over first start.present mid.present keeps (offsets_dir old) (offsets_beside old new) (new_holds.commit_log, tt) old_holds.multixacts.offsets;
      members = holds_over first start.present mid.present keeps (members_dir old) (members_beside old new) (new_holds.commit_log, tt) old_holds.multixacts.members;
    })
    (record {
      offsets = holds_over first start.present mid.present keeps (offsets_dir new) (offsets_beside new new) (new_holds.commit_log, tt) new_holds.multixacts.offsets;
      members = holds_over first start.present mid.present keeps (members_dir new) (members_beside new new) (new_holds.commit_log, tt) new_holds.multixacts.members;
    })

pub returns-clause-carried : goal.returns-clause-carried
returns-clause-carried g c told apart =
    let start = g.F.Fs.trail c.args.fs.now in
    let mid = g.F.Fs.trail c.carry_one.new.fs in
    let end = g.F.Fs.trail c.carry_multixacts.new.fs in
    let old = c.args.job.now.old in
    let new = c.args.job.now.new in
    let later = c.carry_one.ensures.told ∙ told in
    let well = c.moment.ensures.well_formed told in
    let first = (carries_since (commit_log_dir new ∷ []) start mid (c.carry_one.ensures.calls told)).present in
    let second = (carries_since (multixact_dirs new) mid end (c.carry_multixacts.ensures.calls later)).present in
    on_ok_weaker c.carry_multixacts.result
    (λ carried. record {
      commit_log = stays_over (multixact_dirs new) mid.present end.present second (commit_log_dir old) (commit_log_dir new) (commit_log_apart new new) start.present (c.in_ok-carry_one.ensures.carried told apart);
      multixacts = record {
        offsets = since_over (commit_log_dir new ∷ []) start.present mid.present first (offsets_dir old) (offsets_dir new) (offsets_beside old new) well end.present carried.offsets;
        members = since_over (commit_log_dir new ∷ []) start.present mid.present first (members_dir old) (members_dir new) (members_beside old new) well end.present carried.members;
      };
    })
    (c.carry_multixacts.ensures.carried later apart)

pub returns-clause-cause : goal.returns-clause-cause
returns-clause-cause g c =
    cause_then (g.F.Fs.firm c.args.fs.now) (g.F.Fs.firm c.carry_one.new.fs) (g.F.Fs.counts c.args.fs.now) (g.F.Fs.counts c.carry_one.new.fs) (g.F.Fs.counts c.carry_multixacts.new.fs) None (unless_lack (error_of c.carry_multixacts.result)) tt
    c.carry_one.ensures.firm c.in_ok-carry_one.ensures.cause c.carry_multixacts.ensures.cause
