use Rattle.std.proofs.Common.{◌∙◌, refl, sym, subst}
use Rattle.fs_model.specs.Calls.{WritesAt}
use Rattle.fs_model.specs.Trail.{DecidedBy, error_of}
use Rattle.fs_model.proofs.Going.{goes_one}
use Rattle.fs_model.proofs.Runs.{steps_decided}
use Rattle.crash_safety.specs.Calling.{Rewrites}
use Rattle.crash_safety.proofs.Going.{rewrites_sound}
use Rattle.status_transfer.proofs.Counting.{head_writable, ok_counted, kept_since}
use Rattle.status_transfer.proofs.counters.set_counters.Goals as goal

pub returns-clause-head : goal.returns-clause-head
returns-clause-head g c = record {
  counters = c.write_counters.ensures.counters;
  oldest_commit_ts = c.write_counters.ensures.oldest_commit_ts;
  newest_commit_ts = c.write_counters.ensures.newest_commit_ts;
  crc = c.write_counters.ensures.crc;
  size = c.write_counters.array_long ∙ sym c.told-head;
  kept = c.write_counters.ensures.kept;
}

pub returns-clause-calls : goal.returns-clause-calls
returns-clause-calls g c told =
    goes_one (Rewrites c.args.control.now) (WritesAt c.args.control.now 0 c.write_counters.new.head) (error_of c.write_at.result) (g.F.Fs.trail c.args.fs.now) (g.F.Fs.trail c.write_at.new.self) refl (c.write_at.ensures.steps told)

pub returns-clause-frame : goal.returns-clause-frame
returns-clause-frame g c told =
    kept_since c.args.control.now c.write_counters.new.head (error_of c.write_at.result) (g.F.Fs.trail c.args.fs.now) (g.F.Fs.trail c.write_at.new.self) (c.write_at.ensures.steps told)

pub returns-clause-sound : goal.returns-clause-sound
returns-clause-sound g c told u ready stage sound apart =
    rewrites_sound u ready stage c.args.control.now (g.F.Fs.trail c.args.fs.now) (g.F.Fs.trail c.write_at.new.self) sound apart (returns-clause-calls g c told)

pub returns-clause-decided : goal.returns-clause-decided
returns-clause-decided g c told =
    steps_decided (WritesAt c.args.control.now 0 c.write_counters.new.head) c.write_at.result (g.F.Fs.trail c.args.fs.now) (g.F.Fs.trail c.write_at.new.self) (c.write_at.ensures.steps told)

pub returns-clause-unrefused : goal.returns-clause-unrefused
returns-clause-unrefused g c told is_head =
    subst (λ refused. DecidedBy refused c.write_at.result)
    (head_writable (g.F.Fs.trail c.args.fs.now).present c.args.control.now c.args.head.now 0 c.write_counters.new.head (c.moment.ensures.well_formed told) is_head)
    (returns-clause-decided g c told)

pub returns-clause-counted : goal.returns-clause-counted
returns-clause-counted g c told is_head =
    ok_counted c.args.control.now c.args.counters.now c.args.head.now c.write_counters.new.head (g.F.Fs.trail c.args.fs.now) (g.F.Fs.trail c.write_at.new.self) c.write_at.result c.write_counters.array_long (returns-clause-head g c) is_head
    (c.write_at.ensures.steps told)
