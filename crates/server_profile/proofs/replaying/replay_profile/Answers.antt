use Rattle.std.proofs.Common.{◌∙◌, Ok, Err, ap, subst, sym}
use Rattle.fs_model.specs.Trail.{stays}
use Rattle.new_names.proofs.Looking.{unchanged_listed}
use Rattle.catalog_server.specs.Profile.{profile_of}
use Rattle.catalog_server.specs.Replayed.{replayed_over}
use Rattle.catalog_server.specs.Answers.{IsUnrefused}
use Rattle.catalog_server.specs.ServerFrame.{names_between}
use Rattle.server_profile.specs.Reading.{text_of, catalog_in}
use Rattle.server_profile.proofs.Replays.{file_there, replay_calls, replay_room, replay_made, replay_leads, unrefused}
use Rattle.server_profile.proofs.replaying.replay_profile.Goals as goal

pub returns-in_err-at-clause-calls : goal.returns-in_err-at-clause-calls
returns-in_err-at-clause-calls g c told = stays

pub returns-in_err-standing-clause-calls : goal.returns-in_err-standing-clause-calls
returns-in_err-standing-clause-calls g c told =
    let old = g.F.Fs.trail c.args.fs.now in
    let reading = catalog_in (text_of (profile_of old.present c.args.root.now)) in
    unchanged_listed (names_between c.args.root.now c.args.release reading (replayed_over reading c.args.text.now)) old (g.F.Fs.trail c.read_text.new.fs) (c.read_text.ensures.unchanged told)

pub returns-in_err-plan-clause-calls : goal.returns-in_err-plan-clause-calls
returns-in_err-plan-clause-calls g c told =
    let old = g.F.Fs.trail c.args.fs.now in
    let reading = catalog_in (text_of (profile_of old.present c.args.root.now)) in
    unchanged_listed (names_between c.args.root.now c.args.release reading (replayed_over reading c.args.text.now)) old (g.F.Fs.trail c.read_text.new.fs) (c.read_text.ensures.unchanged told)

pub returns-in-Ok-clause-calls : goal.returns-in-Ok-clause-calls
returns-in-Ok-clause-calls g c told =
    let old = g.F.Fs.trail c.args.fs.now in
    let mid = g.F.Fs.trail c.read_text.new.fs in
    let stood = c.in_ok-standing.ensures.ok told ∙ ap Ok (sym c.deref.ensures.value) in
    replay_calls c.args.root.now c.args.release c.deref.result.now c.args.text.now c.in_ok-plan.plan.names.items c.in_ok-plan.plan.text.items c.in_ok-plan.ensures.planned old mid (c.read_text.ensures.unchanged told) stood c.in_ok-at.at c.in_ok-at.ensures.path
    (g.F.Fs.trail c.carry_out.new.fs) (c.carry_out.ensures.calls (c.read_text.ensures.told ∙ told))

pub returns-in-Ok-clause-replayed : goal.returns-in-Ok-clause-replayed
returns-in-Ok-clause-replayed g c told =
    let old = g.F.Fs.trail c.args.fs.now in
    let mid = g.F.Fs.trail c.read_text.new.fs in
    let stood = c.in_ok-standing.ensures.ok told ∙ ap Ok (sym c.deref.ensures.value) in
    replay_leads c.args.root.now c.args.release c.deref.result.now c.args.text.now c.in_ok-plan.plan.names.items c.in_ok-plan.plan.text.items c.in_ok-plan.ensures.planned old mid (c.read_text.ensures.unchanged told) stood c.in_ok-at.at c.in_ok-at.ensures.path
    (g.F.Fs.trail c.carry_out.new.fs).present (c.in-Ok.ensures.written (c.read_text.ensures.told ∙ told))

pub returns-in-Ok-clause-made : goal.returns-in-Ok-clause-made
returns-in-Ok-clause-made g c told =
    let old = g.F.Fs.trail c.args.fs.now in
    let mid = g.F.Fs.trail c.read_text.new.fs in
    let stood = c.in_ok-standing.ensures.ok told ∙ ap Ok (sym c.deref.ensures.value) in
    let there = file_there c.args.root.now c.args.release c.deref.result.now c.args.text.now c.in_ok-plan.plan.names.items c.in_ok-plan.plan.text.items c.in_ok-plan.ensures.planned old mid (c.read_text.ensures.unchanged told) stood c.in_ok-at.at c.in_ok-at.ensures.path in
    replay_made c.args.root.now c.args.release c.deref.result.now c.args.text.now c.in_ok-plan.plan.names.items c.in_ok-plan.plan.text.items c.in_ok-plan.ensures.planned old mid (c.read_text.ensures.unchanged told) stood c.in_ok-at.at c.in_ok-at.ensures.path
    (g.F.Fs.trail c.carry_out.new.fs).present (c.in-Ok.ensures.stands (c.read_text.ensures.told ∙ told) there.0 there.1)

pub returns-clause-calls : goal.returns-clause-calls
returns-clause-calls g c told =
    let old = g.F.Fs.trail c.args.fs.now in
    let mid = g.F.Fs.trail c.read_text.new.fs in
    let stood = c.in_ok-standing.ensures.ok told ∙ ap Ok (sym c.deref.ensures.value) in
    replay_calls c.args.root.now c.args.release c.deref.result.now c.args.text.now c.in_ok-plan.plan.names.items c.in_ok-plan.plan.text.items c.in_ok-plan.ensures.planned old mid (c.read_text.ensures.unchanged told) stood c.in_ok-at.at c.in_ok-at.ensures.path
    (g.F.Fs.trail c.carry_out.new.fs) (c.carry_out.ensures.calls (c.read_text.ensures.told ∙ told))

pub returns-clause-unrefused : goal.returns-clause-unrefused
returns-clause-unrefused g c told before after is leads room =
    let old = g.F.Fs.trail c.args.fs.now in
    let mid = g.F.Fs.trail c.read_text.new.fs in
    let stood = c.in_ok-standing.ensures.ok told ∙ ap Ok (sym c.deref.ensures.value) in
    let there = file_there c.args.root.now c.args.release c.deref.result.now c.args.text.now c.in_ok-plan.plan.names.items c.in_ok-plan.plan.text.items c.in_ok-plan.ensures.planned old mid (c.read_text.ensures.unchanged told) stood c.in_ok-at.at c.in_ok-at.ensures.path in
    let room_there = replay_room c.args.root.now c.args.release c.deref.result.now c.args.text.now c.in_ok-plan.plan.names.items c.in_ok-plan.plan.text.items c.in_ok-plan.ensures.planned old mid (c.read_text.ensures.unchanged told) stood c.in_ok-at.at c.in_ok-at.ensures.path before after is leads room in
    subst (λ e. IsUnrefused {T = Unit {0}} (Err e)) (sym c.file_error.ensures) (unrefused (Unit {0}) c.in-Err.error (c.in-Err.ensures.unrefused (c.read_text.ensures.told ∙ told) there.0 there.1 room_there))
