use Rattle.std.proofs.Common.{◌∙◌, refl, sym, subst, arith, None, Err}
use Rattle.fs_model.specs.Trail.{DecidedBy, stays}
use Rattle.fs_model.proofs.Causes.{no_cause, cause_then}
use Rattle.new_names.specs.Room.{HasRoomFor}
use Rattle.new_names.proofs.Runs.{adds_itself, adds_then, makes_adds, makes_stands, free_absent, stands_next, absent_next, goes_joined}
use Rattle.new_names.proofs.Rooms.{free_to_make, room_for_rest, makes_others, left_at, decided_on}
use Rattle.new_names.proofs.make.make_names.Goals as goal

pub returns-in_err-make_name-clause-calls : goal.returns-in_err-make_name-clause-calls
returns-in_err-make_name-clause-calls g c told listed within =
    goes_joined listed (g.F.Fs.trail c.args.fs.now) (g.F.Fs.trail c.loop-name.fs) (g.F.Fs.trail c.make_name.new.fs) (c.loop-name.invariant.calls told listed within)
    (c.make_name.ensures.calls (c.loop-name.invariant.told ∙ told) listed (within c.name-item.result (c.loop-name.name-index, c.loop-name-test.true, sym c.name-item.is)))

pub returns-in_err-make_name-clause-unrefused : goal.returns-in_err-make_name-clause-unrefused
returns-in_err-make_name-clause-unrefused g c told room =
    let here = c.loop-name.invariant.told ∙ told in
    let s = (g.F.Fs.trail c.loop-name.fs).present in
    let left = subst (HasRoomFor s) (left_at c.args.names.now c.loop-name.name-index c.name-item.result c.loop-name-test.true c.name-item.is) (c.loop-name.invariant.room told room) in
    decided_on None c.from_residual.result c.in_err-make_name.field-0.0 c.from_residual.ensures.1
    (subst (λ refused. DecidedBy {T = Unit {0}} refused (Err c.in_err-make_name.field-0.0)) (free_to_make s (c.make_name.ensures.well_formed here) c.name-item.result.path left.0 left.2) (c.in_err-make_name.ensures.decided here))

pub loop-name-init : goal.loop-name-init
loop-name-init g c = record {
  told = refl;
  firm = refl;
  calls = λ told listed within. stays;
  room = λ told room. room;
  stands = λ told k name below is. absurd (omega (arith, below));
  absent = λ told k name below is. absurd (omega (arith, below));
  adds = λ told. adds_itself (g.F.Fs.trail c.args.fs.now).present;
  cause = no_cause (g.F.Fs.firm c.args.fs.now) (g.F.Fs.counts c.args.fs.now);
}

pub loop-name-preserved : goal.loop-name-preserved
loop-name-preserved g c = record {
  told = c.make_name.ensures.told ∙ c.loop-name.invariant.told;
  firm = c.make_name.ensures.firm ∙ c.loop-name.invariant.firm;
  calls = λ told listed within.
      goes_joined listed (g.F.Fs.trail c.args.fs.now) (g.F.Fs.trail c.loop-name.fs) (g.F.Fs.trail c.make_name.new.fs) (c.loop-name.invariant.calls told listed within)
      (c.make_name.ensures.calls (c.loop-name.invariant.told ∙ told) listed (within c.name-item.result (c.loop-name.name-index, c.loop-name-test.true, sym c.name-item.is)));
  room = λ told room.
      let here = c.loop-name.invariant.told ∙ told in
      let s = (g.F.Fs.trail c.loop-name.fs).present in
      let t = (g.F.Fs.trail c.make_name.new.fs).present in
      let item = c.name-item.result in
      let made = c.in_ok-make_name.ensures.made here in
      room_for_rest s t item (makes_adds s item.path (free_absent s item.path (c.in_ok-make_name.ensures.decided here)) item.node t made) (makes_stands s item.path item.node t made) (makes_others s item.path item.node t made) _
      (subst (HasRoomFor s) (left_at c.args.names.now c.loop-name.name-index item c.loop-name-test.true c.name-item.is) (c.loop-name.invariant.room told room));
  stands = λ told.
      let here = c.loop-name.invariant.told ∙ told in
      let s = (g.F.Fs.trail c.loop-name.fs).present in
      let t = (g.F.Fs.trail c.make_name.new.fs).present in
      let item = c.name-item.result in
      let made = c.in_ok-make_name.ensures.made here in
      stands_next c.args.names.now c.loop-name.name-index s t item c.loop-name-test.true c.name-item.is
      (makes_adds s item.path (free_absent s item.path (c.in_ok-make_name.ensures.decided here)) item.node t made)
      (makes_stands s item.path item.node t made) (c.loop-name.invariant.stands told);
  absent = λ told.
      let here = c.loop-name.invariant.told ∙ told in
      let s = (g.F.Fs.trail c.loop-name.fs).present in
      let item = c.name-item.result in
      absent_next c.args.names.now c.loop-name.name-index (g.F.Fs.trail c.args.fs.now).present s item c.loop-name-test.true c.name-item.is (c.loop-name.invariant.adds told)
      (free_absent s item.path (c.in_ok-make_name.ensures.decided here)) (c.loop-name.invariant.absent told);
  adds = λ told.
      let here = c.loop-name.invariant.told ∙ told in
      let s = (g.F.Fs.trail c.loop-name.fs).present in
      let t = (g.F.Fs.trail c.make_name.new.fs).present in
      let item = c.name-item.result in
      adds_then (g.F.Fs.trail c.args.fs.now).present s t (c.loop-name.invariant.adds told)
      (makes_adds s item.path (free_absent s item.path (c.in_ok-make_name.ensures.decided here)) item.node t (c.in_ok-make_name.ensures.made here));
  cause =
      cause_then (g.F.Fs.firm c.args.fs.now) (g.F.Fs.firm c.loop-name.fs) (g.F.Fs.counts c.args.fs.now) (g.F.Fs.counts c.loop-name.fs) (g.F.Fs.counts c.make_name.new.fs) None None tt
      c.loop-name.invariant.firm c.loop-name.invariant.cause c.in_ok-make_name.ensures.cause;
}
