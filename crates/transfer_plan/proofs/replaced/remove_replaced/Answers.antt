use Rattle.std.proofs.Common.{refl, subst}
use Rattle.fs_model.specs.Calls.{Unlinks}
use Rattle.fs_model.specs.Trail.{stays, DecidedBy, error_of}
use Rattle.fs_model.proofs.Going.{goes_one}
use Rattle.fs_model.proofs.Runs.{steps_decided}
use Rattle.transfer_plan.specs.Changed.{Removes}
use Rattle.transfer_plan.proofs.Freeing.{unlink_free, free_before, unlinked_free}
use Rattle.transfer_plan.proofs.replaced.remove_replaced.Goals as goal

pub returns-then-item-clause-calls : goal.returns-then-item-clause-calls
returns-then-item-clause-calls g c told =
    goes_one (Removes c.args.item.now.to) (Unlinks c.args.item.now.to) (error_of c.unlink.result) (g.F.Fs.trail c.args.fs.now) (g.F.Fs.trail c.unlink.new.self) refl (c.unlink.ensures.steps told)

pub returns-then-item-clause-unrefused : goal.returns-then-item-clause-unrefused
returns-then-item-clause-unrefused g c told can =
    let old = g.F.Fs.trail c.args.fs.now in
    subst (λ refused. DecidedBy refused c.unlink.result) (unlink_free old.present (c.moment.ensures.well_formed told).tree c.args.item.now can c.if-item.true)
    (steps_decided (Unlinks c.args.item.now.to) c.unlink.result old (g.F.Fs.trail c.unlink.new.self) (c.unlink.ensures.steps told))

pub returns-then-item-clause-free : goal.returns-then-item-clause-free
returns-then-item-clause-free g c told can other =
    unlinked_free (g.F.Fs.trail c.args.fs.now) (g.F.Fs.trail c.unlink.new.self) c.args.item.now (c.moment.ensures.well_formed told).tree can other c.unlink.result (c.unlink.ensures.steps told)

pub returns-else-item-clause-calls : goal.returns-else-item-clause-calls
returns-else-item-clause-calls g c told = stays

pub returns-else-item-clause-free : goal.returns-else-item-clause-free
returns-else-item-clause-free g c told can other = free_before (g.F.Fs.trail c.args.fs.now).present (c.moment.ensures.well_formed told).tree c.args.item.now can c.if-item.false
