use Rattle.std.proofs.Common.{◌∙◌, ◌∷◌, [], Err, None, inl, refl, subst}
use Rattle.fs_model.specs.Calls.{Links}
use Rattle.fs_model.specs.Trail.{DecidedBy, error_of}
use Rattle.fs_model.proofs.Going.{goes_one, goes_then, goes_weaker}
use Rattle.fs_model.proofs.Runs.{steps_decided}
use Rattle.fs_tools.proofs.Answering.{decided_on, decides}
use Rattle.transfer_plan.specs.Changed.{Removes}
use Rattle.link_transfer.specs.LinkedFiles.{LinksItems}
use Rattle.link_transfer.proofs.Joining.{removes_link, link_free, linked_ok}
use Rattle.link_transfer.proofs.linking.link_item.Goals as goal

pub returns-in_err-remove_replaced-clause-calls : goal.returns-in_err-remove_replaced-clause-calls
returns-in_err-remove_replaced-clause-calls g c told = goes_weaker (Removes c.args.item.now.to) (LinksItems (c.args.item.now ∷ [])) (removes_link c.args.item.now) (c.remove_replaced.ensures.calls told)

pub returns-in_err-remove_replaced-clause-unrefused : goal.returns-in_err-remove_replaced-clause-unrefused
returns-in_err-remove_replaced-clause-unrefused g c told can other device =
    decided_on None c.from_residual.result c.in_err-remove_replaced.field-0.0 c.from_residual.ensures.1
    (decides {T = Unit {0}} None (Err c.in_err-remove_replaced.field-0.0) (c.in_err-remove_replaced.ensures.unrefused told can))

pub returns-clause-calls : goal.returns-clause-calls
returns-clause-calls g c told =
    let Allowed = LinksItems (c.args.item.now ∷ []) in
    goes_then Allowed (goes_weaker (Removes c.args.item.now.to) Allowed (removes_link c.args.item.now) (c.remove_replaced.ensures.calls told))
    (goes_one Allowed (Links c.args.item.now.from c.args.item.now.to) (error_of c.link.result) (g.F.Fs.trail c.remove_replaced.new.fs) (g.F.Fs.trail c.link.new.self) (inl (refl, refl)) (c.link.ensures.steps (c.remove_replaced.ensures.told ∙ told)))

pub returns-clause-unrefused : goal.returns-clause-unrefused
returns-clause-unrefused g c told can other device =
    let mid = g.F.Fs.trail c.remove_replaced.new.fs in
    subst (λ refused. DecidedBy refused c.link.result)
    (link_free (g.F.Fs.trail c.args.fs.now).present mid.present c.args.item.now (c.in_ok-remove_replaced.ensures.removed told) (c.in_ok-remove_replaced.ensures.free told can other) device)
    (steps_decided (Links c.args.item.now.from c.args.item.now.to) c.link.result mid (g.F.Fs.trail c.link.new.self) (c.link.ensures.steps (c.remove_replaced.ensures.told ∙ told)))

pub returns-clause-linked : goal.returns-clause-linked
returns-clause-linked g c told =
    linked_ok c.args.item.now (g.F.Fs.trail c.args.fs.now).present (g.F.Fs.trail c.remove_replaced.new.fs) (g.F.Fs.trail c.link.new.self) (c.in_ok-remove_replaced.ensures.removed told) c.link.result (c.link.ensures.steps (c.remove_replaced.ensures.told ∙ told))
