use Rattle.std.proofs.Common.{◌∙◌, ◌∷◌, [], Err, None, refl, arith}
use Rattle.fs_model.specs.Trail.{stays}
use Rattle.fs_model.proofs.Causes.{no_cause, cause_then, others_then}
use Rattle.fs_model.proofs.Going.{goes_then}
use Rattle.fs_tools.proofs.Answering.{decided_on, decides}
use Rattle.transfer_plan.proofs.Listing.{names_differ, ready_here, ready_behind, devices_here, devices_behind, waits_behind, all_wait, below_in, at_in, over_in}
use Rattle.link_transfer.specs.LinkedFiles.{LinksItems}
use Rattle.link_transfer.proofs.Joining.{links_since, links_lack, permitted_sound, item_links, done_next, partly_done, all_done, wholly_done}
use Rattle.link_transfer.proofs.linking.link_all.Goals as goal

pub loop-item-init : goal.loop-item-init
loop-item-init g c = record {
  told = refl;
  firm = refl;
  calls = λ told. stays;
  ready = λ told can. can;
  devices = λ told have. have;
  done = λ told can. tt;
  waits = λ told can. all_wait (g.F.Fs.trail c.args.fs.now).present c.args.plan.now;
  cause = no_cause (g.F.Fs.firm c.args.fs.now) (g.F.Fs.counts c.args.fs.now);
  others = record { refusals = refl; lacks = refl };
}

pub returns-in_err-link_item-clause-calls : goal.returns-in_err-link_item-clause-calls
returns-in_err-link_item-clause-calls g c told =
    goes_then (LinksItems c.args.plan.now) (c.loop-item.invariant.calls told)
    (item_links c.args.plan.now c.loop-item.item-index c.item-item.result (below_in c.items-item-items.result.now c.args.plan.now c.items-item-items.ensures c.loop-item.item-index c.loop-item-test.true) (at_in c.items-item-items.result.now c.args.plan.now c.items-item-items.ensures c.loop-item.item-index c.item-item.result c.item-item.is) (g.F.Fs.trail c.loop-item.fs) (g.F.Fs.trail c.link_item.new.fs) (c.link_item.ensures.calls (c.loop-item.invariant.told ∙ told)))

pub returns-in_err-link_item-clause-frame : goal.returns-in_err-link_item-clause-frame
returns-in_err-link_item-clause-frame g c told =
    links_since c.args.plan.now (g.F.Fs.trail c.args.fs.now) (g.F.Fs.trail c.link_item.new.fs) (returns-in_err-link_item-clause-calls g c told)

pub returns-in_err-link_item-clause-sound : goal.returns-in_err-link_item-clause-sound
returns-in_err-link_item-clause-sound g c told u ready disables is stage inside sound =
    permitted_sound c.args.plan.now u ready disables c.args.permit.now is stage inside (g.F.Fs.trail c.args.fs.now) (g.F.Fs.trail c.link_item.new.fs) (c.requires told) sound (returns-in_err-link_item-clause-calls g c told)

pub returns-in_err-link_item-clause-lacks : goal.returns-in_err-link_item-clause-lacks
returns-in_err-link_item-clause-lacks g c told outside =
    links_lack c.args.plan.now c.args.permit.now outside (g.F.Fs.trail c.args.fs.now) (g.F.Fs.trail c.link_item.new.fs) (c.requires told) (returns-in_err-link_item-clause-calls g c told)

pub returns-in_err-link_item-clause-unrefused : goal.returns-in_err-link_item-clause-unrefused
returns-in_err-link_item-clause-unrefused g c told can have =
    let plan = c.args.plan.now in
    let item = c.item-item.result in
    let index = c.loop-item.item-index in
    let here = (g.F.Fs.trail c.loop-item.fs).present in
    let first = ready_here plan index item (below_in c.items-item-items.result.now c.args.plan.now c.items-item-items.ensures c.loop-item.item-index c.loop-item-test.true) (at_in c.items-item-items.result.now c.args.plan.now c.items-item-items.ensures c.loop-item.item-index c.item-item.result c.item-item.is) here.names (c.loop-item.invariant.ready told can) in
    let device = devices_here plan index item (below_in c.items-item-items.result.now c.args.plan.now c.items-item-items.ensures c.loop-item.item-index c.loop-item-test.true) (at_in c.items-item-items.result.now c.args.plan.now c.items-item-items.ensures c.loop-item.item-index c.item-item.result c.item-item.is) here (c.loop-item.invariant.devices told have) in
    decided_on None c.from_residual.result c.in_err-link_item.field-0.0 c.from_residual.ensures.1
    (decides {T = Unit {0}} None (Err c.in_err-link_item.field-0.0) (c.in_err-link_item.ensures.unrefused (c.loop-item.invariant.told ∙ told) first.each.0 (names_differ here.names item _ first) device.0))

pub returns-in_err-link_item-clause-partly : goal.returns-in_err-link_item-clause-partly
returns-in_err-link_item-clause-partly g c told can =
    let item = c.item-item.result in
    let here = g.F.Fs.trail c.loop-item.fs in
    let new = g.F.Fs.trail c.link_item.new.fs in
    partly_done (g.F.Fs.trail c.args.fs.now).present c.args.plan.now c.loop-item.item-index item (below_in c.items-item-items.result.now c.args.plan.now c.items-item-items.ensures c.loop-item.item-index c.loop-item-test.true) (at_in c.items-item-items.result.now c.args.plan.now c.items-item-items.ensures c.loop-item.item-index c.item-item.result c.item-item.is) can here.present new.present
    (links_since (item ∷ []) here new (c.link_item.ensures.calls (c.loop-item.invariant.told ∙ told))).present.only
    (c.loop-item.invariant.waits told can) (c.loop-item.invariant.done told can)

pub loop-item-preserved : goal.loop-item-preserved
loop-item-preserved g c =
    let plan = c.args.plan.now in
    let item = c.item-item.result in
    let index = c.loop-item.item-index in
    let start = g.F.Fs.trail c.args.fs.now in
    let here = g.F.Fs.trail c.loop-item.fs in
    let new = g.F.Fs.trail c.link_item.new.fs in
    record {
      told = c.link_item.ensures.told ∙ c.loop-item.invariant.told;
      firm = c.link_item.ensures.firm ∙ c.loop-item.invariant.firm;
      calls = λ told.
          goes_then (LinksItems plan) (c.loop-item.invariant.calls told)
          (item_links plan index item (below_in c.items-item-items.result.now c.args.plan.now c.items-item-items.ensures c.loop-item.item-index c.loop-item-test.true) (at_in c.items-item-items.result.now c.args.plan.now c.items-item-items.ensures c.loop-item.item-index c.item-item.result c.item-item.is) here new (c.link_item.ensures.calls (c.loop-item.invariant.told ∙ told)));
      ready = λ told can.
          ready_behind plan index item (below_in c.items-item-items.result.now c.args.plan.now c.items-item-items.ensures c.loop-item.item-index c.loop-item-test.true) (at_in c.items-item-items.result.now c.args.plan.now c.items-item-items.ensures c.loop-item.item-index c.item-item.result c.item-item.is) here.present new.present (c.loop-item.invariant.ready told can)
          (links_since (item ∷ []) here new (c.link_item.ensures.calls (c.loop-item.invariant.told ∙ told))).present.only;
      devices = λ told have.
          devices_behind plan index item (below_in c.items-item-items.result.now c.args.plan.now c.items-item-items.ensures c.loop-item.item-index c.loop-item-test.true) (at_in c.items-item-items.result.now c.args.plan.now c.items-item-items.ensures c.loop-item.item-index c.item-item.result c.item-item.is) here.present new.present (c.loop-item.invariant.devices told have)
          (links_since (item ∷ []) here new (c.link_item.ensures.calls (c.loop-item.invariant.told ∙ told))).present.only;
      done = λ told can.
          done_next start.present plan index item (below_in c.items-item-items.result.now c.args.plan.now c.items-item-items.ensures c.loop-item.item-index c.loop-item-test.true) (at_in c.items-item-items.result.now c.args.plan.now c.items-item-items.ensures c.loop-item.item-index c.item-item.result c.item-item.is) can here.present new.present
          (links_since plan start here (c.loop-item.invariant.calls told)).present.only (c.in_ok-link_item.ensures.linked (c.loop-item.invariant.told ∙ told)) (c.loop-item.invariant.done told can);
      waits = λ told can.
          waits_behind plan index item (below_in c.items-item-items.result.now c.args.plan.now c.items-item-items.ensures c.loop-item.item-index c.loop-item-test.true) (at_in c.items-item-items.result.now c.args.plan.now c.items-item-items.ensures c.loop-item.item-index c.item-item.result c.item-item.is) start.present.names can start.present here.present new.present
          (links_since (item ∷ []) here new (c.link_item.ensures.calls (c.loop-item.invariant.told ∙ told))).present.only (c.loop-item.invariant.waits told can);
      cause =
          cause_then (g.F.Fs.firm c.args.fs.now) (g.F.Fs.firm c.loop-item.fs) (g.F.Fs.counts c.args.fs.now) (g.F.Fs.counts c.loop-item.fs) (g.F.Fs.counts c.link_item.new.fs) None None tt
          c.loop-item.invariant.firm c.loop-item.invariant.cause c.in_ok-link_item.ensures.cause;
      others = others_then (g.F.Fs.counts c.args.fs.now) (g.F.Fs.counts c.loop-item.fs) (g.F.Fs.counts c.link_item.new.fs) None c.loop-item.invariant.others c.in_ok-link_item.ensures.others;
    }

pub returns-clause-frame : goal.returns-clause-frame
returns-clause-frame g c told = links_since c.args.plan.now (g.F.Fs.trail c.args.fs.now) (g.F.Fs.trail c.loop-item.fs) (c.loop-item.invariant.calls told)

pub returns-clause-sound : goal.returns-clause-sound
returns-clause-sound g c told u ready disables is stage inside sound =
    permitted_sound c.args.plan.now u ready disables c.args.permit.now is stage inside (g.F.Fs.trail c.args.fs.now) (g.F.Fs.trail c.loop-item.fs) (c.requires told) sound (c.loop-item.invariant.calls told)

pub returns-clause-lacks : goal.returns-clause-lacks
returns-clause-lacks g c told outside =
    links_lack c.args.plan.now c.args.permit.now outside (g.F.Fs.trail c.args.fs.now) (g.F.Fs.trail c.loop-item.fs) (c.requires told) (c.loop-item.invariant.calls told)

pub returns-clause-carried : goal.returns-clause-carried
returns-clause-carried g c told can =
    all_done (g.F.Fs.trail c.args.fs.now).present (g.F.Fs.trail c.loop-item.fs).present c.args.plan.now c.loop-item.item-index (over_in c.items-item-items.result.now c.args.plan.now c.items-item-items.ensures c.loop-item.item-index (omega (arith, c.loop-item-test.false))) (c.loop-item.invariant.done told can)

pub returns-clause-partly : goal.returns-clause-partly
returns-clause-partly g c told can =
    wholly_done (g.F.Fs.trail c.args.fs.now).present (g.F.Fs.trail c.loop-item.fs).present c.args.plan.now c.loop-item.item-index (over_in c.items-item-items.result.now c.args.plan.now c.items-item-items.ensures c.loop-item.item-index (omega (arith, c.loop-item-test.false))) (c.loop-item.invariant.done told can)
