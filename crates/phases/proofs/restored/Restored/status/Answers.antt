use Rattle.std.proofs.Common.{◌∙◌, sym, subst}
use Rattle.fs_model.specs.Names.{Path}
use Rattle.catalog.specs.Cluster.{started}
use Rattle.phase_facts.proofs.Kept.{replay_old_status, replay_new_status, replay_head, roots_apart}
use Rattle.phase_facts.proofs.Planned.{relation_plan_in}
use Rattle.plan_facts.proofs.Counted.{counted_can_be_planned}
use Rattle.phases.specs.Faults.{IsNoChange}
use Rattle.phase_facts.proofs.Finishable.{regions_stand}
use Rattle.phases.proofs.Regions.{status_regions}
use Rattle.phases.proofs.Devices.{status_devices}
use Rattle.phases.proofs.Carrying.{status_held}
use Rattle.phases.proofs.Disabling.{decided_no_change}
use Rattle.phases.proofs.Planning.{plan_of_relations}
use Rattle.phases.proofs.Framing.{status_framed}
use Rattle.phases.proofs.Linked.{status_links}
use Rattle.phases.proofs.restored.Restored.status.Goals as goal

pub carry_and_prepare-prepared-requires : goal.carry_and_prepare-prepared-requires
carry_and_prepare-prepared-requires g c told = let (read, opening, fact) = c.requires.fact told in fact.same

pub returns-in-Ok-clause-fact : goal.returns-in-Ok-clause-fact
returns-in-Ok-clause-fact g c told read opening fact =
    let job = c.args.self.job in
    let catalog = c.args.self.passed.old_catalog in
    let head = c.args.self.passed.new_record in
    let old = g.F.Fs.trail c.args.fs.now in
    let new = g.F.Fs.trail c.carry_and_prepare-prepared.new.fs in
    let can = fact.opened.can in
    let apart = roots_apart job opening.present can.begins in
    let transactions = c.in-Ok.ensures.carried told apart (replay_head job catalog (started catalog.bootstrap) head opening.present old.present can fact.schema.only) in
    let well = c.moment.ensures.well_formed (c.carry_and_prepare-prepared.ensures.told ∙ told) in
    let plannable = counted_can_be_planned read job catalog opening.present old.present transactions.carried new.present c.args.self.passed.old_control.counters fact.opened.upgradable fact.opened.own_files fact.schema transactions.status transactions.counted well can.own_locations apart in
    let planned = c.in-Ok.ensures.plan told plannable in
    record {
      held = status_held job opening old new fact.held (c.carry_and_prepare-prepared.ensures.calls told);
      links = λ settled. status_links job opening old new (fact.links settled) (c.carry_and_prepare-prepared.ensures.calls told);
      status = record {
        control = c.args.self.passed.old_control;
        head = head;
        opened = fact.opened;
        restored = old.present;
        schema = fact.schema;
        transactions = transactions;
      };
      devices = status_devices job opening old new can.begins (c.carry_and_prepare-prepared.ensures.calls told) fact.devices;
      planned = planned;
      inside = relation_plan_in job catalog head opening.present can c.in-Ok.prepared.plan (plan_of_relations job catalog new.present can.valid c.in-Ok.prepared.plan planned.is);
      regions = status_regions job catalog old new (c.carry_and_prepare-prepared.ensures.calls told) (regions_stand job catalog old.present fact.schema.all);
      paths = c.in-Ok.ensures.paths;
      places = c.in-Ok.ensures.places;
    }

pub returns-in-Ok-clause-safe : goal.returns-in-Ok-clause-safe
returns-in-Ok-clause-safe g c told read opening fact =
    (status_held c.args.self.job opening (g.F.Fs.trail c.args.fs.now) (g.F.Fs.trail c.carry_and_prepare-prepared.new.fs) fact.held (c.carry_and_prepare-prepared.ensures.calls told)).safe

pub returns-in-Err-clause-safe : goal.returns-in-Err-clause-safe
returns-in-Err-clause-safe g c told read opening fact =
    (status_held c.args.self.job opening (g.F.Fs.trail c.args.fs.now) (g.F.Fs.trail c.carry_and_prepare-prepared.new.fs) fact.held (c.carry_and_prepare-prepared.ensures.calls told)).safe

pub returns-in-Err-clause-unrefused : goal.returns-in-Err-clause-unrefused
returns-in-Err-clause-unrefused g c told read opening fact =
    let job = c.args.self.job in
    let catalog = c.args.self.passed.old_catalog in
    let head = c.args.self.passed.new_record in
    let old = g.F.Fs.trail c.args.fs.now in
    let can = fact.opened.can in
    subst IsNoChange (sym c.files_fault.ensures)
    (decided_no_change Path job.new c.in-Err.error
    (c.in-Err.ensures.unrefused told (roots_apart job opening.present can.begins)
    (replay_old_status job catalog (started catalog.bootstrap) head opening.present old.present can fact.schema.only)
    (replay_new_status job catalog (started catalog.bootstrap) head opening.present old.present can fact.schema.only)
    (replay_head job catalog (started catalog.bootstrap) head opening.present old.present can fact.schema.only)))

pub returns-in-Ok-clause-frame : goal.returns-in-Ok-clause-frame
returns-in-Ok-clause-frame g c told read opening fact framed =
    status_framed c.args.self.job opening (g.F.Fs.trail c.args.fs.now) (g.F.Fs.trail c.carry_and_prepare-prepared.new.fs) fact.held.begins framed (c.carry_and_prepare-prepared.ensures.calls told)

pub returns-in-Err-clause-frame : goal.returns-in-Err-clause-frame
returns-in-Err-clause-frame g c told read opening fact framed =
    status_framed c.args.self.job opening (g.F.Fs.trail c.args.fs.now) (g.F.Fs.trail c.carry_and_prepare-prepared.new.fs) fact.held.begins framed (c.carry_and_prepare-prepared.ensures.calls told)

pub returns-in-Ok-clause-links : goal.returns-in-Ok-clause-links
returns-in-Ok-clause-links g c told read opening fact settled =
    status_links c.args.self.job opening (g.F.Fs.trail c.args.fs.now) (g.F.Fs.trail c.carry_and_prepare-prepared.new.fs) (fact.links settled) (c.carry_and_prepare-prepared.ensures.calls told)

pub returns-in-Err-clause-links : goal.returns-in-Err-clause-links
returns-in-Err-clause-links g c told read opening fact settled =
    status_links c.args.self.job opening (g.F.Fs.trail c.args.fs.now) (g.F.Fs.trail c.carry_and_prepare-prepared.new.fs) (fact.links settled) (c.carry_and_prepare-prepared.ensures.calls told)
