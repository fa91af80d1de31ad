use Rattle.std.proofs.Common.{sym, subst}
use Rattle.fs_model.specs.Names.{Path}
use Rattle.crash_safety.specs.Lacks.{Lacks}
use Rattle.upgraded.specs.Upgrades.{DisablesByMode, TransfersByMode}
use Rattle.plan_facts.proofs.Plan.{is_plan}
use Rattle.phase_facts.specs.Held.{Held}
use Rattle.phase_facts.proofs.Transferred.{linked_held}
use Rattle.phase_frames.proofs.Steps.{linked_framed}
use Rattle.phases.specs.Begun.{stage_of}
use Rattle.phase_facts.proofs.Standing.{links_keep}
use Rattle.phases.proofs.Regions.{regions_stay}
use Rattle.phases.proofs.Linked.{linked_links}
use Rattle.phases.specs.Faults.{IsNoChange}
use Rattle.phases.proofs.Devices.{planned_devices}
use Rattle.phases.proofs.Disabling.{decided_no_change}
use Rattle.phases.proofs.disabled.Disabled.link.Goals as goal

pub link_all-requires : goal.link_all-requires
link_all-requires g c told =
    let (read, opening, fact) = c.requires.fact told in
    subst (λ path. Lacks path (g.F.Fs.trail c.args.fs.now).present) (sym fact.permit) fact.lacks

pub returns-in-Ok-clause-fact : goal.returns-in-Ok-clause-fact
returns-in-Ok-clause-fact g c told read opening fact =
    let job = c.args.self.job in
    let old = g.F.Fs.trail c.args.fs.now in
    let new = g.F.Fs.trail c.link_all.new.fs in
    record {
      held = subst (λ mode. Held job (stage_of mode) opening new) (sym fact.mode) (linked_held job c.args.self.plan opening old new fact.inside fact.held (c.link_all.ensures.calls told));
      links = λ settled. linked_links job opening old new (fact.links settled) c.args.self.plan (c.link_all.ensures.calls told);
      transfers = record {
        counted = fact.counted;
        status = fact.status;
        disabled = old.present;
        plan = is_plan job c.args.self.catalog fact.counted c.args.self.plan fact.status.opened.can.valid fact.planned;
        apart = fact.can_carry.apart;
        disables = subst (λ mode. DisablesByMode mode job fact.counted old.present) (sym fact.mode) fact.disables;
        files = subst (λ mode. TransfersByMode mode c.args.self.plan old.present new.present) (sym fact.mode) (record { only = (c.link_all.ensures.frame told).present; carried = c.in-Ok.ensures.carried told fact.can_carry });
      };
      regions = regions_stay c.args.self.catalog old new (links_keep c.args.self.plan old new (c.link_all.ensures.calls told)) fact.regions;
      places = fact.places;
    }

pub returns-in-Ok-clause-safe : goal.returns-in-Ok-clause-safe
returns-in-Ok-clause-safe g c told read opening fact =
    (linked_held c.args.self.job c.args.self.plan opening (g.F.Fs.trail c.args.fs.now) (g.F.Fs.trail c.link_all.new.fs) fact.inside fact.held (c.link_all.ensures.calls told)).safe

pub returns-in-Err-clause-safe : goal.returns-in-Err-clause-safe
returns-in-Err-clause-safe g c told read opening fact =
    (linked_held c.args.self.job c.args.self.plan opening (g.F.Fs.trail c.args.fs.now) (g.F.Fs.trail c.link_all.new.fs) fact.inside fact.held (c.link_all.ensures.calls told)).safe

pub returns-in-Ok-clause-frame : goal.returns-in-Ok-clause-frame
returns-in-Ok-clause-frame g c told read opening fact framed =
    linked_framed c.args.self.job c.args.self.plan opening (g.F.Fs.trail c.args.fs.now) (g.F.Fs.trail c.link_all.new.fs) fact.held.begins fact.inside framed (c.link_all.ensures.calls told)

pub returns-in-Err-clause-frame : goal.returns-in-Err-clause-frame
returns-in-Err-clause-frame g c told read opening fact framed =
    linked_framed c.args.self.job c.args.self.plan opening (g.F.Fs.trail c.args.fs.now) (g.F.Fs.trail c.link_all.new.fs) fact.held.begins fact.inside framed (c.link_all.ensures.calls told)

pub returns-in-Ok-clause-links : goal.returns-in-Ok-clause-links
returns-in-Ok-clause-links g c told read opening fact settled =
    linked_links c.args.self.job opening (g.F.Fs.trail c.args.fs.now) (g.F.Fs.trail c.link_all.new.fs) (fact.links settled) c.args.self.plan (c.link_all.ensures.calls told)

pub returns-in-Err-clause-links : goal.returns-in-Err-clause-links
returns-in-Err-clause-links g c told read opening fact settled =
    linked_links c.args.self.job opening (g.F.Fs.trail c.args.fs.now) (g.F.Fs.trail c.link_all.new.fs) (fact.links settled) c.args.self.plan (c.link_all.ensures.calls told)

pub returns-in-Err-clause-unrefused : goal.returns-in-Err-clause-unrefused
returns-in-Err-clause-unrefused g c told read opening fact =
    let job = c.args.self.job in
    let plan = c.args.self.plan in
    let old = g.F.Fs.trail c.args.fs.now in
    let devices = planned_devices job c.args.self.catalog fact.status.head opening.present fact.counted old.present plan fact.status.opened.can fact.mode fact.devices fact.planned fact.can_carry in
    subst IsNoChange (sym c.files_fault.ensures) (decided_no_change Path job.new c.in-Err.error (c.in-Err.ensures.unrefused told fact.can_carry devices))
