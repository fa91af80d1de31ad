use Rattle.std.proofs.Common.{refl, sym, subst}
use Rattle.fs_model.specs.Names.{Path}
use Rattle.upgraded.specs.Upgrades.{DisablesByMode, TransfersByMode}
use Rattle.relation_map.specs.Pairs.{entries_of}
use Rattle.plan_build.proofs.Carriable.{plan_can_be_carried}
use Rattle.plan_facts.proofs.Plan.{is_plan}
use Rattle.phase_frames.proofs.Steps.{copied_framed}
use Rattle.phases.specs.Faults.{IsNoChange}
use Rattle.transfer_plan.specs.Carriable.{targets}
use Rattle.phase_facts.proofs.Standing.{copies_keep}
use Rattle.phases.proofs.Regions.{regions_stay}
use Rattle.phases.proofs.Linked.{copied_links}
use Rattle.phases.proofs.Disabling.{decided_no_change}
use Rattle.phase_facts.specs.Held.{Held}
use Rattle.phase_facts.proofs.Transferred.{copied_held}
use Rattle.phases.specs.Begun.{stage_of}
use Rattle.phases.proofs.statused.Statused.copy.Goals as goal

pub returns-in-Ok-clause-fact : goal.returns-in-Ok-clause-fact
returns-in-Ok-clause-fact g c told read opening fact =
    let job = c.args.self.job in
    let old = g.F.Fs.trail c.args.fs.now in
    let new = g.F.Fs.trail c.copy_all.new.fs in
    let catalog = c.args.self.catalog in
    let plan = c.args.self.prepared.plan in
    let valid = fact.status.opened.can.valid in
    let can_carry = plan_can_be_carried old.present (entries_of job catalog catalog) plan fact.planned in
    record {
      held = subst (λ mode. Held job (stage_of mode) opening new) (sym c.requires.mode) (copied_held job c.args.self.prepared.plan opening old new fact.inside fact.held (c.copy_all.ensures.calls told));
      links = λ settled. copied_links job opening old new (fact.links settled) (targets plan) (c.copy_all.ensures.calls told);
      transfers = record {
        counted = old.present;
        status = fact.status;
        disabled = old.present;
        plan = is_plan job catalog old.present plan valid fact.planned;
        apart = can_carry.apart;
        disables = subst (λ mode. DisablesByMode mode job old.present old.present) (sym c.requires.mode) refl;
        files = subst (λ mode. TransfersByMode mode plan old.present new.present) (sym c.requires.mode) (record { only = (c.copy_all.ensures.frame told).present; carried = c.in-Ok.ensures.carried told can_carry });
      };
      regions = regions_stay catalog old new (copies_keep (targets plan) old new (c.copy_all.ensures.calls told)) fact.regions;
      places = fact.places;
    }

pub returns-in-Ok-clause-safe : goal.returns-in-Ok-clause-safe
returns-in-Ok-clause-safe g c told read opening fact =
    (copied_held c.args.self.job c.args.self.prepared.plan opening (g.F.Fs.trail c.args.fs.now) (g.F.Fs.trail c.copy_all.new.fs) fact.inside fact.held (c.copy_all.ensures.calls told)).safe

pub returns-in-Err-clause-safe : goal.returns-in-Err-clause-safe
returns-in-Err-clause-safe g c told read opening fact =
    (copied_held c.args.self.job c.args.self.prepared.plan opening (g.F.Fs.trail c.args.fs.now) (g.F.Fs.trail c.copy_all.new.fs) fact.inside fact.held (c.copy_all.ensures.calls told)).safe

pub returns-in-Err-clause-unrefused : goal.returns-in-Err-clause-unrefused
returns-in-Err-clause-unrefused g c told read opening fact =
    let job = c.args.self.job in
    let catalog = c.args.self.catalog in
    let old = g.F.Fs.trail c.args.fs.now in
    subst IsNoChange (sym c.files_fault.ensures)
    (decided_no_change Path job.new c.in-Err.error (c.in-Err.ensures.unrefused told (plan_can_be_carried old.present (entries_of job catalog catalog) c.args.self.prepared.plan fact.planned)))

pub returns-in-Ok-clause-frame : goal.returns-in-Ok-clause-frame
returns-in-Ok-clause-frame g c told read opening fact framed =
    copied_framed c.args.self.job c.args.self.prepared.plan opening (g.F.Fs.trail c.args.fs.now) (g.F.Fs.trail c.copy_all.new.fs) fact.held.begins fact.inside framed (c.copy_all.ensures.calls told)

pub returns-in-Err-clause-frame : goal.returns-in-Err-clause-frame
returns-in-Err-clause-frame g c told read opening fact framed =
    copied_framed c.args.self.job c.args.self.prepared.plan opening (g.F.Fs.trail c.args.fs.now) (g.F.Fs.trail c.copy_all.new.fs) fact.held.begins fact.inside framed (c.copy_all.ensures.calls told)

pub returns-in-Ok-clause-links : goal.returns-in-Ok-clause-links
returns-in-Ok-clause-links g c told read opening fact settled =
    copied_links c.args.self.job opening (g.F.Fs.trail c.args.fs.now) (g.F.Fs.trail c.copy_all.new.fs) (fact.links settled) (targets c.args.self.prepared.plan) (c.copy_all.ensures.calls told)

pub returns-in-Err-clause-links : goal.returns-in-Err-clause-links
returns-in-Err-clause-links g c told read opening fact settled =
    copied_links c.args.self.job opening (g.F.Fs.trail c.args.fs.now) (g.F.Fs.trail c.copy_all.new.fs) (fact.links settled) (targets c.args.self.prepared.plan) (c.copy_all.ensures.calls told)
