use Rattle.std.proofs.Common.{◌∙◌, sym, subst}
use Rattle.fs_model.specs.State.{FsState}
use Rattle.catalog.specs.Cluster.{Cluster, started}
use Rattle.control_file.specs.declared.releases.Release.TheVariants.{V16}
use Rattle.catalog_server.specs.ReplayNames.{listed_names, new_names}
use Rattle.new_names.specs.Room.{HasRoomFor}
use Rattle.phase_frames.proofs.Steps.{restored_framed}
use Rattle.phases.specs.Faults.{IsInCluster, IsNoChange}
use Rattle.new_names.specs.Frame.{MakesOnly}
use Rattle.new_names.proofs.Runs.{goes_make_only}
use Rattle.phase_facts.specs.CanUpgrade.{AreRead}
use Rattle.phase_facts.proofs.Restored.{restored_held}
use Rattle.phase_facts.proofs.Standing.{replay_keeps}
use Rattle.phases.proofs.Devices.{devices_begun}
use Rattle.phases.proofs.Restoring.{fault_in_cluster, fault_no_change}
use Rattle.phases.proofs.Linking.{opening_known}
use Rattle.phases.proofs.Linked.{restored_links}
use Rattle.phases.proofs.checked.Checked.restore.Goals as goal

pub returns-in-Ok-clause-fact : goal.returns-in-Ok-clause-fact
returns-in-Ok-clause-fact g c told opening fact =
    let job = c.args.self.job in
    let catalog = c.args.self.passed.old_catalog in
    let old = g.F.Fs.trail c.args.fs.now in
    let new = g.F.Fs.trail c.carry_schema-carried.new.fs in
    let read = subst (AreRead g.S.Server.catalog_of job catalog) (sym fact.unchanged.present) fact.opened.reading in
    let listed = listed_names job.new V16 (started catalog.bootstrap) catalog in
    let goes = c.carry_schema-carried.ensures.calls told read.old read.new in
    record {
      opened = fact.opened;
      held = restored_held job catalog (started catalog.bootstrap) c.args.self.passed.new_record opening old new fact.opened.can goes fact.held;
      links = λ settled. restored_links job catalog c.args.self.passed.new_record opening old new fact.opened.can (opening_known job opening old fact.opened.unlinked settled fact.unchanged) goes;
      schema = record {
        only = subst (λ (s : FsState). MakesOnly listed s new.present) fact.unchanged.present (goes_make_only listed old new goes).present;
        all = c.in-Ok.ensures.made told read.old read.new;
        reading = c.in-Ok.ensures.carried told;
        well_formed = c.moment.ensures.well_formed (c.carry_schema-carried.ensures.told ∙ told);
      };
      devices = devices_begun job opening old new fact.opened.can.begins fact.unchanged.present (replay_keeps listed old new goes);
      same = c.in-Ok.ensures.equal;
    }

pub returns-in-Ok-clause-safe : goal.returns-in-Ok-clause-safe
returns-in-Ok-clause-safe g c told opening fact =
    let job = c.args.self.job in
    let catalog = c.args.self.passed.old_catalog in
    let read = subst (AreRead g.S.Server.catalog_of job catalog) (sym fact.unchanged.present) fact.opened.reading in
    (restored_held job catalog (started catalog.bootstrap) c.args.self.passed.new_record opening (g.F.Fs.trail c.args.fs.now) (g.F.Fs.trail c.carry_schema-carried.new.fs) fact.opened.can (c.carry_schema-carried.ensures.calls told read.old read.new) fact.held).safe

pub returns-in-Err-clause-safe : goal.returns-in-Err-clause-safe
returns-in-Err-clause-safe g c told opening fact =
    let job = c.args.self.job in
    let catalog = c.args.self.passed.old_catalog in
    let read = subst (AreRead g.S.Server.catalog_of job catalog) (sym fact.unchanged.present) fact.opened.reading in
    (restored_held job catalog (started catalog.bootstrap) c.args.self.passed.new_record opening (g.F.Fs.trail c.args.fs.now) (g.F.Fs.trail c.carry_schema-carried.new.fs) fact.opened.can (c.carry_schema-carried.ensures.calls told read.old read.new) fact.held).safe

pub returns-in-Err-clause-unrefused : goal.returns-in-Err-clause-unrefused
returns-in-Err-clause-unrefused g c told opening fact =
    let job = c.args.self.job in
    let catalog = c.args.self.passed.old_catalog in
    let read = subst (AreRead g.S.Server.catalog_of job catalog) (sym fact.unchanged.present) fact.opened.reading in
    let room = subst (λ (s : FsState). HasRoomFor s (new_names job.new V16 (started catalog.bootstrap) catalog)) (sym fact.unchanged.present) fact.opened.can.room in
    subst IsNoChange (sym c.restore_fault.ensures) (fault_no_change Cluster job c.in-Err.error (c.in-Err.ensures.unrefused told read.old read.new room) (c.in-Err.ensures.unchanged_catalogs told read.old read.new))

pub returns-in-Err-clause-fault : goal.returns-in-Err-clause-fault
returns-in-Err-clause-fault g c = subst (IsInCluster c.args.self.job) (sym c.restore_fault.ensures) (fault_in_cluster c.args.self.job c.in-Err.error)

pub returns-in-Ok-clause-frame : goal.returns-in-Ok-clause-frame
returns-in-Ok-clause-frame g c told opening fact framed =
    let job = c.args.self.job in
    let catalog = c.args.self.passed.old_catalog in
    let read = subst (AreRead g.S.Server.catalog_of job catalog) (sym fact.unchanged.present) fact.opened.reading in
    restored_framed job catalog (started catalog.bootstrap) c.args.self.passed.new_record opening (g.F.Fs.trail c.args.fs.now) (g.F.Fs.trail c.carry_schema-carried.new.fs) fact.opened.can framed (c.carry_schema-carried.ensures.calls told read.old read.new)

pub returns-in-Err-clause-frame : goal.returns-in-Err-clause-frame
returns-in-Err-clause-frame g c told opening fact framed =
    let job = c.args.self.job in
    let catalog = c.args.self.passed.old_catalog in
    let read = subst (AreRead g.S.Server.catalog_of job catalog) (sym fact.unchanged.present) fact.opened.reading in
    restored_framed job catalog (started catalog.bootstrap) c.args.self.passed.new_record opening (g.F.Fs.trail c.args.fs.now) (g.F.Fs.trail c.carry_schema-carried.new.fs) fact.opened.can framed (c.carry_schema-carried.ensures.calls told read.old read.new)

pub returns-in-Ok-clause-links : goal.returns-in-Ok-clause-links
returns-in-Ok-clause-links g c told opening fact settled =
    let job = c.args.self.job in
    let catalog = c.args.self.passed.old_catalog in
    let old = g.F.Fs.trail c.args.fs.now in
    let read = subst (AreRead g.S.Server.catalog_of job catalog) (sym fact.unchanged.present) fact.opened.reading in
    restored_links job catalog c.args.self.passed.new_record opening old (g.F.Fs.trail c.carry_schema-carried.new.fs) fact.opened.can (opening_known job opening old fact.opened.unlinked settled fact.unchanged)
    (c.carry_schema-carried.ensures.calls told read.old read.new)

pub returns-in-Err-clause-links : goal.returns-in-Err-clause-links
returns-in-Err-clause-links g c told opening fact settled =
    let job = c.args.self.job in
    let catalog = c.args.self.passed.old_catalog in
    let old = g.F.Fs.trail c.args.fs.now in
    let read = subst (AreRead g.S.Server.catalog_of job catalog) (sym fact.unchanged.present) fact.opened.reading in
    restored_links job catalog c.args.self.passed.new_record opening old (g.F.Fs.trail c.carry_schema-carried.new.fs) fact.opened.can (opening_known job opening old fact.opened.unlinked settled fact.unchanged)
    (c.carry_schema-carried.ensures.calls told read.old read.new)
