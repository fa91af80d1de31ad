use Rattle.std.proofs.Common.{◌∙◌, refl, sym, subst, ap}
use Rattle.crash_safety.specs.Sound.{Moved, Sound, IsSound}
use Rattle.crash_safety.specs.Lasting.{Lasts, IsOffDisk}
use Rattle.crash_safety.specs.Places.{control_at, disabled_at}
use Rattle.fs_model.specs.Names.{Path, parent}
use Rattle.fs_model.specs.Trail.{Since}
use Rattle.phase_facts.proofs.Permitted.{disabled_lacks}
use Rattle.phase_facts.proofs.Spared.{still_carried}
use Rattle.relation_map.specs.Pairs.{entries_of}
use Rattle.plan_build.proofs.Carriable.{plan_can_be_carried}
use Rattle.phase_frames.proofs.Moves.{disabled_framed}
use Rattle.phases.specs.Faults.{IsNoChange}
use Rattle.phase_facts.proofs.Disabled.{rename_free, disabling_safe, disabled_held}
use Rattle.phase_facts.proofs.Standing.{disabling_keeps}
use Rattle.phases.proofs.Devices.{devices_stay}
use Rattle.phases.proofs.Regions.{regions_stay}
use Rattle.phases.proofs.Linked.{disabled_links}
use Rattle.phases.proofs.Disabling.{free_of, goes_of, renamed_of, each_of, decided_no_change, link_disables, disabled_bytes}
use Rattle.phases.proofs.statused.Statused.disable.Goals as goal

pub disable-requires : goal.disable-requires
disable-requires g c told =
    let (read, opening, fact) = c.requires.fact told in
    let paths = c.args.self.prepared.control in
    let job = c.args.self.job in
    free_of paths.control paths.renamed paths.dir (control_at job.old) (disabled_at job.old) (parent (control_at job.old)) fact.paths.control fact.paths.renamed (paths.together ∙ ap parent fact.paths.control)
    (g.F.Fs.trail c.args.fs.now).present (rename_free job opening (g.F.Fs.trail c.args.fs.now) (link_disables job c.requires.mode) fact.held)

pub returns-in-Ok-clause-fact : goal.returns-in-Ok-clause-fact
returns-in-Ok-clause-fact g c told read opening fact =
    let job = c.args.self.job in
    let paths = c.args.self.prepared.control in
    let old = g.F.Fs.trail c.args.fs.now in
    let new = g.F.Fs.trail c.disable.new.fs in
    let control = control_at job.old in
    let renamed = disabled_at job.old in
    let is_dir = paths.together ∙ ap parent fact.paths.control in
    let disabling = link_disables job c.requires.mode in
    let goes = goes_of paths.control paths.renamed paths.dir control renamed (parent control) fact.paths.control fact.paths.renamed is_dir old new (c.disable.ensures.calls told) in
    let done = renamed_of paths.control paths.renamed paths.dir control renamed (parent control) fact.paths.control fact.paths.renamed is_dir old.present new.present (c.in-Ok.ensures.renamed told) in
    let free = rename_free job opening old disabling fact.held in
    record {
      held = disabled_held job opening old new disabling fact.held (parent control)
          (each_of paths.control paths.renamed paths.dir control renamed (parent control) fact.paths.control fact.paths.renamed is_dir old.present (λ u. Since (IsSound u) old new) (c.disable.ensures.sound told))
          (each_of paths.control paths.renamed paths.dir control renamed (parent control) fact.paths.control fact.paths.renamed is_dir old.present (λ u. Lasts (IsOffDisk u.control) old new) (c.disable.ensures.lasts told))
          goes
          (each_of paths.control paths.renamed paths.dir control renamed (parent control) fact.paths.control fact.paths.renamed is_dir old.present (λ u. Sound u Moved new.present) (c.in-Ok.ensures.moved told))
          done;
      links = λ settled. disabled_links job opening old new (fact.links settled) paths.control paths.renamed paths.dir (c.disable.ensures.calls told);
      mode = c.requires.mode;
      counted = old.present;
      status = fact.status;
      disables = record { renamed = done; bytes = disabled_bytes control renamed (parent control) old new goes };
      devices = devices_stay job opening old new fact.held.begins fact.devices (disabling_keeps control renamed (parent control) old new goes);
      permit = c.in-Ok.ensures.permit ∙ fact.paths.control;
      lacks = disabled_lacks control renamed (parent control) old new refl (c.moment.ensures.well_formed told) free goes done;
      planned = fact.planned;
      can_carry = still_carried job opening.present fact.held.begins c.args.self.prepared.plan fact.inside (parent control) old new goes (plan_can_be_carried old.present (entries_of job c.args.self.catalog c.args.self.catalog) c.args.self.prepared.plan fact.planned);
      inside = fact.inside;
      regions = regions_stay c.args.self.catalog old new (disabling_keeps control renamed (parent control) old new goes) fact.regions;
      places = fact.places;
    }

pub returns-in-Ok-clause-safe : goal.returns-in-Ok-clause-safe
returns-in-Ok-clause-safe g c told read opening fact =
    let job = c.args.self.job in
    let paths = c.args.self.prepared.control in
    let old = g.F.Fs.trail c.args.fs.now in
    let new = g.F.Fs.trail c.disable.new.fs in
    let control = control_at job.old in
    let renamed = disabled_at job.old in
    let is_dir = paths.together ∙ ap parent fact.paths.control in
    disabling_safe job opening old new (link_disables job c.requires.mode) fact.held (parent control)
    (each_of paths.control paths.renamed paths.dir control renamed (parent control) fact.paths.control fact.paths.renamed is_dir old.present (λ u. Since (IsSound u) old new) (c.disable.ensures.sound told))
    (each_of paths.control paths.renamed paths.dir control renamed (parent control) fact.paths.control fact.paths.renamed is_dir old.present (λ u. Lasts (IsOffDisk u.control) old new) (c.disable.ensures.lasts told))
    (goes_of paths.control paths.renamed paths.dir control renamed (parent control) fact.paths.control fact.paths.renamed is_dir old new (c.disable.ensures.calls told))

pub returns-in-Err-clause-safe : goal.returns-in-Err-clause-safe
returns-in-Err-clause-safe g c told read opening fact =
    let job = c.args.self.job in
    let paths = c.args.self.prepared.control in
    let old = g.F.Fs.trail c.args.fs.now in
    let new = g.F.Fs.trail c.disable.new.fs in
    let control = control_at job.old in
    let renamed = disabled_at job.old in
    let is_dir = paths.together ∙ ap parent fact.paths.control in
    disabling_safe job opening old new (link_disables job c.requires.mode) fact.held (parent control)
    (each_of paths.control paths.renamed paths.dir control renamed (parent control) fact.paths.control fact.paths.renamed is_dir old.present (λ u. Since (IsSound u) old new) (c.disable.ensures.sound told))
    (each_of paths.control paths.renamed paths.dir control renamed (parent control) fact.paths.control fact.paths.renamed is_dir old.present (λ u. Lasts (IsOffDisk u.control) old new) (c.disable.ensures.lasts told))
    (goes_of paths.control paths.renamed paths.dir control renamed (parent control) fact.paths.control fact.paths.renamed is_dir old new (c.disable.ensures.calls told))

pub returns-in-Err-clause-unrefused : goal.returns-in-Err-clause-unrefused
returns-in-Err-clause-unrefused g c told =
    subst IsNoChange (sym c.files_fault.ensures) (decided_no_change Path c.args.self.job.old c.in-Err.error (c.in-Err.ensures.decided told))

pub returns-in-Ok-clause-frame : goal.returns-in-Ok-clause-frame
returns-in-Ok-clause-frame g c told read opening fact framed =
    let job = c.args.self.job in
    let paths = c.args.self.prepared.control in
    let old = g.F.Fs.trail c.args.fs.now in
    let new = g.F.Fs.trail c.disable.new.fs in
    let is_dir = paths.together ∙ ap parent fact.paths.control in
    disabled_framed job opening old new fact.held.begins (link_disables job c.requires.mode) framed (parent (control_at job.old))
    (goes_of paths.control paths.renamed paths.dir (control_at job.old) (disabled_at job.old) (parent (control_at job.old)) fact.paths.control fact.paths.renamed is_dir old new (c.disable.ensures.calls told))

pub returns-in-Err-clause-frame : goal.returns-in-Err-clause-frame
returns-in-Err-clause-frame g c told read opening fact framed =
    let job = c.args.self.job in
    let paths = c.args.self.prepared.control in
    let old = g.F.Fs.trail c.args.fs.now in
    let new = g.F.Fs.trail c.disable.new.fs in
    let is_dir = paths.together ∙ ap parent fact.paths.control in
    disabled_framed job opening old new fact.held.begins (link_disables job c.requires.mode) framed (parent (control_at job.old))
    (goes_of paths.control paths.renamed paths.dir (control_at job.old) (disabled_at job.old) (parent (control_at job.old)) fact.paths.control fact.paths.renamed is_dir old new (c.disable.ensures.calls told))

pub returns-in-Ok-clause-links : goal.returns-in-Ok-clause-links
returns-in-Ok-clause-links g c told read opening fact settled =
    let paths = c.args.self.prepared.control in
    disabled_links c.args.self.job opening (g.F.Fs.trail c.args.fs.now) (g.F.Fs.trail c.disable.new.fs) (fact.links settled) paths.control paths.renamed paths.dir (c.disable.ensures.calls told)

pub returns-in-Err-clause-links : goal.returns-in-Err-clause-links
returns-in-Err-clause-links g c told read opening fact settled =
    let paths = c.args.self.prepared.control in
    disabled_links c.args.self.job opening (g.F.Fs.trail c.args.fs.now) (g.F.Fs.trail c.disable.new.fs) (fact.links settled) paths.control paths.renamed paths.dir (c.disable.ensures.calls told)
