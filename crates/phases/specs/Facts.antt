-- The fact of each phase: what holds of the states since the opening.
use Rattle.std.specs.Prelude.{◌≡◌}
use Rattle.fs_model.specs.State.{FsState}
use Rattle.fs_model.specs.Crash.{Settled}
use Rattle.fs_model.specs.Trail.{Trail, Since, Unchanged}
use Rattle.control_file.specs.declared.job.Job.{Job}
use Rattle.control_file.specs.declared.modes.Mode.TheVariants.{Link}
use Rattle.crash_safety.specs.Lacks.{Lacks}
use Rattle.crash_safety.specs.Places.{control_at, disabled_at}
use Rattle.crash_safety.specs.Sound.{Whole, Moved}
use Rattle.disable_old.specs.declared.permit.ControlPaths.{ControlPaths}
use Rattle.last_sync.specs.Finished.{IsFileAt}
use Rattle.transfer_plan.specs.Carriable.{CanBeCarried}
use Rattle.relation_map.specs.Pairs.{entries_of}
use Rattle.plan_build.specs.Plannable.{IsPlanOf}
use Rattle.verdicts.specs.Crashed.{MakesKnownLinks}
use Rattle.upgraded.specs.Upgraded.{ReadsCatalog, Upgraded}
use Rattle.upgraded.specs.Upgrades.{RestoresSchema, Disables}
use Rattle.phase_facts.specs.Held.{Held}
use Rattle.phase_facts.specs.Plans.{IsPlanIn}
use Rattle.phase_facts.specs.Finishing.{AreEndPlaces, HasRegions}
use Rattle.phase_facts.specs.Places.{mark_at}
use Rattle.plan_devices.specs.Kept.{KeepsDevices}
use Rattle.phases.specs.declared.checked.Checked.{Checked}
use Rattle.phases.specs.declared.restored.Restored.{Restored}
use Rattle.phases.specs.declared.statused.Statused.{Statused}
use Rattle.phases.specs.declared.disabled.Disabled.{Disabled}
use Rattle.phases.specs.declared.transferred.Transferred.{Transferred}
use Rattle.phases.specs.declared.finished.Finished.{Finished}
use Rattle.phases.specs.Begun.{IsOpened, HasStatus, HasTransferred, stage_of}
use Rattle.phases.specs.Summing.{ListsCarried}

-- Nothing has changed since the checks.
pub record IsChecked (read : ReadsCatalog) (phase : Checked) (opening now : Trail) : Type 0 where
  pub opened : IsOpened read phase.job phase.passed.old_catalog phase.passed.old_control phase.passed.new_record opening.present
  pub held : Held phase.job Whole opening now
  pub unchanged : Unchanged opening now

-- In every state since the opening, the tablespace links that the new cluster has, or will have once they are on the disk, lead to
-- locations that the old one had then.
abbrev pub LinksKnownSince : Job → Trail → Trail → Type 0
LinksKnownSince job opening now = Since (MakesKnownLinks opening.present.names job.old job.new) opening now

-- The new cluster has the old one's schema.
pub record IsRestored (read : ReadsCatalog) (phase : Restored) (opening now : Trail) : Type 0 where
  pub opened : IsOpened read phase.job phase.passed.old_catalog phase.passed.old_control phase.passed.new_record opening.present
  pub held : Held phase.job Whole opening now
  pub links : Settled opening.present → LinksKnownSince phase.job opening now
  pub schema : RestoresSchema read phase.job phase.passed.old_catalog opening.present now.present
  -- also of the directories that were made
  pub devices : KeepsDevices opening.present now.present
  pub same : phase.new_catalog ≡ phase.passed.old_catalog

-- the paths are those of the old cluster's control file
pub record AreControlPaths (job : Job) (paths : ControlPaths) : Type 0 where
  pub control : paths.control ≡ control_at job.old
  pub renamed : paths.renamed ≡ disabled_at job.old

-- The new cluster has the old one's status of transactions and its counters.
pub record IsStatused (read : ReadsCatalog) (phase : Statused) (opening now : Trail) : Type 0 where
  pub held : Held phase.job Whole opening now
  pub links : Settled opening.present → LinksKnownSince phase.job opening now
  pub status : HasStatus read phase.job phase.catalog opening.present now.present
  pub devices : KeepsDevices opening.present now.present
  pub planned : IsPlanOf now.present (entries_of phase.job phase.catalog phase.catalog) phase.prepared.plan
  pub inside : IsPlanIn phase.job opening.present phase.prepared.plan
  pub regions : HasRegions phase.catalog now.present
  pub paths : AreControlPaths phase.job phase.prepared.control
  pub places : AreEndPlaces phase.job phase.catalog phase.prepared.places

-- The old cluster is disabled, and no crash undoes it.
pub record IsDisabled (read : ReadsCatalog) (phase : Disabled) (opening now : Trail) : Type 0 where
  pub held : Held phase.job Moved opening now
  pub links : Settled opening.present → LinksKnownSince phase.job opening now
  pub mode : phase.job.mode ≡ Link
  pub counted : FsState
  pub status : HasStatus read phase.job phase.catalog opening.present counted
  pub disables : Disables phase.job counted now.present
  pub devices : KeepsDevices opening.present now.present
  pub permit : phase.permit ≡ control_at phase.job.old
  pub lacks : Lacks (control_at phase.job.old) now.present
  pub planned : IsPlanOf counted (entries_of phase.job phase.catalog phase.catalog) phase.plan
  pub can_carry : CanBeCarried now.present.names phase.plan
  pub inside : IsPlanIn phase.job opening.present phase.plan
  pub regions : HasRegions phase.catalog now.present
  pub places : AreEndPlaces phase.job phase.catalog phase.places

-- The new cluster has the relation files.
pub record IsTransferred (read : ReadsCatalog) (phase : Transferred) (opening now : Trail) : Type 0 where
  pub held : Held phase.job (stage_of phase.job.mode) opening now
  pub links : Settled opening.present → LinksKnownSince phase.job opening now
  pub transfers : HasTransferred read phase.job phase.catalog phase.plan opening.present now.present
  pub regions : HasRegions phase.catalog now.present
  pub places : AreEndPlaces phase.job phase.catalog phase.places

-- All is on the disk, and the mark stands.
pub record IsFinished (read : ReadsCatalog) (phase : Finished) (opening now : Trail) : Type 0 where
  pub upgraded : Upgraded read phase.job phase.catalog opening.present now.present
  pub carried : ListsCarried phase.job phase.catalog opening.present phase.plan
  pub settled : Settled opening.present → Settled now.present
  pub marked : IsFileAt now.present (mark_at phase.job.new)
