-- How the phases behind the checks end.
use Rattle.std.specs.Prelude.{◌≡◌, ◌⊎◌, ◌-◌, ◌^◌, true, min, length, Ok, Some, None}
use Rattle.std.specs.FinMap.{get}
use Rattle.fs_model.specs.declared.effect.Effect.{Effect}
use Rattle.fs_model.specs.declared.error.FsError.TheVariants.{OutOfMemory}
use Rattle.fs_model.specs.State.{FsState}
use Rattle.fs_model.specs.Calls.{Renames, Does}
use Rattle.fs_model.specs.Crash.{Settled}
use Rattle.fs_model.specs.Effects.{apply}
use Rattle.fs_model.specs.Trail.{Trail, Counts, EachCrash}
use Rattle.control_file.specs.declared.job.Job.{Job}
use Rattle.control_file.specs.declared.releases.Release.TheVariants.{V15}
use Rattle.crash_safety.specs.Crashes.{AsBefore}
use Rattle.crash_safety.specs.Places.{control_at, disabled_at}
use Rattle.catalog.specs.Cluster.{Cluster}
use Rattle.catalog_server.specs.Profile.{profile_of}
use Rattle.upgraded.specs.Upgraded.{ReadsCatalog, Upgraded}
use Rattle.phase_names.specs.declared.summary.Summary.{Summary}
use Rattle.phase_facts.specs.Held.{CrashFacts}
use Rattle.phases.specs.Summing.{tables_in, IsCarriedNumber}
use Rattle.last_sync.specs.Finished.{IsFileAt}
use Rattle.phase_facts.specs.Places.{disables, upgrade_in, mark_at}
use Rattle.phase_names.specs.declared.names.PhaseName.TheVariants.{Restore}
use Rattle.phases.specs.declared.error.PhaseError.{PhaseError}
use Rattle.phases.specs.declared.error.PhaseFault.{PhaseFault}
use Rattle.phases.specs.declared.error.PhaseFault.TheVariants as fault
use Rattle.phases.specs.Faults.{files_error, IsInCluster}
use Rattle.verdicts.specs.declared.verdict.Verdict.{Verdict}
use Rattle.verdicts.specs.Verdicts.{IsVerdict, IsSafeVerdict}
use Rattle.upgrade_run.specs.Causes.{IsLater, LackRose}

-- a server fails in Restore alone
abbrev pub ServerFailsIn : PhaseError → PhaseFault → Type 0
ServerFailsIn error fault.Server = error.at ≡ Restore
ServerFailsIn error kind = Unit {0}

-- a step behind the checks ended early, in a phase of this mode, and what changed is in one of the two clusters
pub record IsFailedIn (job : Job) (error : PhaseError) : Type 0 where
  pub phase : IsLater job.mode error.at
  pub place : IsInCluster job error.kind
  pub server : ServerFailsIn error error.kind

-- a want of memory of a phase that takes none was counted
abbrev pub IsLackCounted : Counts → Counts → PhaseError → Type 0
IsLackCounted before now error = files_error (Some error.kind) ≡ Some OutOfMemory → LackRose error.at before now

-- The new cluster of x is the old one of s, upgraded, with the catalog that a server reads from the old one.
pub record IsUpgraded (read : ReadsCatalog) (job : Job) (s x : FsState) : Type 0 where
  pub catalog : Cluster
  pub reading : read job.old V15 (profile_of s job.old) ≡ Ok catalog
  pub upgraded : Upgraded read job catalog s x

-- x has no mark, or an upgraded cluster
abbrev pub ShowsUpgraded : ReadsCatalog → Job → FsState → FsState → Type 0
ShowsUpgraded read job s x = (get x.names (mark_at job.new) ≡ None) ⊎ IsUpgraded read job s x

-- A report on x says neither that files are shared though the old cluster's control file stands, nor that it has none: the old cluster can be
-- used, at once or once that file is named back, or the upgrade is finished. In an upgrade that links, naming it back gives the old
-- cluster the names, nodes and bytes of the start s.
pub record CanGoBack (job : Job) (s x : FsState) : Type 0 where
  pub verdict : (verdict : Verdict) → IsVerdict x job.old job.new verdict → IsSafeVerdict verdict
  pub named_back : disables job.mode ≡ true → (effect : Effect) → Does x (Renames (disabled_at job.old) (control_at job.old)) effect → AsBefore s (upgrade_in job s).old_tops (apply x effect)

-- Every crash since the opening leaves the old cluster, one that shows the mark shows an upgraded cluster, and after each one can go back
-- to the old cluster or has the new one.
pub record CrashesSafely (read : ReadsCatalog) (job : Job) (opening now : Trail) : Type 0 where
  pub old : CrashFacts job opening now
  pub marked : EachCrash (ShowsUpgraded read job opening.present) opening now
  pub reported : EachCrash (CanGoBack job opening.present) opening now

-- All is on the disk, if it was at the start s, the mark says so in x, the new cluster is the old one, upgraded, and the summary
-- counts its databases and tables, and the files of its relations that are carried from s.
pub record EndsFinished (read : ReadsCatalog) (job : Job) (s x : FsState) (summary : Summary) : Type 0 where
  pub settled : Settled s → Settled x
  pub marked : IsFileAt x (mark_at job.new)
  pub is_upgraded : IsUpgraded read job s x
  pub databases : summary.databases ≡ length is_upgraded.catalog.databases
  pub tables : summary.tables ≡ min (tables_in is_upgraded.catalog.databases) (2 ^ 64 - 1)
  pub files : IsCarriedNumber job is_upgraded.catalog s summary.files
