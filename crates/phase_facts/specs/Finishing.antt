-- The last phase: what it is given, and what it leaves.
use Rattle.std.specs.Prelude.{◌≡◌, ◌++◌, [], ◌∷◌, Some}
use Rattle.std.specs.List.{AllByRecursion}
use Rattle.std.specs.FinMap.{get}
use Rattle.fs_model.specs.declared.node.Node.TheVariants.{Dir}
use Rattle.fs_model.specs.State.{FsState}
use Rattle.fs_model.specs.Crash.{Settled}
use Rattle.fs_model.specs.Trail.{Trail, Since, EachCrash}
use Rattle.control_file.specs.declared.job.Job.{Job}
use Rattle.control_file.specs.declared.releases.Release.TheVariants.{V16}
use Rattle.control_file.specs.Version.{dir_name_of}
use Rattle.catalog.specs.Cluster.{Cluster}
use Rattle.crash_safety.specs.Sound.{IsSound}
use Rattle.crash_safety.specs.Crashes.{IsSafe}
use Rattle.crash_safety.specs.Lasting.{Lasts, IsOffDisk}
use Rattle.crash_safety.specs.Places.{control_at, tops_at}
use Rattle.last_sync.specs.declared.places.Places.{Places}
use Rattle.last_sync.specs.Finished.{IsMarkedAs}
use Rattle.phase_facts.specs.Places.{upgrade_in, mark_at, locations_of}

-- The last sync is of the new cluster's root and its directory at each of the catalog's locations, and the mark is its own.
pub record AreEndPlaces (job : Job) (catalog : Cluster) (places : Places) : Type 0 where
  pub tops : places.tops.items ≡ tops_at (locations_of catalog.tablespaces) (dir_name_of V16) job.new
  pub holders : places.holders.items ≡ locations_of catalog.tablespaces
  pub mark : places.mark ≡ mark_at job.new

-- the new release's directory stands at each of the catalog's locations
abbrev pub HasRegions : Cluster → FsState → Type 0
HasRegions catalog s = AllByRecursion (λ location. get s.names (location ++ dir_name_of V16 ∷ []) ≡ Some Dir) (locations_of catalog.tablespaces)

-- In x the old cluster is as it was, and where the mark stands all else is as in s.
abbrev pub IsMarkedSafe : Job → FsState → FsState → FsState → Type 0
IsMarkedSafe job start s x = IsSafe (upgrade_in job start) x × IsMarkedAs (mark_at job.new) s x

-- What the last phase leaves, whatever it answers: in every crash since the opening the mark is missing, or all else is as it was before the
-- phase.
pub record IsMarkedSince (job : Job) (opening before now : Trail) : Type 0 where
  pub each : Settled opening.present → EachCrash (IsMarkedSafe job opening.present before.present) opening now
  pub sound : Settled opening.present → Since (IsSound (upgrade_in job opening.present)) opening now
  -- once the rename of the old control file is on the disk it is so in every later state
  pub lasts : Settled opening.present → Lasts (IsOffDisk (control_at job.old)) opening now
