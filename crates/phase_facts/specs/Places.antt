-- The places of the upgrade that a job asks for.
use Rattle.std.specs.Prelude.{◌≡◌, ◌++◌, Bool, true, false, nat_eq, if◌then◌else◌, List, [], ◌∷◌, map, codes}
use Rattle.fs_model.specs.Names.{Path, parent}
use Rattle.fs_model.specs.State.{FsState}
use Rattle.fs_model.specs.Calls.{is_root}
use Rattle.control_file.specs.declared.job.Job.{Job}
use Rattle.control_file.specs.declared.modes.Mode.{Mode}
use Rattle.control_file.specs.declared.modes.Mode.TheVariants.{Copy, Link}
use Rattle.control_file.specs.declared.releases.Release.{Release}
use Rattle.control_file.specs.declared.releases.Release.TheVariants.{V15, V16}
use Rattle.control_file.specs.Version.{dir_name_of}
use Rattle.catalog.specs.declared.owners.Tablespace.{Tablespace}
use Rattle.catalog.specs.Cluster.{Cluster, default_tablespace}
use Rattle.relation_files.specs.Places.{Site}
use Rattle.crash_safety.specs.Frame.{IsInside, IsOutside}
use Rattle.crash_safety.specs.Synced.{IsHeld}
use Rattle.crash_safety.specs.Upgrade.{Upgrade}
use Rattle.crash_safety.specs.Places.{control_at, locations, upgrade_of}
use Rattle.catalog_server.specs.ReplayNames.{base_path}

-- an upgrade that links disables the old cluster
abbrev pub disables : Mode → Bool
disables Copy = false
disables Link = true

-- the upgrade that a job asks for, from a state
abbrev pub upgrade_in : Job → FsState → Upgrade
upgrade_in job s = upgrade_of s job.old job.new (dir_name_of V15) (dir_name_of V16) (disables job.mode)

-- the file that says that an upgrade ended
abbrev pub mark_at : Path → Path
mark_at root = root ++ codes "pg_profile" ∷ codes "done" ∷ []

-- the locations of the old cluster's tablespaces, as a state has them
abbrev pub holders_in : Job → FsState → List Path
holders_in job s = locations s.names job.old

-- the locations of a catalog's tablespaces but `pg_default`, in its order
abbrev pub locations_of : List Tablespace → List Path
locations_of [] = []
locations_of (t ∷ ts) = if nat_eq t.oid default_tablespace then locations_of ts else t.location ∷ locations_of ts

-- the directories in which a release's files of relations stand: `base`, and its own at each location
abbrev pub file_tops : Path → Release → List Path → List Path
file_tops root release locations = base_path root ∷ map (λ location. location ++ dir_name_of release ∷ []) locations

-- where the files of a catalog's relations are found in both clusters
abbrev pub old_site : Job → Cluster → Site
old_site job catalog = record { root = job.old; release = V15; tablespaces = catalog.tablespaces }

abbrev pub new_site : Job → Cluster → Site
new_site job catalog = record { root = job.new; release = V16; tablespaces = catalog.tablespaces }

-- Names inside these directories may be made and removed: they are new places, each stands in another or in a location, and neither the mark
-- nor the new control file is among them.
pub record AreNewPlaces (job : Job) (s : FsState) (tops : List Path) : Type 0 where
  pub inside : (path : Path) → IsInside tops path → IsInside (upgrade_in job s).new_tops path × IsHeld (upgrade_in job s).new_tops (holders_in job s) (parent path) × (is_root path ≡ false)
  pub no_mark : IsOutside tops (mark_at job.new)
  pub no_control : IsOutside tops (control_at job.new)
