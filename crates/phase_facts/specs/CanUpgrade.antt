-- What the steps of an upgrade need of the state that it begins in. Each field names the refusals whose conditions don't hold where it does.
use Rattle.std.specs.Prelude.{◌≡◌, ◌≢◌, ◌<◌, ◌^◌, ℕ, true, List, [], ◌∷◌, ◌++◌, codes, Some, None, is_some, Result, Ok}
use Rattle.std.specs.List.{AllByRecursion, Contains}
use Rattle.std.specs.FinMap.{get}
use Rattle.fs_model.specs.declared.node.Node.{Node}
use Rattle.fs_model.specs.declared.node.Node.TheVariants.{Dir, File}
use Rattle.fs_model.specs.Names.{Path, IsUnder}
use Rattle.fs_model.specs.State.{Names, FsState}
use Rattle.fs_model.specs.Calls.{Renames, refusal, device_of}
use Rattle.fs_model.specs.WellFormed.{Each, WellFormed}
use Rattle.control_file.specs.declared.job.Job.{Job}
use Rattle.control_file.specs.declared.releases.Release.{Release}
use Rattle.control_file.specs.declared.releases.Release.TheVariants.{V15, V16}
use Rattle.catalog.specs.declared.owners.Tablespace.{Tablespace}
use Rattle.catalog.specs.Cluster.{Cluster, default_tablespace, started}
use Rattle.catalog.specs.Valid.{IsValid}
use Rattle.relation_files.specs.declared.relation.Relation.{Relation}
use Rattle.relation_files.specs.declared.relation.Fork.{Fork}
use Rattle.relation_files.specs.declared.relation.Fork.TheVariants.{Main}
use Rattle.relation_files.specs.Places.{relation_dir, segment_path, fork_files}
use Rattle.relation_files.specs.Relations.{relations_of}
use Rattle.dump_grammar.specs.declared.error.TextError.{TextError}
use Rattle.crash_safety.specs.Sound.{IsNoOldFile}
use Rattle.crash_safety.specs.Synced.{IsOneOf}
use Rattle.crash_safety.specs.Places.{control_at, disabled_at, StandApart}
use Rattle.new_names.specs.Room.{HasRoomFor}
use Rattle.catalog_server.specs.Profile.{Profile, profile_of}
use Rattle.catalog_server.specs.ReplayNames.{new_names}
use Rattle.status_transfer.specs.Counted.{IsHeadOf}
use Rattle.status_transfer.specs.Status.{HoldsStatus}
use Rattle.phase_facts.specs.Places.{disables, upgrade_in, mark_at, holders_in, locations_of, old_site, new_site}

-- neither directory is, or is below, the other
abbrev pub AreApart : Path → Path → Type 0
AreApart one other = (IsUnder one other → ⊥) × (IsUnder other one → ⊥)

-- the nearest directory that stands on the way to a path, the path itself included
pub record IsNearestDir (names : Names) (path dir : Path) : Type 0 where
  pub on_way : IsUnder dir path
  pub stands : get names dir ≡ Some Dir
  pub nearest : (other : Path) → IsUnder other path → get names other ≡ Some Dir → IsUnder other dir

-- The first segment of the relation's main fork is a file in the old cluster, and what else stands at its names there is one too.
pub record HasOldFiles (job : Job) (catalog : Cluster) (s : FsState) (relation : Relation) : Type 0 where
  pub first : is_some (fork_files s (old_site job catalog) relation Main 0) ≡ true
  pub files : (fork : Fork) (segment : ℕ) (node : Node) → segment < 2 ^ 32 → get s.names (segment_path (old_site job catalog) relation fork segment) ≡ Some node → (inode : ℕ) × (node ≡ File inode)

-- The relation's old directory has the device that its new one has or, where that doesn't stand, will have.
abbrev pub HasOneDevice : Job → Cluster → FsState → Relation → Type 0
HasOneDevice job catalog s relation =
    (dir : Path) → IsNearestDir s.names (relation_dir (new_site job catalog) relation) dir → device_of s (relation_dir (old_site job catalog) relation) ≡ device_of s dir

-- no two tablespaces have one location
abbrev pub HaveOwnLocations : List Tablespace → Type 0
HaveOwnLocations tablespaces =
    (t u : Tablespace) → Contains tablespaces t → Contains tablespaces u → t.oid ≢ default_tablespace → u.oid ≢ default_tablespace → t.oid ≢ u.oid
    → t.location ≢ u.location

-- What a crash at any moment rests on.
pub record CanBegin (job : Job) (s : FsState) : Type 0 where
  -- a file system that tells its states is in such a one
  pub well_formed : WellFormed s
  -- Overlap; TablespaceDir: no location overlaps a cluster or another location
  pub apart : StandApart (upgrade_in job s).old_tops (upgrade_in job s).new_tops
  -- TablespaceDir: no location overlaps a cluster
  pub old_apart : AllByRecursion (AreApart job.old) (holders_in job s)
  pub new_apart : AllByRecursion (AreApart job.new) (holders_in job s)
  -- NoControl of the old cluster
  pub control : (inode : ℕ) × (get s.names (control_at job.old) ≡ Some (File inode))
  -- NoControl of the old cluster, and ControlOldExists; the ways are those of the control file, by `well_formed`
  pub can_disable : disables job.mode ≡ true → refusal s (Renames (control_at job.old) (disabled_at job.old)) ≡ None
  -- SharedInode
  pub unshared : Each (IsNoOldFile (upgrade_in job s)) s.names
  -- NewUsed: nothing but `catalog.sql` stands in `pg_profile`
  pub unmarked : get s.names (mark_at job.new) ≡ None

-- What the steps rest on besides, by the old cluster's catalog and the record of the new one's control file. The refusals of what the server
-- reads of both, CatalogText and NewNotEmpty, are those of `AreRead`.
pub record CanUpgrade (job : Job) (catalog : Cluster) (head : List ℕ) (s : FsState) : Type 0 where
  pub begins : CanBegin job s
  -- each catalog that a server reads is so
  pub valid : IsValid catalog
  -- TablespaceDir: the locations of the old cluster's links are those of its catalog's tablespaces
  pub recorded : (location : Path) → IsOneOf (locations_of catalog.tablespaces) location → IsOneOf (holders_in job s) location
  pub known : (location : Path) → IsOneOf (holders_in job s) location → IsOneOf (locations_of catalog.tablespaces) location
  -- TablespaceDir: each location is a directory
  pub held : AllByRecursion (λ location. get s.names location ≡ Some Dir) (locations_of catalog.tablespaces)
  pub own_locations : HaveOwnLocations catalog.tablespaces
  -- NewUsed, TablespaceDir and MissingFile (`unused_clusters_have_room`)
  pub room : HasRoomFor s (new_names job.new V16 (started catalog.bootstrap) catalog)
  -- MissingFile
  pub old_status : HoldsStatus s.names job.old
  pub new_status : HoldsStatus s.names job.new
  pub files : (relation : Relation) → Contains (relations_of catalog) relation → HasOldFiles job catalog s relation
  -- DeviceDiffers
  pub one_device : disables job.mode ≡ true → (relation : Relation) → Contains (relations_of catalog) relation → HasOneDevice job catalog s relation
  -- NoControl and ControlShort of the new cluster; the head is what was read
  pub new_head : IsHeadOf s (control_at job.new) head
  -- MissingDir of the new cluster, and MissingFile
  pub root : get s.names job.new ≡ Some Dir
  pub profile : get s.names (job.new ++ codes "pg_profile" ∷ []) ≡ Some Dir

-- What a server reads of both clusters: the catalog of the old one, and that the new one is as its bootstrap role made it.
pub record AreRead (catalog_of : Path → Release → Profile → Result Cluster TextError) (job : Job) (catalog : Cluster) (s : FsState) : Type 0 where
  -- CatalogText
  pub old : catalog_of job.old V15 (profile_of s job.old) ≡ Ok catalog
  -- CatalogText, InstallUser and NewNotEmpty
  pub new : catalog_of job.new V16 (profile_of s job.new) ≡ Ok (started catalog.bootstrap)
