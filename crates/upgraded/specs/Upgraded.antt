-- What an upgraded cluster is: the new cluster of the state x against the old one of the state s, in which the upgrade began.
use Rattle.std.specs.Prelude.{◌≡◌, ◌≢◌, ◌⊎◌, ℕ, List, Some, Result}
use Rattle.std.specs.List.{Contains}
use Rattle.std.specs.FinMap.{get}
use Rattle.fs_model.specs.declared.node.Node.TheVariants.{File}
use Rattle.fs_model.specs.Names.{Path}
use Rattle.fs_model.specs.State.{FsState}
use Rattle.fs_model.specs.Reading.{file_bytes}
use Rattle.crash_safety.specs.Frame.{IsInside}
use Rattle.crash_safety.specs.Places.{control_at}
use Rattle.control_file.specs.declared.job.Job.{Job}
use Rattle.control_file.specs.declared.modes.Mode.{Mode}
use Rattle.control_file.specs.declared.modes.Mode.TheVariants.{Copy, Link}
use Rattle.control_file.specs.declared.releases.Release.{Release}
use Rattle.control_file.specs.declared.releases.Release.TheVariants.{V15, V16}
use Rattle.catalog.specs.Cluster.{Cluster}
use Rattle.dump_grammar.specs.declared.error.TextError.{TextError}
use Rattle.relation_files.specs.declared.relation.Relation.{Relation}
use Rattle.relation_files.specs.declared.relation.Fork.{Fork}
use Rattle.relation_files.specs.Places.{fork_files}
use Rattle.relation_files.specs.Relations.{relations_of}
use Rattle.relation_files.specs.Carried.{carried}
use Rattle.new_names.specs.declared.names.NewNode.{NewNode}
use Rattle.new_names.specs.Frame.{IsListed}
use Rattle.catalog_server.specs.Profile.{Profile, profile_of}
use Rattle.cluster_meaning.specs.Cluster.{opened, control_at as control_in}
use Rattle.cluster_meaning.specs.Meaning.{table_meaning}
use Rattle.status_transfer.specs.Carried.{IsInOne}
use Rattle.status_transfer.specs.Status.{CarriesStatus, status_dirs}
use Rattle.status_transfer.specs.Counted.{CarriesCounters}
use Rattle.link_transfer.specs.LinkedFiles.{ShareOnly}
use Rattle.upgraded.specs.Places.{old_tops, new_tops, old_site, new_site, replay_names, mark_at, version_at}
use Rattle.upgraded.specs.CarriedFiles.{IsCarriedFile, IsCarriedName}

-- how a server reads a catalog: from what stands at and below `pg_profile` of the cluster of a release at a root
abbrev pub ReadsCatalog : Type 0
ReadsCatalog = Path → Release → Profile → Result Cluster TextError

-- The new cluster's control file has the old one's counters, in both transaction ids of commit timestamps the lower half of
-- the next one, a right CRC, and every other byte as before.
pub record HasOldCounters (job : Job) (s x : FsState) : Type 0 where
  pub before : List ℕ
  pub stood : file_bytes s (control_at job.new) ≡ Some before
  pub after : List ℕ
  pub stands : file_bytes x (control_at job.new) ≡ Some after
  pub carries : CarriesCounters before (control_in s job.old).counters after

-- of each relation the files that stand in the new cluster are those that are carried, with the bytes that they had in the
-- old one
abbrev pub HasCarriedFiles : Job → Cluster → FsState → FsState → Type 0
HasCarriedFiles job catalog s x =
    (relation : Relation) → Contains (relations_of catalog) relation → (fork : Fork) (segment : ℕ)
    → fork_files x (new_site job catalog) relation fork segment ≡ carried fork (fork_files s (old_site job catalog) relation fork) segment

-- At the new name of a carried file stands the old one's inode.
abbrev pub LinksCarried : Job → Cluster → FsState → FsState → Type 0
LinksCarried job catalog s x =
    (from to : Path) → IsCarriedFile job catalog s from to → (inode : ℕ) × (get s.names from ≡ Some (File inode)) × (get x.names to ≡ Some (File inode))

-- Copies share no file with the old cluster; of links the carried names do, and no others.
abbrev pub SharesByMode : Mode → Job → Cluster → FsState → FsState → Type 0
SharesByMode Copy job catalog s x = ShareOnly (old_tops job s) (new_tops job s) (λ path. ⊥) x.names
SharesByMode Link job catalog s x = LinksCarried job catalog s x × ShareOnly (old_tops job s) (new_tops job s) (IsCarriedName job catalog s) x.names

-- the path is one of a name that the replay of the old catalog makes
abbrev pub IsReplayName : Job → Cluster → Path → Type 0
IsReplayName job catalog path = (what : NewNode) × IsListed (replay_names job catalog) path what

-- the path has a name that an upgrade makes: of a carried file, in a directory of status files, of a replay, or the mark
abbrev pub IsMadeName : Job → Cluster → FsState → Path → Type 0
IsMadeName job catalog s path =
    IsCarriedName job catalog s path ⊎ (IsInOne (status_dirs job.new) path ⊎ (IsReplayName job catalog path ⊎ (path ≡ mark_at job.new)))

-- At each other name of the new cluster stands what stood there, or nothing where nothing did, and a file has its bytes,
-- unless it is the control file.
pub record LeavesOthers (job : Job) (catalog : Cluster) (s x : FsState) : Type 0 where
  pub names : (path : Path) → IsInside (new_tops job s) path → (IsMadeName job catalog s path → ⊥) → get x.names path ≡ get s.names path
  pub bytes : (path : Path) → IsInside (new_tops job s) path → (IsMadeName job catalog s path → ⊥) → (inode : ℕ) → get s.names path ≡ Some (File inode)
      → get s.names (control_at job.new) ≢ Some (File inode) → get x.bytes inode ≡ get s.bytes inode

-- The new cluster of x is the old one of s, upgraded.
pub record Upgraded (read : ReadsCatalog) (job : Job) (catalog : Cluster) (s x : FsState) : Type 0 where
  -- a server reads the catalog that it read from the old cluster
  pub reading : read job.new V16 (profile_of x job.new) ≡ read job.old V15 (profile_of s job.old)
  -- each table has the meaning that it had: its rows, their values, and what each snapshot sees
  pub meaning : (database table : ℕ) → table_meaning x (opened x job.new V16 catalog) database table ≡ table_meaning s (opened s job.old V15 catalog) database table
  pub control : HasOldCounters job s x
  pub version : file_bytes x (version_at job.new) ≡ file_bytes s (version_at job.new)
  -- the three directories of status files have exactly the old one's names and bytes
  pub status : CarriesStatus s job.old job.new x
  pub files : HasCarriedFiles job catalog s x
  pub sharing : SharesByMode job.mode job catalog s x
  pub others : LeavesOthers job catalog s x
