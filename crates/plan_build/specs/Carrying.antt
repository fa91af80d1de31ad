-- What a plan stays the plan of, and what carrying it out leaves of the relations' files.
use Rattle.std.specs.Prelude.{◌≡◌, ◌≢◌, ◌⊎◌, ◌<◌, ◌^◌, ℕ, true, List, Contains, Some, None, is_some}
use Rattle.std.specs.List.{AllByRecursion}
use Rattle.std.specs.FinMap.{get}
use Rattle.fs_model.specs.declared.node.Node.{Node}
use Rattle.fs_model.specs.declared.node.Node.TheVariants.{Dir}
use Rattle.fs_model.specs.Names.{Path}
use Rattle.fs_model.specs.State.{FsState}
use Rattle.fs_model.specs.Calls.{Call, Creates, WritesAt}
use Rattle.fs_model.specs.Reading.{file_bytes}
use Rattle.control_file.specs.declared.job.Job.{Job}
use Rattle.catalog.specs.declared.owners.Tablespace.{Tablespace}
use Rattle.catalog.specs.Cluster.{Cluster, default_tablespace}
use Rattle.relation_files.specs.declared.relation.Relation.{Relation}
use Rattle.relation_files.specs.declared.relation.Fork.{Fork}
use Rattle.relation_files.specs.declared.relation.Fork.TheVariants.{Main}
use Rattle.relation_files.specs.Places.{relation_dir, segment_path, fork_files}
use Rattle.relation_files.specs.Relations.{relations_of}
use Rattle.relation_files.specs.Carried.{carried}
use Rattle.crash_safety.specs.Synced.{IsOneOf}
use Rattle.transfer_plan.specs.declared.plan.PlanItem.{PlanItem}
use Rattle.transfer_plan.specs.Carriable.{targets, SparesName}
use Rattle.relation_map.specs.Equal.{Carriage}
use Rattle.relation_map.specs.Pairs.{old_site, new_site}
use Rattle.plan_build.specs.Plannable.{IsFile}
use Rattle.plan_build.specs.Planned.{file_at, files_in}

-- ---- two states with one plan

-- Both states have the same at all names of a relation, and the same files of it in the old cluster.
pub record HaveSame (a b : FsState) (entry : Carriage) : Type 0 where
  pub dir : get b.names entry.to_dir ≡ get a.names entry.to_dir
  pub old : (fork : Fork) (segment : ℕ) → get b.names (file_at entry.from_dir entry.file fork segment) ≡ get a.names (file_at entry.from_dir entry.file fork segment)
  pub files : (fork : Fork) (segment : ℕ) → files_in b entry.from_dir entry.file fork segment ≡ files_in a entry.from_dir entry.file fork segment
  pub new : (fork : Fork) (segment : ℕ) → get b.names (file_at entry.to_dir entry.file fork segment) ≡ get a.names (file_at entry.to_dir entry.file fork segment)

-- one of the names of a relation: its new directory, and in both directories each segment of its forks
abbrev pub IsNameOf : Carriage → Path → Type 0
IsNameOf entry path =
    (path ≡ entry.to_dir) ⊎ ((fork : Fork) × (segment : ℕ) × ((path ≡ file_at entry.from_dir entry.file fork segment) ⊎ (path ≡ file_at entry.to_dir entry.file fork segment)))

-- a call that makes no file, and writes to none
abbrev pub LeavesBytes : Call → Type 0
LeavesBytes (Creates path) = ⊥
LeavesBytes (WritesAt path from bytes) = ⊥
LeavesBytes call = Unit {0}

-- a call that makes no file, writes to none, and neither makes nor removes a name of these relations
abbrev pub SparesRelations : List Carriage → FsState → Call → Type 0
SparesRelations entries s call = LeavesBytes call × AllByRecursion (λ entry. (path : Path) → IsNameOf entry path → SparesName path call) entries

-- ---- a plan that is carried out

-- No file stands at a new name of a relation but where one is carried.
abbrev pub HasOnlyCarried : FsState → Carriage → Type 0
HasOnlyCarried s entry = (fork : Fork) (segment : ℕ) → carried fork (files_in s entry.from_dir entry.file fork) segment ≡ None → file_bytes s (file_at entry.to_dir entry.file fork segment) ≡ None

-- The new names of the items have in x what their old names have in s, and every other path has what it had.
pub record HasItems (s x : FsState) (items : List PlanItem) : Type 0 where
  pub each : AllByRecursion (λ item. file_bytes x item.to ≡ file_bytes s item.from) items
  pub others : (path : Path) → (IsOneOf (targets items) path → ⊥) → file_bytes x path ≡ file_bytes s path

-- The new directory has in x exactly the carried files that the old one has in s.
abbrev pub HasCarried : FsState → FsState → Carriage → Type 0
HasCarried s x entry = (fork : Fork) (segment : ℕ) → files_in x entry.to_dir entry.file fork segment ≡ carried fork (files_in s entry.from_dir entry.file fork) segment

-- The same of each relation of a catalog that both clusters have.
abbrev pub HasRelations : Job → Cluster → FsState → FsState → Type 0
HasRelations job catalog s x =
    (relation : Relation) → Contains (relations_of catalog) relation → (fork : Fork) (segment : ℕ)
    → fork_files x (new_site job catalog) relation fork segment ≡ carried fork (fork_files s (old_site job catalog) relation fork) segment

-- ---- a catalog that both clusters have

-- The first segment of the relation's main fork is a file in the old cluster, and what else stands at its names there is one
-- too. Its directory in the new cluster is one, in which none of its names is a directory.
pub record HasFiles (s : FsState) (job : Job) (catalog : Cluster) (relation : Relation) : Type 0 where
  pub first : is_some (fork_files s (old_site job catalog) relation Main 0) ≡ true
  pub files : (fork : Fork) (segment : ℕ) (node : Node) → segment < 2 ^ 32 → get s.names (segment_path (old_site job catalog) relation fork segment) ≡ Some node → IsFile node
  pub dir : get s.names (relation_dir (new_site job catalog) relation) ≡ Some Dir
  pub no_dirs : (fork : Fork) (segment : ℕ) → segment < 2 ^ 32 → get s.names (segment_path (new_site job catalog) relation fork segment) ≢ Some Dir

-- the tablespaces but `pg_default` have different locations
abbrev pub HaveOwnLocations : List Tablespace → Type 0
HaveOwnLocations tablespaces =
    (t u : Tablespace) → Contains tablespaces t → Contains tablespaces u → t.oid ≢ default_tablespace → u.oid ≢ default_tablespace
    → t.oid ≢ u.oid → t.location ≢ u.location
