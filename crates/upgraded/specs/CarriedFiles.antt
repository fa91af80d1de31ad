-- The files of relations that an upgrade carries: their names in the old cluster and in the new one, and the plan of them.
use Rattle.std.specs.Prelude.{◌≡◌, ◌<◌, ◌^◌, ℕ, List, true, is_some}
use Rattle.std.specs.List.{Contains}
use Rattle.fs_model.specs.Names.{Path}
use Rattle.fs_model.specs.State.{FsState}
use Rattle.control_file.specs.declared.job.Job.{Job}
use Rattle.catalog.specs.Cluster.{Cluster}
use Rattle.relation_files.specs.declared.relation.Relation.{Relation}
use Rattle.relation_files.specs.declared.relation.Fork.{Fork}
use Rattle.relation_files.specs.Places.{segment_path, fork_files}
use Rattle.relation_files.specs.Relations.{relations_of}
use Rattle.relation_files.specs.Carried.{carried}
use Rattle.transfer_plan.specs.declared.plan.PlanItem.{PlanItem}
use Rattle.upgraded.specs.Places.{old_site, new_site}

-- Both are names of one segment of a relation, the first in the old cluster, the second in the new one, and in the state s
-- the old one's file is carried. Segments have numbers of 32 bits.
pub record IsCarriedFile (job : Job) (catalog : Cluster) (s : FsState) (from to : Path) : Type 0 where
  pub relation : Relation
  pub listed : Contains (relations_of catalog) relation
  pub fork : Fork
  pub segment : ℕ
  pub numbered : segment < 2 ^ 32
  pub carried : is_some (carried fork (fork_files s (old_site job catalog) relation fork) segment) ≡ true
  pub from_is : from ≡ segment_path (old_site job catalog) relation fork segment
  pub to_is : to ≡ segment_path (new_site job catalog) relation fork segment

-- the path is the new name of a carried file
abbrev pub IsCarriedName : Job → Cluster → FsState → Path → Type 0
IsCarriedName job catalog s path = (from : Path) × IsCarriedFile job catalog s from path

-- The items are the carried files of the state s, each with both of its names, and no others. No
-- carried segment has a larger number than they may have.
pub record IsPlan (job : Job) (catalog : Cluster) (s : FsState) (items : List PlanItem) : Type 0 where
  pub each : (item : PlanItem) → Contains items item → IsCarriedFile job catalog s item.from item.to
  pub all : (from to : Path) → IsCarriedFile job catalog s from to → (item : PlanItem) × Contains items item × (item.from ≡ from) × (item.to ≡ to)
  pub ends : (relation : Relation) → Contains (relations_of catalog) relation → (fork : Fork) (segment : ℕ)
      → is_some (carried fork (fork_files s (old_site job catalog) relation fork) segment) ≡ true → segment < 2 ^ 32
