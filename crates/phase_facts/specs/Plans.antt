-- Where the files of a plan stand.
use Rattle.std.specs.Prelude.{◌≡◌, ◌++◌, ℕ, List}
use Rattle.std.specs.List.{Contains}
use Rattle.fs_model.specs.Names.{Path}
use Rattle.fs_model.specs.State.{FsState}
use Rattle.control_file.specs.declared.job.Job.{Job}
use Rattle.control_file.specs.declared.releases.Release.TheVariants.{V15, V16}
use Rattle.catalog.specs.Cluster.{Cluster}
use Rattle.relation_files.specs.declared.relation.Relation.{Relation}
use Rattle.relation_files.specs.declared.relation.Fork.{Fork}
use Rattle.relation_files.specs.Places.{segment_path}
use Rattle.relation_files.specs.Relations.{relations_of}
use Rattle.crash_safety.specs.Frame.{IsInside}
use Rattle.crash_safety.specs.Synced.{IsOneOf}
use Rattle.transfer_plan.specs.declared.plan.PlanItem.{PlanItem}
use Rattle.transfer_plan.specs.Carriable.{names_of, targets}
use Rattle.phase_facts.specs.Places.{file_tops, holders_in, old_site, new_site}

-- The item is of a segment of a relation of the catalog, by its names in both clusters.
pub record IsRelationItem (job : Job) (catalog : Cluster) (item : PlanItem) : Type 0 where
  pub relation : Relation
  pub listed : Contains (relations_of catalog) relation
  pub fork : Fork
  pub segment : ℕ
  pub from_is : item.from ≡ segment_path (old_site job catalog) relation fork segment
  pub to_is : item.to ≡ segment_path (new_site job catalog) relation fork segment

-- The new names are of files of relations of the new cluster, and all that a plan speaks of is of files of relations of both, and their
-- directories.
pub record IsPlanIn (job : Job) (s : FsState) (items : List PlanItem) : Type 0 where
  pub targets : (path : Path) → IsOneOf (targets items) path → IsInside (file_tops job.new V16 (holders_in job s)) path
  pub names : (path : Path) → IsOneOf (names_of items) path → IsInside (file_tops job.old V15 (holders_in job s) ++ file_tops job.new V16 (holders_in job s)) path
