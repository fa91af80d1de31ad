-- What the checks give of relations' files, for the plan of a transfer.
use Rattle.std.specs.Prelude.{◌≡◌, ◌<◌, ◌^◌, ℕ, Some, None}
use Rattle.std.specs.List.{Contains}
use Rattle.std.specs.FinMap.{get}
use Rattle.fs_model.specs.declared.node.Node.{Node}
use Rattle.fs_model.specs.State.{FsState}
use Rattle.control_file.specs.declared.job.Job.{Job}
use Rattle.catalog.specs.Cluster.{Cluster}
use Rattle.relation_files.specs.declared.relation.Relation.{Relation}
use Rattle.relation_files.specs.declared.relation.Fork.{Fork}
use Rattle.relation_files.specs.Places.{segment_path}
use Rattle.relation_files.specs.Relations.{relations_of}
use Rattle.plan_build.specs.Plannable.{IsFile}
use Rattle.upgraded.specs.Places.{old_site, new_site}

-- What stands at a name of a relation's segment in the old cluster is a file, and in the new one nothing stands there.
pub record HasOwnFiles (s : FsState) (job : Job) (catalog : Cluster) : Type 0 where
  pub files : (relation : Relation) → Contains (relations_of catalog) relation → (fork : Fork) (segment : ℕ) (node : Node) → segment < 2 ^ 32
      → get s.names (segment_path (old_site job catalog) relation fork segment) ≡ Some node → IsFile node
  pub free : (relation : Relation) → Contains (relations_of catalog) relation → (fork : Fork) (segment : ℕ) → get s.names (segment_path (new_site job catalog) relation fork segment) ≡ None
