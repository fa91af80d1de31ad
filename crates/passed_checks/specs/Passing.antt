-- What the checks of two clusters find nothing of, as the steps of an upgrade rest on it.
use Rattle.std.specs.Prelude.{◌≡◌, None}
use Rattle.std.specs.FinMap.{get}
use Rattle.fs_model.specs.State.{FsState}
use Rattle.crash_safety.specs.Places.{disabled_at}
use Rattle.control_file.specs.declared.job.Job.{Job}
use Rattle.control_file.specs.declared.modes.Mode.TheVariants.{Link}
use Rattle.catalog.specs.Cluster.{Cluster}
use Rattle.tree_checks.specs.Findings.{IsLeast}
use Rattle.tree_checks.specs.NewDirs.{IsUsed}
use Rattle.tree_checks.specs.MissingDirs.{IsMissingDir}
use Rattle.file_checks.specs.Tablespaces.{IsTablespaceDir}
use Rattle.file_checks.specs.RelationFiles.{IsMissingFile}
use Rattle.file_checks.specs.Devices.{IsDeviceDiffers}
use Rattle.shared_inodes.specs.SharedInodes.{IsSharedInode}
use Rattle.passed_checks.specs.Controls.{FindsNoControl}

-- The old cluster has this catalog, and no condition on directories and files holds that the steps rest on.
pub record PassesFiles (s : FsState) (job : Job) (catalog : Cluster) : Type 0 where
  pub controls : FindsNoControl s job
  pub used : IsLeast (IsUsed s.names job.new) None
  pub tablespaces : IsTablespaceDir s job.old job.new catalog None
  pub directories : IsMissingDir s.names job.old job.new None
  pub shared : IsSharedInode s job.old job.new None
  pub disabled : job.mode ≡ Link → get s.names (disabled_at job.old) ≡ None

-- No file of a relation is missing or something else, and in an upgrade by links each directory of relations has the new one's device.
pub record PassesRelations (s : FsState) (job : Job) (catalog : Cluster) : Type 0 where
  pub files : IsMissingFile s job.old catalog None
  pub devices : job.mode ≡ Link → IsDeviceDiffers s job.old job.new catalog None
