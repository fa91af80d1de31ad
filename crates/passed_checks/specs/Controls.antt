-- What stands of each cluster where the checks of directories, releases and control files find nothing.
use Rattle.std.specs.Prelude.{◌≡◌, ◌≢◌, ℕ, List, Option, Some, None, Ok}
use Rattle.std.specs.FinMap.{get}
use Rattle.fs_model.specs.declared.node.Node.TheVariants.{Dir, File}
use Rattle.fs_model.specs.Names.{Path, IsUnder}
use Rattle.fs_model.specs.State.{FsState}
use Rattle.fs_model.specs.Reading.{file_bytes}
use Rattle.control_file.specs.declared.job.Job.{Job}
use Rattle.control_file.specs.declared.modes.Side.{Side}
use Rattle.control_file.specs.declared.modes.Side.TheVariants.{Old, New}
use Rattle.control_file.specs.declared.records.Control.{Control}
use Rattle.control_file.specs.ControlRecord.{control_in}
use Rattle.control_file.specs.Version.{version_text_of}
use Rattle.control_checks.specs.Places.{root_of, release_of, version_path, control_path}
use Rattle.control_checks.specs.Findings.{ControlCondition, finding}

-- none of the conditions holds
abbrev pub FindsNoControl : FsState → Job → Type 0
FindsNoControl s job = (condition : ControlCondition) → finding s job condition ≡ None

-- A stopped cluster of the side's release: its directory, its version file, and a control file that says so.
pub record IsStoppedCluster (s : FsState) (job : Job) (side : Side) : Type 0 where
  pub dir : get s.names (root_of job side) ≡ Some Dir
  pub version : file_bytes s (version_path (root_of job side)) ≡ Some (version_text_of (release_of side))
  pub inode : ℕ
  pub control_file : get s.names (control_path (root_of job side)) ≡ Some (File inode)
  pub bytes : List ℕ
  pub control_bytes : file_bytes s (control_path (root_of job side)) ≡ Some bytes
  pub control : Control
  pub says : control_in bytes (release_of side) ≡ Ok control
  pub shut_down : control.state ≡ 1
  pub block_size : control.blcksz ≡ 8192
  pub segment_size : control.relseg_size ≢ 0

-- Both clusters, neither in the other, with segments of one size.
pub record AreStoppedClusters (s : FsState) (job : Job) : Type 0 where
  pub old : IsStoppedCluster s job Old
  pub new : IsStoppedCluster s job New
  pub old_apart : IsUnder job.new job.old → ⊥
  pub new_apart : IsUnder job.old job.new → ⊥
  pub one_segment_size : old.control.relseg_size ≡ new.control.relseg_size
