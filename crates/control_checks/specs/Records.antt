-- The control records that were read.
use Rattle.std.specs.Prelude.{◌≡◌, ℕ, List, take, Some, Ok}
use Rattle.fs_model.specs.Names.{Path}
use Rattle.fs_model.specs.State.{FsState}
use Rattle.fs_model.specs.Reading.{file_bytes}
use Rattle.control_file.specs.declared.job.Job.{Job}
use Rattle.control_file.specs.declared.modes.Side.{Side}
use Rattle.control_file.specs.declared.modes.Side.TheVariants.{Old, New}
use Rattle.control_file.specs.ControlRecord.{control_in}
use Rattle.control_checks.specs.Places.{root_of, release_of, control_path}
use Rattle.control_checks.specs.declared.records.ReadControl.{ReadControl}
use Rattle.control_checks.specs.declared.records.Controls.{Controls}

-- the bytes begin with this record, and say this of the side's release
pub record SaysControl (side : Side) (bytes : List ℕ) (read : ReadControl) : Type 0 where
  pub head : read.head ≡ take 296 bytes
  pub says : control_in bytes (release_of side) ≡ Ok read.control

-- it is what the side's control file has
pub record IsControlOf (s : FsState) (job : Job) (side : Side) (read : ReadControl) : Type 0 where
  pub bytes : List ℕ
  pub file : file_bytes s (control_path (root_of job side)) ≡ Some bytes
  pub record_is : SaysControl side bytes read

pub record AreControls (s : FsState) (job : Job) (read : Controls) : Type 0 where
  pub old : IsControlOf s job Old read.old
  pub new : IsControlOf s job New read.new
