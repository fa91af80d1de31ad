-- Each directory has the device of the nearest one that stood at the start.
use Rattle.std.specs.Prelude.{◌≡◌, Some}
use Rattle.std.specs.FinMap.{get}
use Rattle.fs_model.specs.declared.node.Node.TheVariants.{Dir}
use Rattle.fs_model.specs.Names.{Path}
use Rattle.fs_model.specs.State.{FsState}
use Rattle.fs_model.specs.Calls.{device_of}
use Rattle.phase_facts.specs.CanUpgrade.{IsNearestDir}

-- No directory of the start is gone, and each has the device that the nearest directory of the start had.
pub record KeepsDevices (start s : FsState) : Type 0 where
  pub dirs : (dir : Path) → get start.names dir ≡ Some Dir → get s.names dir ≡ Some Dir
  pub devices : (dir nearest : Path) → get s.names dir ≡ Some Dir → IsNearestDir start.names dir nearest → device_of s dir ≡ device_of start nearest
