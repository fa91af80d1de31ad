-- The conditions of an upgrade and the order in which they are tested.
use Rattle.std.specs.Prelude.{ℕ, ◌+◌, Bool, true, false, List, [], ◌∷◌}
use Rattle.control_file.specs.declared.modes.Mode.{Mode}
use Rattle.control_file.specs.declared.modes.Mode.TheVariants.{Copy, Link}
use Rattle.control_file.specs.declared.modes.Side.{Side}
use Rattle.control_file.specs.declared.modes.Side.TheVariants.{Old, New}
use Rattle.compat_checks.specs.declared.refusal.Refusal.{Refusal}
use Rattle.compat_checks.specs.declared.refusal.Refusal.TheVariants.{Overlap, MissingDir, MissingVersion, WrongVersion, Running, OldDisabled, NoControl, ControlShort, ControlCrc, ControlVersion, CatalogVersion, NotShutDown, BlockSize, ControlDiffers, Prepared, CatalogText, TooMany, InstallUser, NewRoles, ConnectFlag, RegColumn, AclColumn, NewNotEmpty, NewUsed, TablespaceDir, MissingFile, SharedInode, DeviceDiffers, ControlOldExists}

-- what an upgrade is refused for, without the numbers and paths that a refusal tells
pub data Condition : Type 0 where
  OverlapIs : Condition
  MissingDirIs : Side → Condition
  MissingVersionIs : Side → Condition
  WrongVersionIs : Side → Condition
  RunningIs : Side → Condition
  OldDisabledIs : Condition
  NoControlIs : Side → Condition
  ControlShortIs : Side → Condition
  ControlCrcIs : Side → Condition
  ControlVersionIs : Side → Condition
  CatalogVersionIs : Side → Condition
  NotShutDownIs : Side → Condition
  BlockSizeIs : Side → Condition
  ControlDiffersIs : Condition
  PreparedIs : Side → Condition
  CatalogTextIs : Side → Condition
  TooManyIs : Condition
  InstallUserIs : Condition
  NewRolesIs : Condition
  ConnectFlagIs : Condition
  RegColumnIs : Condition
  AclColumnIs : Condition
  NewNotEmptyIs : Condition
  NewUsedIs : Condition
  TablespaceDirIs : Condition
  MissingFileIs : Condition
  SharedInodeIs : Condition
  DeviceDiffersIs : Condition
  ControlOldExistsIs : Condition

abbrev pub condition_of : Refusal → Condition
condition_of Overlap = OverlapIs
condition_of (MissingDir side) = MissingDirIs side
condition_of (MissingVersion side) = MissingVersionIs side
condition_of (WrongVersion side) = WrongVersionIs side
condition_of (Running side) = RunningIs side
condition_of OldDisabled = OldDisabledIs
condition_of (NoControl side) = NoControlIs side
condition_of (ControlShort side) = ControlShortIs side
condition_of (ControlCrc side) = ControlCrcIs side
condition_of (ControlVersion side found) = ControlVersionIs side
condition_of (CatalogVersion side found) = CatalogVersionIs side
condition_of (NotShutDown side state) = NotShutDownIs side
condition_of (BlockSize side) = BlockSizeIs side
condition_of (ControlDiffers field in_old in_new) = ControlDiffersIs
condition_of (Prepared side) = PreparedIs side
condition_of (CatalogText side line number) = CatalogTextIs side
condition_of TooMany = TooManyIs
condition_of InstallUser = InstallUserIs
condition_of NewRoles = NewRolesIs
condition_of (ConnectFlag database) = ConnectFlagIs
condition_of (RegColumn database table column) = RegColumnIs
condition_of (AclColumn database table column) = AclColumnIs
condition_of NewNotEmpty = NewNotEmptyIs
condition_of (NewUsed path) = NewUsedIs
condition_of (TablespaceDir path) = TablespaceDirIs
condition_of (MissingFile path) = MissingFileIs
condition_of (SharedInode path) = SharedInodeIs
condition_of (DeviceDiffers path) = DeviceDiffersIs
condition_of ControlOldExists = ControlOldExistsIs

-- the order in which they are tested
abbrev pub order : List Condition
order =
    OverlapIs ∷ MissingDirIs Old ∷ MissingDirIs New ∷ MissingVersionIs Old ∷ MissingVersionIs New ∷ WrongVersionIs Old ∷ WrongVersionIs New
    ∷ RunningIs Old ∷ RunningIs New ∷ OldDisabledIs ∷ NoControlIs Old ∷ NoControlIs New
    ∷ ControlShortIs Old ∷ ControlShortIs New ∷ ControlCrcIs Old ∷ ControlCrcIs New ∷ ControlVersionIs Old ∷ ControlVersionIs New
    ∷ CatalogVersionIs Old ∷ CatalogVersionIs New ∷ NotShutDownIs Old ∷ NotShutDownIs New ∷ BlockSizeIs Old ∷ BlockSizeIs New
    ∷ ControlDiffersIs ∷ PreparedIs Old ∷ PreparedIs New ∷ CatalogTextIs Old ∷ CatalogTextIs New
    ∷ TooManyIs ∷ InstallUserIs ∷ NewRolesIs ∷ ConnectFlagIs ∷ RegColumnIs ∷ AclColumnIs ∷ NewNotEmptyIs
    ∷ NewUsedIs ∷ TablespaceDirIs ∷ MissingFileIs ∷ SharedInodeIs ∷ DeviceDiffersIs ∷ ControlOldExistsIs ∷ []

-- those of a link alone come last
abbrev pub applies : Mode → Condition → Bool
applies Copy DeviceDiffersIs = false
applies Copy ControlOldExistsIs = false
applies mode condition = true

abbrev pub index_of : Side → ℕ
index_of Old = 0
index_of New = 1

-- the place of each in that order
abbrev pub place_of : Condition → ℕ
place_of OverlapIs = 0
place_of (MissingDirIs side) = 1 + index_of side
place_of (MissingVersionIs side) = 3 + index_of side
place_of (WrongVersionIs side) = 5 + index_of side
place_of (RunningIs side) = 7 + index_of side
place_of OldDisabledIs = 9
place_of (NoControlIs side) = 10 + index_of side
place_of (ControlShortIs side) = 12 + index_of side
place_of (ControlCrcIs side) = 14 + index_of side
place_of (ControlVersionIs side) = 16 + index_of side
place_of (CatalogVersionIs side) = 18 + index_of side
place_of (NotShutDownIs side) = 20 + index_of side
place_of (BlockSizeIs side) = 22 + index_of side
place_of ControlDiffersIs = 24
place_of (PreparedIs side) = 25 + index_of side
place_of (CatalogTextIs side) = 27 + index_of side
place_of TooManyIs = 29
place_of InstallUserIs = 30
place_of NewRolesIs = 31
place_of ConnectFlagIs = 32
place_of RegColumnIs = 33
place_of AclColumnIs = 34
place_of NewNotEmptyIs = 35
place_of NewUsedIs = 36
place_of TablespaceDirIs = 37
place_of MissingFileIs = 38
place_of SharedInodeIs = 39
place_of DeviceDiffersIs = 40
place_of ControlOldExistsIs = 41

-- its place in the order of all refusals
abbrev pub rank : Refusal → ℕ
rank refusal = place_of (condition_of refusal)
