-- The conditions on directories, releases and control files among all conditions.
use Rattle.std.specs.Prelude.{List, [], ◌∷◌}
use Rattle.control_file.specs.declared.modes.Side.TheVariants.{Old, New}
use Rattle.control_checks.specs.declared.refusal.ControlRefusal.{ControlRefusal}
use Rattle.control_checks.specs.declared.refusal.ControlRefusal.TheVariants as control
use Rattle.control_checks.specs.Findings.{ControlCondition, LieApart, HasDir, HasVersion, VersionIs, IsStopped, IsEnabled, HasControl, ControlIsWhole, ControlIsSound, ControlVersionIs as ControlVersionFits, CatalogVersionIs as CatalogVersionFits, IsShutDown, BlocksFit, FieldsAgree}
use Rattle.compat_checks.specs.declared.refusal.Refusal.{Refusal}
use Rattle.compat_checks.specs.declared.refusal.Refusal.TheVariants.{Overlap, MissingDir, MissingVersion, WrongVersion, Running, OldDisabled, NoControl, ControlShort, ControlCrc, ControlVersion, CatalogVersion, NotShutDown, BlockSize, ControlDiffers}
use Rattle.compat_checks.specs.Order.{Condition, OverlapIs, MissingDirIs, MissingVersionIs, WrongVersionIs, RunningIs, OldDisabledIs, NoControlIs, ControlShortIs, ControlCrcIs, ControlVersionIs, CatalogVersionIs, NotShutDownIs, BlockSizeIs, ControlDiffersIs, PreparedIs, CatalogTextIs, TooManyIs, InstallUserIs, NewRolesIs, ConnectFlagIs, RegColumnIs, AclColumnIs, NewNotEmptyIs, NewUsedIs, TablespaceDirIs, MissingFileIs, SharedInodeIs, DeviceDiffersIs, ControlOldExistsIs}

abbrev pub lifted : ControlRefusal → Refusal
lifted control.Overlap = Overlap
lifted (control.MissingDir side) = MissingDir side
lifted (control.MissingVersion side) = MissingVersion side
lifted (control.WrongVersion side) = WrongVersion side
lifted (control.Running side) = Running side
lifted control.OldDisabled = OldDisabled
lifted (control.NoControl side) = NoControl side
lifted (control.ControlShort side) = ControlShort side
lifted (control.ControlCrc side) = ControlCrc side
lifted (control.ControlVersion side found) = ControlVersion side found
lifted (control.CatalogVersion side found) = CatalogVersion side found
lifted (control.NotShutDown side state) = NotShutDown side state
lifted (control.BlockSize side) = BlockSize side
lifted (control.ControlDiffers field in_old in_new) = ControlDiffers field in_old in_new

abbrev pub lifted_condition : ControlCondition → Condition
lifted_condition LieApart = OverlapIs
lifted_condition (HasDir side) = MissingDirIs side
lifted_condition (HasVersion side) = MissingVersionIs side
lifted_condition (VersionIs side) = WrongVersionIs side
lifted_condition (IsStopped side) = RunningIs side
lifted_condition IsEnabled = OldDisabledIs
lifted_condition (HasControl side) = NoControlIs side
lifted_condition (ControlIsWhole side) = ControlShortIs side
lifted_condition (ControlIsSound side) = ControlCrcIs side
lifted_condition (ControlVersionFits side) = ControlVersionIs side
lifted_condition (CatalogVersionFits side) = CatalogVersionIs side
lifted_condition (IsShutDown side) = NotShutDownIs side
lifted_condition (BlocksFit side) = BlockSizeIs side
lifted_condition FieldsAgree = ControlDiffersIs

-- those that come behind them
abbrev pub later_conditions : List Condition
later_conditions =
    PreparedIs Old ∷ PreparedIs New ∷ CatalogTextIs Old ∷ CatalogTextIs New
    ∷ TooManyIs ∷ InstallUserIs ∷ NewRolesIs ∷ ConnectFlagIs ∷ RegColumnIs ∷ AclColumnIs ∷ NewNotEmptyIs
    ∷ NewUsedIs ∷ TablespaceDirIs ∷ MissingFileIs ∷ SharedInodeIs ∷ DeviceDiffersIs ∷ ControlOldExistsIs ∷ []
