use Rattle.std.proofs.Common.{ap}
use Rattle.std.specs.Prelude.{codes}
use Rattle.upgrade_answers.specs.Lines.{labelled}
use Rattle.upgrade_answers.proofs.Pieces.{puts, puts_same, put_for}
use Rattle.upgrade_answers.proofs.reasons.put_reason.Goals as goal

pub returns-in-Overlap-clause-appended : goal.returns-in-Overlap-clause-appended
returns-in-Overlap-clause-appended g c told = put_for _ _ _ _ _ c.in-Overlap.is (puts _ _ _ _ (c.put.ensures.appended told) (c.put.ensures.part told))

pub returns-in-MissingDir-clause-appended : goal.returns-in-MissingDir-clause-appended
returns-in-MissingDir-clause-appended g c told = put_for _ _ _ _ _ c.in-MissingDir.is (c.put_sided.ensures.appended told)

pub returns-in-MissingVersion-clause-appended : goal.returns-in-MissingVersion-clause-appended
returns-in-MissingVersion-clause-appended g c told = put_for _ _ _ _ _ c.in-MissingVersion.is (c.put_sided-in-MissingVersion.ensures.appended told)

pub returns-in-WrongVersion-clause-appended : goal.returns-in-WrongVersion-clause-appended
returns-in-WrongVersion-clause-appended g c told = put_for _ _ _ _ _ c.in-WrongVersion.is (c.put_sided-in-WrongVersion.ensures.appended told)

pub returns-in-Running-clause-appended : goal.returns-in-Running-clause-appended
returns-in-Running-clause-appended g c told = put_for _ _ _ _ _ c.in-Running.is (c.put_sided-in-Running.ensures.appended told)

pub returns-in-OldDisabled-clause-appended : goal.returns-in-OldDisabled-clause-appended
returns-in-OldDisabled-clause-appended g c told = put_for _ _ _ _ _ c.in-OldDisabled.is (puts _ _ _ _ (c.put-in-OldDisabled.ensures.appended told) (c.put-in-OldDisabled.ensures.part told))

pub returns-in-NoControl-clause-appended : goal.returns-in-NoControl-clause-appended
returns-in-NoControl-clause-appended g c told = put_for _ _ _ _ _ c.in-NoControl.is (c.put_sided-in-NoControl.ensures.appended told)

pub returns-in-ControlShort-clause-appended : goal.returns-in-ControlShort-clause-appended
returns-in-ControlShort-clause-appended g c told = put_for _ _ _ _ _ c.in-ControlShort.is (c.put_sided-in-ControlShort.ensures.appended told)

pub returns-in-ControlCrc-clause-appended : goal.returns-in-ControlCrc-clause-appended
returns-in-ControlCrc-clause-appended g c told = put_for _ _ _ _ _ c.in-ControlCrc.is (c.put_sided-in-ControlCrc.ensures.appended told)

pub returns-in-ControlVersion-clause-appended : goal.returns-in-ControlVersion-clause-appended
returns-in-ControlVersion-clause-appended g c told = put_for _ _ _ _ _ c.in-ControlVersion.is (c.put_numbered.ensures.appended told)

pub returns-in-CatalogVersion-clause-appended : goal.returns-in-CatalogVersion-clause-appended
returns-in-CatalogVersion-clause-appended g c told = put_for _ _ _ _ _ c.in-CatalogVersion.is (c.put_numbered-in-CatalogVersion.ensures.appended told)

pub returns-in-NotShutDown-clause-appended : goal.returns-in-NotShutDown-clause-appended
returns-in-NotShutDown-clause-appended g c told = put_for _ _ _ _ _ c.in-NotShutDown.is (c.put_numbered-in-NotShutDown.ensures.appended told)

pub returns-in-BlockSize-clause-appended : goal.returns-in-BlockSize-clause-appended
returns-in-BlockSize-clause-appended g c told = put_for _ _ _ _ _ c.in-BlockSize.is (c.put_sided-in-BlockSize.ensures.appended told)

pub returns-in-ControlDiffers-clause-appended : goal.returns-in-ControlDiffers-clause-appended
returns-in-ControlDiffers-clause-appended g c told = put_for _ _ _ _ _ c.in-ControlDiffers.is (c.put_differing.ensures.appended told)

pub returns-in-Prepared-clause-appended : goal.returns-in-Prepared-clause-appended
returns-in-Prepared-clause-appended g c told = put_for _ _ _ _ _ c.in-Prepared.is (c.put_sided-in-Prepared.ensures.appended told)

pub returns-in-CatalogText-clause-appended : goal.returns-in-CatalogText-clause-appended
returns-in-CatalogText-clause-appended g c told = put_for _ _ _ _ _ c.in-CatalogText.is (c.put_catalog_reason.ensures.appended told)

pub returns-in-TooMany-clause-appended : goal.returns-in-TooMany-clause-appended
returns-in-TooMany-clause-appended g c told = put_for _ _ _ _ _ c.in-TooMany.is (puts _ _ _ _ (c.put-in-TooMany.ensures.appended told) (c.put-in-TooMany.ensures.part told))

pub returns-in-InstallUser-clause-appended : goal.returns-in-InstallUser-clause-appended
returns-in-InstallUser-clause-appended g c told = put_for _ _ _ _ _ c.in-InstallUser.is (puts _ _ _ _ (c.put-in-InstallUser.ensures.appended told) (c.put-in-InstallUser.ensures.part told))

pub returns-in-NewRoles-clause-appended : goal.returns-in-NewRoles-clause-appended
returns-in-NewRoles-clause-appended g c told = put_for _ _ _ _ _ c.in-NewRoles.is (puts _ _ _ _ (c.put-in-NewRoles.ensures.appended told) (c.put-in-NewRoles.ensures.part told))

pub returns-in-ConnectFlag-clause-appended : goal.returns-in-ConnectFlag-clause-appended
returns-in-ConnectFlag-clause-appended g c told =
    put_for _ _ _ _ _ c.in-ConnectFlag.is
    (puts_same _ _ _ _ _ (ap (λ n. labelled (codes "connections of database ") n) c.from.ensures) (c.put_labelled.ensures.appended told))

pub returns-in-RegColumn-clause-appended : goal.returns-in-RegColumn-clause-appended
returns-in-RegColumn-clause-appended g c told = put_for _ _ _ _ _ c.in-RegColumn.is (c.put_column.ensures.appended told)

pub returns-in-AclColumn-clause-appended : goal.returns-in-AclColumn-clause-appended
returns-in-AclColumn-clause-appended g c told = put_for _ _ _ _ _ c.in-AclColumn.is (c.put_column-in-AclColumn.ensures.appended told)

pub returns-in-NewNotEmpty-clause-appended : goal.returns-in-NewNotEmpty-clause-appended
returns-in-NewNotEmpty-clause-appended g c told = put_for _ _ _ _ _ c.in-NewNotEmpty.is (puts _ _ _ _ (c.put-in-NewNotEmpty.ensures.appended told) (c.put-in-NewNotEmpty.ensures.part told))

pub returns-in-NewUsed-clause-appended : goal.returns-in-NewUsed-clause-appended
returns-in-NewUsed-clause-appended g c told = put_for _ _ _ _ _ c.in-NewUsed.is (c.put_place.ensures.appended told)

pub returns-in-TablespaceDir-clause-appended : goal.returns-in-TablespaceDir-clause-appended
returns-in-TablespaceDir-clause-appended g c told = put_for _ _ _ _ _ c.in-TablespaceDir.is (c.put_tablespace.ensures.appended told)

pub returns-in-MissingFile-clause-appended : goal.returns-in-MissingFile-clause-appended
returns-in-MissingFile-clause-appended g c told = put_for _ _ _ _ _ c.in-MissingFile.is (c.put_place-in-MissingFile.ensures.appended told)

pub returns-in-SharedInode-clause-appended : goal.returns-in-SharedInode-clause-appended
returns-in-SharedInode-clause-appended g c told = put_for _ _ _ _ _ c.in-SharedInode.is (c.put_place-in-SharedInode.ensures.appended told)

pub returns-in-DeviceDiffers-clause-appended : goal.returns-in-DeviceDiffers-clause-appended
returns-in-DeviceDiffers-clause-appended g c told = put_for _ _ _ _ _ c.in-DeviceDiffers.is (c.put_place-in-DeviceDiffers.ensures.appended told)

pub returns-in-ControlOldExists-clause-appended : goal.returns-in-ControlOldExists-clause-appended
returns-in-ControlOldExists-clause-appended g c told = put_for _ _ _ _ _ c.in-ControlOldExists.is (puts _ _ _ _ (c.put-in-ControlOldExists.ensures.appended told) (c.put-in-ControlOldExists.ensures.part told))
