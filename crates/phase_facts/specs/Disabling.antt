-- What the disabling of the old cluster says of each upgrade.
use Rattle.std.specs.Prelude.{◌≡◌, true}
use Rattle.fs_model.specs.Names.{Path}
use Rattle.fs_model.specs.State.{FsState}
use Rattle.crash_safety.specs.Upgrade.{Upgrade, IsReady}
use Rattle.crash_safety.specs.Sound.{Whole, Sound}

-- each upgrade that is to rename this control file has P, where the state is a sound one of it before the rename
abbrev pub ForEachUpgrade : Path → Path → FsState → (Upgrade → Type 0) → Type 0
ForEachUpgrade control renamed s P = (u : Upgrade) → IsReady u → u.disables ≡ true → u.control ≡ control → u.renamed ≡ renamed → Sound u Whole s → P u
