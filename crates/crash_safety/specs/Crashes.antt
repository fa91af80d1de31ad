-- What every crash of an upgrade leaves.
use Rattle.std.specs.Prelude.{◌≡◌, ℕ, Bool, true, List, Some, None, is_some}
use Rattle.std.specs.FinMap.{get}
use Rattle.fs_model.specs.declared.node.Node.TheVariants.{File}
use Rattle.fs_model.specs.Names.{Path}
use Rattle.fs_model.specs.State.{FsState}
use Rattle.fs_model.specs.Crash.{Image}
use Rattle.fs_model.specs.WellFormed.{Each}
use Rattle.crash_safety.specs.Frame.{IsInside}
use Rattle.crash_safety.specs.Upgrade.{Upgrade, IsOldInode}
use Rattle.crash_safety.specs.Sound.{AsAtStart}

-- In x the old cluster, and all that is in neither cluster, is as at the start, but for the control file's rename where the upgrade disables.
pub record OldKept (u : Upgrade) (x : FsState) : Type 0 where
  pub moved : Bool
  pub in_mode : moved ≡ true → u.disables ≡ true
  pub names : Each (AsAtStart u moved) x.names
  pub bytes : (inode : ℕ) → IsOldInode u inode → get x.bytes inode ≡ get u.start.bytes inode

-- While the old control file stands in x, no file has a name in both clusters.
abbrev pub Apart : Upgrade → FsState → Type 0
Apart u x = is_some (get x.names u.control) ≡ true
    → (path other : Path) (inode : ℕ) → IsInside u.old_tops path → IsInside u.new_tops other → get x.names path ≡ Some (File inode) → get x.names other ≡ Some (File inode) → ⊥

-- what a crash may leave at every moment
pub record IsSafe (u : Upgrade) (x : FsState) : Type 0 where
  pub old_kept : OldKept u x
  pub apart : Apart u x

-- In x the control file stands under its later name alone.
pub record IsRenamed (u : Upgrade) (x : FsState) : Type 0 where
  pub gone : get x.names u.control ≡ None
  pub there : get x.names u.renamed ≡ get u.start.names u.control

-- where the names on the disk lack the control file, each crash has it renamed
abbrev pub StaysRenamed : Upgrade → FsState → Type 0
StaysRenamed u s = get s.names_kept u.control ≡ None → (x : FsState) → Image s x → IsRenamed u x

-- At these places x has the names, nodes and bytes of the start.
pub record AsBefore (start : FsState) (tops : List Path) (x : FsState) : Type 0 where
  pub names : (path : Path) → IsInside tops path → get x.names path ≡ get start.names path
  pub bytes : (path : Path) (inode : ℕ) → IsInside tops path → get start.names path ≡ Some (File inode) → get x.bytes inode ≡ get start.bytes inode
