-- What isn't on the disk yet waits to be put there.
use Rattle.std.specs.Prelude.{◌≡◌, ℕ, true, false, Some, is_some}
use Rattle.std.specs.List.{AllByRecursion}
use Rattle.std.specs.FinMap.{get, contains_key}
use Rattle.fs_model.specs.declared.node.Node.TheVariants.{File}
use Rattle.fs_model.specs.Names.{Path}
use Rattle.fs_model.specs.State.{FsState}
use Rattle.fs_model.specs.Effects.{all_changed}
use Rattle.fs_model.specs.WellFormed.{IsOfOneDir}

pub record Tracked (s : FsState) : Type 0 where
  -- the names now are those on the disk with the waiting changes
  pub names : (path : Path) → get s.names path ≡ get (all_changed s.names_kept s.pending) path
  pub together : AllByRecursion IsOfOneDir s.pending
  -- a named file that isn't dirty has its bytes on the disk
  pub has_bytes : (path : Path) (inode : ℕ) → get s.names path ≡ Some (File inode) → is_some (get s.bytes inode) ≡ true
  pub bytes : (path : Path) (inode : ℕ) → get s.names path ≡ Some (File inode) → contains_key s.dirty inode ≡ false → get s.bytes_kept inode ≡ get s.bytes inode
