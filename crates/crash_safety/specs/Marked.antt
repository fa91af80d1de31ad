-- The mark: one more file, made when all else is on the disk.
use Rattle.std.specs.Prelude.{◌≡◌, ◌≢◌, ℕ, Some}
use Rattle.std.specs.List.{AllByRecursion}
use Rattle.std.specs.FinMap.{get}
use Rattle.fs_model.specs.declared.node.Node.TheVariants.{File}
use Rattle.fs_model.specs.Names.{Path}
use Rattle.fs_model.specs.State.{FsState}
use Rattle.fs_model.specs.Calls.{Call, Creates}
use Rattle.fs_model.specs.WellFormed.{EachPair}
use Rattle.crash_safety.specs.Sound.{IsKept}
use Rattle.crash_safety.specs.Calling.{Syncs}

-- s is b with the mark made or not; all but the mark is on the disk as it is in b.
pub record AllButMark (mark : Path) (b s : FsState) : Type 0 where
  pub now : (path : Path) → path ≢ mark → get s.names path ≡ get b.names path
  pub kept : (path : Path) → path ≢ mark → get s.names_kept path ≡ get b.names path
  pub waiting : AllByRecursion (EachPair (λ path _. path ≡ mark)) s.pending
  pub files : (path : Path) (inode : ℕ) → get b.names path ≡ Some (File inode) → IsKept b inode s.bytes s.bytes_kept s.dirty

-- x has the names of b and the bytes of its files, but for the mark.
pub record SameButMark (mark : Path) (b x : FsState) : Type 0 where
  pub names : (path : Path) → path ≢ mark → get x.names path ≡ get b.names path
  pub bytes : (path : Path) (inode : ℕ) → get b.names path ≡ Some (File inode) → get x.bytes inode ≡ get b.bytes inode

-- a call that makes the mark, reads, or puts things on the disk
abbrev pub Marks : Path → FsState → Call → Type 0
Marks mark s (Creates path) = path ≡ mark
Marks mark s call = Syncs s call
