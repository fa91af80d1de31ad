-- The sync of a tree: the calls that it takes, and what they leave.
use Rattle.std.specs.Prelude.{◌≡◌, ℕ, List, false, Some}
use Rattle.std.specs.List.{AllByRecursion}
use Rattle.std.specs.FinMap.{get, contains_key}
use Rattle.fs_model.specs.declared.node.Node.TheVariants.{File}
use Rattle.fs_model.specs.Names.{Path, IsUnder}
use Rattle.fs_model.specs.State.{Change, FsState}
use Rattle.fs_model.specs.Effects.{is_in}
use Rattle.fs_model.specs.Calls.{Call, Stats, Lists, SyncsFile, SyncsDir}
use Rattle.fs_model.specs.Trail.{Trail, Goes}

-- a call that looks, or puts a file under the top on the disk
abbrev pub SyncsFiles : Path → FsState → Call → Type 0
SyncsFiles top s (Stats path) = Unit {0}
SyncsFiles top s (Lists path) = Unit {0}
SyncsFiles top s (SyncsFile path) = IsUnder top path
SyncsFiles top s call = ⊥

-- a call that puts a directory under the top on the disk
abbrev pub SyncsDirs : Path → FsState → Call → Type 0
SyncsDirs top s (SyncsDir path) = IsUnder top path
SyncsDirs top s call = ⊥

-- The trail went on by syncs of files under the top, and then of directories under it.
abbrev pub SyncsTree : Path → Trail → Trail → Type 0
SyncsTree top old new = (mid : Trail) × Goes (SyncsFiles top) old mid × Goes (SyncsDirs top) mid new

-- the file at the path, if there is one, is not dirty
abbrev pub IsCleanAt : Path → FsState → Type 0
IsCleanAt path s = (inode : ℕ) → get s.names path ≡ Some (File inode) → contains_key s.dirty inode ≡ false

-- none of the changes is one of names in the directory
abbrev pub IsQuiet : Path → List Change → Type 0
IsQuiet dir changes = AllByRecursion (λ change. is_in dir change ≡ false) changes

-- What only syncs leave: the names and bytes of a, what was clean, and directories in which nothing waited.
pub record OnlySyncs (a s : FsState) : Type 0 where
  pub names : s.names ≡ a.names
  pub bytes : s.bytes ≡ a.bytes
  pub devices : s.devices ≡ a.devices
  pub clean : (inode : ℕ) → contains_key a.dirty inode ≡ false → contains_key s.dirty inode ≡ false
  pub quiet : (dir : Path) → IsQuiet dir a.pending → IsQuiet dir s.pending
