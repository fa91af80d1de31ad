-- What holds of every state that a file system is in.
use Rattle.std.specs.Prelude.{◌≡◌, ◌≢◌, ℕ, true, false, [], Option, Some, None, is_some}
use Rattle.std.specs.List.{AllByRecursion}
use Rattle.std.specs.FinMap as map
use Rattle.fs_model.specs.declared.node.Node.{Node}
use Rattle.fs_model.specs.declared.node.Node.TheVariants.{Dir, File, Sym}
use Rattle.fs_model.specs.Names.{Path, parent}
use Rattle.fs_model.specs.State.{Names, Contents, Change, Devices, FsState}
use Rattle.fs_model.specs.Calls.{blocked}

-- at each path the names have what P allows there
abbrev pub Each : (Path → Option Node → Type 0) → Names → Type 0
Each P names = (path : Path) → P path (map.get names path)

-- each pair of the change has P
abbrev pub EachPair : (Path → Option Node → Type 0) → Change → Type 0
EachPair P change = AllByRecursion (λ pair. P pair.0 pair.1) change

-- each proper prefix of a name is a directory
abbrev pub IsTree : Names → Type 0
IsTree names = (path : Path) → is_some (map.get names path) ≡ true → blocked names path ≡ None

-- a file's inode has bytes, and a directory has a device
abbrev pub IsKnown : Contents → Devices → Path → Option Node → Type 0
IsKnown bytes devices path None = Unit {0}
IsKnown bytes devices path (Some Dir) = is_some (map.get devices path) ≡ true
IsKnown bytes devices path (Some (File inode)) = is_some (map.get bytes inode) ≡ true
IsKnown bytes devices path (Some (Sym target)) = Unit {0}

-- no change has the root
abbrev pub IsBelowRoot : Path → Option Node → Type 0
IsBelowRoot path _ = path ≢ []

-- all names of the change are of one directory
abbrev pub IsOfOneDir : Change → Type 0
IsOfOneDir change = (dir : Path) × EachPair (λ path _. parent path ≡ dir) change

pub record WellFormed (s : FsState) : Type 0 where
  pub root : map.get s.names [] ≡ Some Dir
  pub root_kept : map.get s.names_kept [] ≡ Some Dir
  pub tree : IsTree s.names
  -- what names now, names on the disk and waiting changes have is known
  pub names : Each (IsKnown s.bytes s.devices) s.names
  pub names_kept : Each (IsKnown s.bytes s.devices) s.names_kept
  pub pending : AllByRecursion (EachPair (IsKnown s.bytes s.devices)) s.pending
  pub pending_below : AllByRecursion (EachPair IsBelowRoot) s.pending
  pub together : AllByRecursion IsOfOneDir s.pending
  -- a dirty inode has bytes, and one that isn't has them on the disk too
  pub dirty : (inode : ℕ) → map.contains_key s.dirty inode ≡ true → is_some (map.get s.bytes inode) ≡ true
  pub clean : (inode : ℕ) → map.contains_key s.dirty inode ≡ false → is_some (map.get s.bytes inode) ≡ true → is_some (map.get s.bytes_kept inode) ≡ true
