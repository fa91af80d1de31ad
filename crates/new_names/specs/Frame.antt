-- What the making of listed names may have changed, though it may have been cut short by a failure at any call.
use Rattle.std.specs.Prelude.{◌≡◌, ◌⊎◌, ℕ, true, false, List, Option, Some, None, is_some}
use Rattle.std.specs.List.{AllByRecursion, Contains}
use Rattle.std.specs.FinMap.{get, contains_key}
use Rattle.fs_model.specs.declared.node.Node.{Node}
use Rattle.fs_model.specs.declared.node.Node.TheVariants as node
use Rattle.fs_model.specs.Names.{Path, parent}
use Rattle.fs_model.specs.State.{FsState}
use Rattle.fs_model.specs.Calls.{Call, Stats, Lists, ReadsAt, ReadsLink, Creates, WritesAt, MakesDir, MakesSymlink, Links, Renames, Unlinks, RemovesDir, SyncsFile, SyncsDir, device_of}
use Rattle.fs_model.specs.WellFormed.{Each, EachPair, WellFormed}
use Rattle.crash_safety.specs.Frame.{IsUntouched, IsMadeSince}
use Rattle.new_names.specs.declared.names.NewName.{NewName}
use Rattle.new_names.specs.declared.names.NewNode.{NewNode}
use Rattle.new_names.specs.declared.names.NewNode.TheVariants.{Dir, File, Sym}

-- this is listed to stand at the path
abbrev pub IsListed : List NewName → Path → NewNode → Type 0
IsListed listed path what = Contains listed (record { path = path; node = what })

-- what is listed stands there; a file has an inode that the start had not
abbrev pub IsMade : FsState → NewNode → Option Node → Type 0
IsMade start Dir found = found ≡ Some node.Dir
IsMade start (File bytes) found = (inode : ℕ) × (get start.bytes inode ≡ None) × (found ≡ Some (node.File inode))
IsMade start (Sym target) found = found ≡ Some (node.Sym target)

-- the path is listed, and has nothing, or what it had at the start, or what is listed there
abbrev pub IsOwn : List NewName → FsState → Path → Option Node → Type 0
IsOwn listed start path found =
    (what : NewNode) × IsListed listed path what × ((found ≡ None) ⊎ ((found ≡ get start.names path) ⊎ IsMade start what found))

-- the path has what it had at the start, or is one of the listed
abbrev pub IsOldOrOwn : List NewName → FsState → Path → Option Node → Type 0
IsOldOrOwn listed start path found = (found ≡ get start.names path) ⊎ IsOwn listed start path found

-- the same of what is on the disk, but for a path with a change that waited at the start
abbrev pub IsKeptOrOwn : List NewName → FsState → Path → Option Node → Type 0
IsKeptOrOwn listed start path found = IsUntouched start.pending path → (found ≡ get start.names_kept path) ⊎ IsOwn listed start path found

-- a directory is listed at the path, which has its parent's device where it stands
abbrev pub HasParentsDevice : List NewName → FsState → Path → Type 0
HasParentsDevice listed s path = IsListed listed path Dir × (get s.names path ≡ Some node.Dir → get s.devices path ≡ Some (device_of s (parent path)))

-- The state s came from the start by making listed names, by writes to inodes that the start had not, and by syncs.
pub record MakesOnly (listed : List NewName) (start s : FsState) : Type 0 where
  pub names : Each (IsOldOrOwn listed start) s.names
  pub names_kept : Each (IsKeptOrOwn listed start) s.names_kept
  pub pending : AllByRecursion (λ change. Contains start.pending change ⊎ EachPair (IsOwn listed start) change) s.pending
  -- an inode of the start has its bytes still, and what is on the disk is what was there or these
  pub bytes : (inode : ℕ) → is_some (get start.bytes inode) ≡ true → get s.bytes inode ≡ get start.bytes inode
  pub bytes_kept : (inode : ℕ) → is_some (get start.bytes inode) ≡ true → (get s.bytes_kept inode ≡ get start.bytes_kept inode) ⊎ (get s.bytes_kept inode ≡ get start.bytes inode)
  pub clean : (inode : ℕ) → is_some (get start.bytes inode) ≡ true → contains_key start.dirty inode ≡ false → contains_key s.dirty inode ≡ false
  -- a directory has its device of the start, or is listed, and has its parent's
  pub devices : (path : Path) → (get s.devices path ≡ get start.devices path) ⊎ HasParentsDevice listed s path

-- A call in s, of a run that began in the start, that makes a listed name or leaves the names. A directory is made in a
-- state that is well-formed, so that nothing stands below it yet.
abbrev pub MakesListed : List NewName → FsState → FsState → Call → Type 0
MakesListed listed start s (Stats path) = Unit {0}
MakesListed listed start s (Lists path) = Unit {0}
MakesListed listed start s (ReadsAt path) = Unit {0}
MakesListed listed start s (ReadsLink path) = Unit {0}
MakesListed listed start s (Creates path) = (bytes : List ℕ) × IsListed listed path (File bytes)
MakesListed listed start s (WritesAt path from bytes) = IsMadeSince start s path
MakesListed listed start s (MakesDir path) = IsListed listed path Dir × WellFormed s
MakesListed listed start s (MakesSymlink path target) = IsListed listed path (Sym target)
MakesListed listed start s (Links from to) = ⊥
MakesListed listed start s (Renames from to) = ⊥
MakesListed listed start s (Unlinks path) = (what : NewNode) × IsListed listed path what
MakesListed listed start s (RemovesDir path) = ⊥
MakesListed listed start s (SyncsFile path) = Unit {0}
MakesListed listed start s (SyncsDir path) = Unit {0}
