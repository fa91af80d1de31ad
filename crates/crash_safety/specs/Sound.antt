-- What holds of every state of an upgrade, so that each crash leaves the old cluster as it was and apart from the new one.
use Rattle.std.specs.Prelude.{◌≡◌, ◌≢◌, ◌⊎◌, ℕ, Bool, true, false, List, [], ◌∷◌, Option, Some, is_some}
use Rattle.std.specs.List.{AllByRecursion}
use Rattle.std.specs.Ordering.{nat_cmp}
use Rattle.std.specs.FinMap.{FinMap, get, contains_key}
use Rattle.fs_model.specs.declared.node.Node.{Node}
use Rattle.fs_model.specs.declared.node.Node.TheVariants.{File}
use Rattle.fs_model.specs.Names.{Path, parent}
use Rattle.fs_model.specs.State.{Names, Contents, Change, FsState}
use Rattle.fs_model.specs.Calls.{Call, Stats, Lists, ReadsAt, ReadsLink, Creates, WritesAt, MakesDir, MakesSymlink, Links, Renames, Unlinks, RemovesDir, SyncsFile, SyncsDir}
use Rattle.fs_model.specs.WellFormed.{Each, EachPair}
use Rattle.crash_safety.specs.Frame.{IsInside, IsOutside, ChangesInside}
use Rattle.crash_safety.specs.Upgrade.{Upgrade, renaming, names_of, IsOldInode}

-- how far the rename of the old control file has come: not begun, waiting to be put on the disk, on the disk
pub data Stage : Type 0 where
  Whole : Stage
  Moving : Stage
  Moved : Stage

-- whether the names have it now, whether those on the disk have it, and whether it waits
abbrev pub is_moved : Stage → Bool
is_moved Whole = false
is_moved Moving = true
is_moved Moved = true

abbrev pub is_moved_kept : Stage → Bool
is_moved_kept Whole = false
is_moved_kept Moving = false
is_moved_kept Moved = true

abbrev pub is_moving : Stage → Bool
is_moving Whole = false
is_moving Moving = true
is_moving Moved = false

-- at a path that is no new place there is what was at the start, before the rename or after it
abbrev pub AsAtStart : Upgrade → Bool → Path → Option Node → Type 0
AsAtStart u moved path node = IsOutside u.new_tops path → node ≡ get (names_of u moved) path

-- Each waiting change is one of new places, but for the rename, which waits once or not at all.
abbrev pub Waits : Upgrade → Bool → List Change → Type 0
Waits u moving [] = moving ≡ false
Waits u moving (change ∷ changes) = (ChangesInside u.new_tops change × Waits u moving changes) ⊎ ((change ≡ renaming u) × (moving ≡ true) × Waits u false changes)

-- a file of the start has its bytes, now and on the disk
pub record IsKept (start : FsState) (inode : ℕ) (bytes bytes_kept : Contents) (dirty : FinMap nat_cmp (Unit {0})) : Type 0 where
  pub clean : contains_key dirty inode ≡ false
  pub now : get bytes inode ≡ get start.bytes inode
  pub kept : get bytes_kept inode ≡ get start.bytes inode

-- The old cluster is as it was at the start, but for the rename.
pub record KeepsOld (u : Upgrade) (stage : Stage) (s : FsState) : Type 0 where
  pub in_mode : is_moved stage ≡ true → u.disables ≡ true
  pub names : Each (AsAtStart u (is_moved stage)) s.names
  pub names_kept : Each (AsAtStart u (is_moved_kept stage)) s.names_kept
  pub pending : Waits u (is_moving stage) s.pending
  pub files : (inode : ℕ) → IsOldInode u inode → IsKept u.start inode s.bytes s.bytes_kept s.dirty
  -- an inode of the start is one still, so no new file has it
  pub inodes : (inode : ℕ) → is_some (get u.start.bytes inode) ≡ true → is_some (get s.bytes inode) ≡ true

-- what stands at a new place is no file of the old cluster
abbrev pub IsNoOldFile : Upgrade → Path → Option Node → Type 0
IsNoOldFile u path node = IsInside u.new_tops path → (inode : ℕ) → node ≡ Some (File inode) → IsOldInode u inode → ⊥

-- No file of the old cluster is one of the new, now or on the disk or once a change is there.
pub record StaysApart (u : Upgrade) (names names_kept : Names) (pending : List Change) : Type 0 where
  pub now : Each (IsNoOldFile u) names
  pub kept : Each (IsNoOldFile u) names_kept
  pub waiting : AllByRecursion (EachPair (IsNoOldFile u)) pending

-- The old cluster is kept, and until the rename is on the disk no file of it is one of the new cluster.
pub record Sound (u : Upgrade) (stage : Stage) (s : FsState) : Type 0 where
  pub keeps : KeepsOld u stage s
  pub apart : is_moved_kept stage ≡ false → StaysApart u s.names s.names_kept s.pending

-- sound at one stage or another
abbrev pub IsSound : Upgrade → FsState → Type 0
IsSound u s = (stage : Stage) × Sound u stage s

-- the file at the path, if there is one, is none of the old cluster
abbrev pub HasNoOldFile : Upgrade → FsState → Path → Type 0
HasNoOldFile u s path = (inode : ℕ) → get s.names path ≡ Some (File inode) → IsOldInode u inode → ⊥

-- A call that an upgrade may make in s. It leaves the stage: the rename of the control file, and putting it on the disk, are none of these.
abbrev pub IsSafeCall : Upgrade → Stage → FsState → Call → Type 0
IsSafeCall u stage s (Stats path) = Unit {0}
IsSafeCall u stage s (Lists path) = Unit {0}
IsSafeCall u stage s (ReadsAt path) = Unit {0}
IsSafeCall u stage s (ReadsLink path) = Unit {0}
IsSafeCall u stage s (Creates path) = IsInside u.new_tops path
IsSafeCall u stage s (WritesAt path from bytes) = HasNoOldFile u s path
IsSafeCall u stage s (MakesDir path) = IsInside u.new_tops path
IsSafeCall u stage s (MakesSymlink path target) = IsInside u.new_tops path
IsSafeCall u stage s (Links from to) = IsInside u.new_tops to × ((stage ≡ Moved) ⊎ HasNoOldFile u s from)
IsSafeCall u stage s (Renames from to) = IsInside u.new_tops from × IsInside u.new_tops to
IsSafeCall u stage s (Unlinks path) = IsInside u.new_tops path
IsSafeCall u stage s (RemovesDir path) = IsInside u.new_tops path
IsSafeCall u stage s (SyncsFile path) = Unit {0}
IsSafeCall u stage s (SyncsDir dir) = stage ≡ Moving → dir ≢ parent u.control
