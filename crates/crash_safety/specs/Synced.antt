-- What a sync of a whole tree leaves, and when that is all.
use Rattle.std.specs.Prelude.{◌≡◌, ◌⊎◌, ℕ, true, false, List, [], ◌∷◌, Some}
use Rattle.std.specs.List.{AllByRecursion}
use Rattle.std.specs.FinMap.{get, contains_key}
use Rattle.fs_model.specs.declared.node.Node.TheVariants.{Dir, File}
use Rattle.fs_model.specs.Names.{Path}
use Rattle.fs_model.specs.State.{Change, FsState}
use Rattle.fs_model.specs.Effects.{is_in}
use Rattle.crash_safety.specs.Frame.{IsInside, IsOutside}

-- No file inside is dirty, and no change waits in a directory inside.
pub record IsSynced (tops : List Path) (s : FsState) : Type 0 where
  pub clean : (path : Path) (inode : ℕ) → IsInside tops path → get s.names path ≡ Some (File inode) → contains_key s.dirty inode ≡ false
  pub quiet : (dir : Path) → IsInside tops dir → get s.names dir ≡ Some Dir → AllByRecursion (λ change. is_in dir change ≡ false) s.pending

-- the path is one of these
abbrev pub IsOneOf : List Path → Path → Type 0
IsOneOf [] path = ⊥
IsOneOf (one ∷ more) path = (path ≡ one) ⊎ IsOneOf more path

-- In these directories no change waits. What is below them may be none of the upgrade's.
abbrev pub AreQuiet : List Path → FsState → Type 0
AreQuiet dirs s = (dir : Path) → IsOneOf dirs dir → get s.names dir ≡ Some Dir → AllByRecursion (λ change. is_in dir change ≡ false) s.pending

-- the directory is inside, or one of those that hold them: a tablespace's location holds the release's directory
abbrev pub IsHeld : List Path → List Path → Path → Type 0
IsHeld tops holders dir = IsInside tops dir ⊎ IsOneOf holders dir

-- the change waits in such a directory that stands
abbrev pub WaitsInside : List Path → List Path → FsState → Change → Type 0
WaitsInside tops holders s change = (dir : Path) × IsHeld tops holders dir × (get s.names dir ≡ Some Dir) × (is_in dir change ≡ true)

-- All that isn't on the disk is inside these directories, or a name in one that holds them. A file outside that is dirty has a name inside
-- too: it is the one at `rewritten`, which may be written to though it stood at the beginning.
pub record NeedsOnly (tops holders : List Path) (rewritten : Path) (s : FsState) : Type 0 where
  pub waiting : AllByRecursion (WaitsInside tops holders s) s.pending
  pub clean : (path : Path) (inode : ℕ) → IsOutside tops path → get s.names path ≡ Some (File inode) → (contains_key s.dirty inode ≡ false) ⊎ (get s.names rewritten ≡ Some (File inode))
