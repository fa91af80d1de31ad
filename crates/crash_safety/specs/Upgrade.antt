-- An upgrade: where it began, the places of its two clusters, and the one rename that it may make of an old name.
use Rattle.std.specs.Prelude.{◌≡◌, ℕ, Bool, true, cond, List, [], ◌∷◌, Some, None}
use Rattle.std.specs.FinMap.{get}
use Rattle.fs_model.specs.declared.node.Node.TheVariants.{File}
use Rattle.fs_model.specs.Names.{Path}
use Rattle.fs_model.specs.State.{Names, Change, FsState}
use Rattle.fs_model.specs.Effects.{changed}
use Rattle.fs_model.specs.Calls.{Renames, refusal}
use Rattle.fs_model.specs.Crash.{Settled}
use Rattle.fs_model.specs.WellFormed.{WellFormed}
use Rattle.crash_safety.specs.Frame.{IsInside, IsOutside}

pub record Upgrade : Type 0 where
  -- the state that it began in, the directories that the old cluster lives in, and those of the new one
  pub start : FsState
  pub old_tops : List Path
  pub new_tops : List Path
  -- the old cluster's control file, and its name in a cluster that is disabled
  pub control : Path
  pub renamed : Path
  -- the new cluster's control file, the one file of its beginning that is written to
  pub new_control : Path
  -- whether it disables the old cluster, so that the new one may share its files
  pub disables : Bool

-- the rename of the old cluster's control file
abbrev pub renaming : Upgrade → Change
renaming u = (u.control, None) ∷ (u.renamed, get u.start.names u.control) ∷ []

-- the names of the start, before that rename or after it
abbrev pub names_of : Upgrade → Bool → Names
names_of u moved = cond moved (changed u.start.names (renaming u)) u.start.names

-- a file of the old cluster: an inode that has a name at an old place at the start
abbrev pub IsOldInode : Upgrade → ℕ → Type 0
IsOldInode u inode = (path : Path) × IsInside u.old_tops path × (get u.start.names path ≡ Some (File inode))

-- the old cluster can be disabled: its control file can be renamed
pub record CanDisable (u : Upgrade) : Type 0 where
  pub renamed_old : IsInside u.old_tops u.renamed
  pub free : refusal u.start (Renames u.control u.renamed) ≡ None

-- The upgrade may begin: all is on the disk, no old place is a new one, and the old cluster can be disabled if it is to be.
pub record IsReady (u : Upgrade) : Type 0 where
  pub settled : Settled u.start
  pub well_formed : WellFormed u.start
  pub apart : (path : Path) → IsInside u.old_tops path → IsOutside u.new_tops path
  pub control_old : IsInside u.old_tops u.control
  pub control_new : IsInside u.new_tops u.new_control
  pub can_disable : u.disables ≡ true → CanDisable u
