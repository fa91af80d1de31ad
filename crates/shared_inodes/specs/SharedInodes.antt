-- The files that two clusters share.
use Rattle.std.specs.Prelude.{◌≡◌, ◌-◌, ◌^◌, ℕ, min, List, [], ◌∷◌, length, Option, Some}
use Rattle.std.specs.List.{AllByRecursion}
use Rattle.std.specs.declared.cmp.Ordering.TheVariants.{Less}
use Rattle.std.specs.FinMap.{get}
use Rattle.fs_model.specs.declared.node.Node.TheVariants.{File}
use Rattle.fs_model.specs.Names.{Path, path_cmp}
use Rattle.fs_model.specs.State.{Names, FsState}
use Rattle.crash_safety.specs.Frame.{IsInside}
use Rattle.fs_tools.specs.Walked.{IsAmong}
use Rattle.tree_checks.specs.Findings.{IsLeast}
use Rattle.tree_checks.specs.Shared.{old_regions, new_regions}

-- a file of this inode has a name inside these directories
abbrev pub IsNamedIn : Names → List Path → ℕ → Type 0
IsNamedIn names tops inode = (path : Path) × IsInside tops path × (get names path ≡ Some (File inode))

-- the path is a name inside the first directories of a file that has one inside the others
abbrev pub IsSharedIn : Names → List Path → List Path → Path → Type 0
IsSharedIn names tops others path = (inode : ℕ) × IsInside tops path × (get names path ≡ Some (File inode)) × IsNamedIn names others inode

-- the path is a name of the new cluster of a file that the old cluster names too
abbrev pub IsShared : Names → Path → Path → Path → Type 0
IsShared names old new path = IsSharedIn names (new_regions names old new) (old_regions names old) path

-- the least of these paths, or none where the clusters share no file
abbrev pub IsSharedInode : FsState → Path → Path → Option Path → Type 0
IsSharedInode s old new = IsLeast (IsShared s.names old new)

-- each path is before those behind it
abbrev pub IsRising : List Path → Type 0
IsRising [] = Unit {0}
IsRising (path ∷ paths) = AllByRecursion (λ later. path_cmp path later ≡ Less) paths × IsRising paths

-- These are the paths that have P, each once, in ascending order.
pub record AreAllOf (P : Path → Type 0) (paths : List Path) : Type 0 where
  pub ascending : IsRising paths
  pub each : AllByRecursion P paths
  pub whole : (path : Path) → P path → IsAmong paths path

-- the number of the paths that have P; the greatest that there is stands for each greater one
abbrev pub IsNumberOf : (Path → Type 0) → ℕ → Type 0
IsNumberOf P number = (paths : List Path) × AreAllOf P paths × (number ≡ min (length paths) (2 ^ 64 - 1))

-- the number of the new cluster's paths of files that the old cluster names too
abbrev pub IsSharedNumber : FsState → Path → Path → ℕ → Type 0
IsSharedNumber s old new = IsNumberOf (IsShared s.names old new)
