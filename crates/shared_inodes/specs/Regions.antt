-- Directories that are walked one after another.
use Rattle.std.specs.Prelude.{◌≡◌, ◌↔◌, ◌++◌, List, [], ◌∷◌, Some}
use Rattle.std.specs.List.{AllByRecursion}
use Rattle.std.specs.declared.cmp.Ordering.TheVariants.{Less}
use Rattle.fs_model.specs.declared.node.Stat.{Stat}
use Rattle.fs_model.specs.Names.{Path, path_cmp}
use Rattle.fs_model.specs.State.{FsState}
use Rattle.fs_model.specs.Reading.{stat_of}
use Rattle.crash_safety.specs.Frame.{IsInside}
use Rattle.fs_tools.specs.Walked.{IsAmong, IsAscending}

-- each path under the first directory is before each under the second
abbrev pub IsBefore : Path → Path → Type 0
IsBefore first second = (path other : Path) → path_cmp (first ++ path) (second ++ other) ≡ Less

-- each of these directories is before those behind it, so that none is under another
abbrev pub AreInTurn : List Path → Type 0
AreInTurn [] = Unit {0}
AreInTurn (top ∷ tops) = AllByRecursion (IsBefore top) tops × AreInTurn tops

-- These directories are in turn, and the paths inside them are those inside the others.
pub record Cover (others tops : List Path) : Type 0 where
  pub in_turn : AreInTurn tops
  pub same : (path : Path) → IsInside tops path ↔ IsInside others path

-- a path inside the directories, with what `stat` says of it
abbrev pub IsNameIn : FsState → List Path → Path × Stat → Type 0
IsNameIn s tops item = IsInside tops item.0 × (stat_of s item.0 ≡ Some item.1)

-- The list has each name inside the directories and no other, in ascending order, each with what `stat` says of it.
pub record IsWalkIn (s : FsState) (tops : List Path) (items : List (Path × Stat)) : Type 0 where
  pub ascending : IsAscending items
  pub each : AllByRecursion (IsNameIn s tops) items
  pub whole : (path : Path) (stat : Stat) → IsInside tops path → stat_of s path ≡ Some stat → IsAmong items (path, stat)
