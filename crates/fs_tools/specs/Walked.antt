-- What a walk gives.
use Rattle.std.specs.Prelude.{◌≡◌, ◌⊎◌, List, [], ◌∷◌, Some}
use Rattle.std.specs.List.{AllByRecursion}
use Rattle.std.specs.declared.cmp.Ordering.TheVariants.{Less}
use Rattle.std.specs.FinMap.{get}
use Rattle.fs_model.specs.declared.node.Node.TheVariants.{Dir}
use Rattle.fs_model.specs.declared.node.Kind.{Kind}
use Rattle.fs_model.specs.declared.node.Kind.TheVariants.{Dir as DirKind, File as FileKind, Sym as SymKind}
use Rattle.fs_model.specs.declared.node.Stat.{Stat}
use Rattle.fs_model.specs.Names.{Path, path_cmp, IsUnder}
use Rattle.fs_model.specs.State.{FsState}
use Rattle.fs_model.specs.Reading.{stat_of}

-- x is one of the list's elements
abbrev pub IsAmong : {A : Type 0} → List A → A → Type 0
IsAmong [] x = ⊥
IsAmong (y ∷ ys) x = (y ≡ x) ⊎ IsAmong ys x

-- each path is before those behind it
abbrev pub IsAscending : List (Path × Stat) → Type 0
IsAscending [] = Unit {0}
IsAscending (item ∷ items) = AllByRecursion (λ later. path_cmp item.0 later.0 ≡ Less) items × IsAscending items

-- a path under the directory, or itself, with what `stat` says of it
abbrev pub IsNameUnder : FsState → Path → Path × Stat → Type 0
IsNameUnder s top item = IsUnder top item.0 × (stat_of s item.0 ≡ Some item.1)

-- The list has the top and every name below it and no other, in ascending order, each with what `stat` says of it.
pub record IsWalk (s : FsState) (top : Path) (items : List (Path × Stat)) : Type 0 where
  pub ascending : IsAscending items
  pub each : AllByRecursion (IsNameUnder s top) items
  pub whole : (path : Path) (stat : Stat) → IsUnder top path → stat_of s path ≡ Some stat → IsAmong items (path, stat)

-- what becomes of one that takes these names, one after another
abbrev pub TakesAll : {A : Type 0} → (A → Path → Stat → A → Type 0) → A → List (Path × Stat) → A → Type 0
TakesAll takes before [] after = after ≡ before
TakesAll {A} takes before (item ∷ items) after = (next : A) × takes before item.0 item.1 next × TakesAll takes next items after

-- the path is one of these or under one of them
abbrev pub IsUnderOne : List Path → Path → Type 0
IsUnderOne tops path = (top : Path) × IsAmong tops top × IsUnder top path

-- The walk of a directory has come so far: these names of it are done, with all below them.
pub record IsWalkSoFar (s : FsState) (at : Path) (names_done : List Path) (items : List (Path × Stat)) : Type 0 where
  pub ascending : IsAscending items
  pub each : AllByRecursion (IsNameUnder s at) items
  pub bounded : AllByRecursion (λ item. (item.0 ≡ at) ⊎ IsUnderOne names_done item.0) items
  pub whole : (path : Path) (stat : Stat) → (path ≡ at) ⊎ IsUnderOne names_done path → stat_of s path ≡ Some stat → IsAmong items (path, stat)

-- the path, where it is one of a directory
abbrev pub dir_of_kind : Kind → Path → List Path
dir_of_kind DirKind path = path ∷ []
dir_of_kind FileKind path = []
dir_of_kind SymKind path = []

abbrev pub dir_of : Path × Stat → List Path
dir_of item = dir_of_kind item.1.kind item.0

-- The list has each directory under the top and no other path.
pub record AreDirsUnder (s : FsState) (top : Path) (dirs : List Path) : Type 0 where
  pub each : AllByRecursion (λ dir. IsUnder top dir × (get s.names dir ≡ Some Dir)) dirs
  pub whole : (path : Path) → IsUnder top path → get s.names path ≡ Some Dir → IsAmong dirs path
