-- Linking the files of a plan: the calls, and what stands in the end.
use Rattle.std.specs.Prelude.{◌≡◌, ◌⊎◌, ◌++◌, ℕ, List, [], ◌∷◌, drop, Some}
use Rattle.std.specs.List.{AllByRecursion}
use Rattle.std.specs.FinMap.{get}
use Rattle.fs_model.specs.declared.node.Node.TheVariants.{File}
use Rattle.fs_model.specs.Names.{Path}
use Rattle.fs_model.specs.State.{Names, FsState}
use Rattle.fs_model.specs.Effects.{with_change}
use Rattle.fs_model.specs.Calls.{Call, Links, Unlinks}
use Rattle.crash_safety.specs.Frame.{IsInside}
use Rattle.crash_safety.specs.Synced.{IsOneOf}
use Rattle.transfer_plan.specs.declared.plan.PlanItem.{PlanItem}
use Rattle.transfer_plan.specs.Carriable.{targets}
use Rattle.transfer_plan.specs.Changed.{ChangesOnlyAt, cleared}

-- these are both names of one of the items
abbrev pub AreOfOne : List PlanItem → Path → Path → Type 0
AreOfOne [] from to = ⊥
AreOfOne (item ∷ items) from to = ((from ≡ item.from) × (to ≡ item.to)) ⊎ AreOfOne items from to

-- a call that gives an item's file its new name, or removes what stands at a new name
abbrev pub LinksItems : List PlanItem → FsState → Call → Type 0
LinksItems items s (Links from to) = AreOfOne items from to
LinksItems items s (Unlinks path) = IsOneOf (targets items) path
LinksItems items s call = ⊥

-- The state t is s with the item's new name for the file at its old one, in place of what it replaces.
pub record LinksItem (s : FsState) (item : PlanItem) (t : FsState) : Type 0 where
  pub inode : ℕ
  pub named : get (cleared s item).names item.from ≡ Some (File inode)
  pub is : t ≡ with_change (cleared s item) ((item.to, Some (File inode)) ∷ [])

-- At the item's new name in t stands the file that stands at its old one in s.
pub record IsLinked (s t : FsState) (item : PlanItem) : Type 0 where
  pub inode : ℕ
  pub source : get s.names item.from ≡ Some (File inode)
  pub there : get t.names item.to ≡ Some (File inode)

abbrev pub AreLinked : FsState → FsState → List PlanItem → Type 0
AreLinked s t items = AllByRecursion (IsLinked s t) items

-- A first part of the items is linked, and at the new names of those behind the next one stands what stood there.
pub record IsPartlyLinked (s t : FsState) (items : List PlanItem) : Type 0 where
  pub done : List PlanItem
  pub left : List PlanItem
  pub is : items ≡ done ++ left
  pub linked : AreLinked s t done
  pub untouched : AllByRecursion (λ item. get t.names item.to ≡ get s.names item.to) (drop 1 left)

-- The state s is a but for these names, whose changes wait: no file was made, and none written to.
pub record ChangesNamesAt (paths : List Path) (a s : FsState) : Type 0 where
  pub only : ChangesOnlyAt paths a s
  pub bytes : s.bytes ≡ a.bytes
  pub dirty : s.dirty ≡ a.dirty

-- a file that has a name at an old place has none at a new one, but for these
abbrev pub ShareOnly : List Path → List Path → (Path → Type 0) → Names → Type 0
ShareOnly old new Shared names = (path other : Path) (inode : ℕ) → IsInside old path → IsInside new other → get names path ≡ Some (File inode) → get names other ≡ Some (File inode) → Shared other
