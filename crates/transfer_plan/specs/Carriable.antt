-- What a transfer needs of a state.
use Rattle.std.specs.Prelude.{◌≡◌, ◌≢◌, ℕ, List, [], ◌∷◌, map, Some, is_some}
use Rattle.std.specs.List.{AllByRecursion}
use Rattle.std.specs.FinMap.{get}
use Rattle.fs_model.specs.declared.node.Node.TheVariants.{Dir, File}
use Rattle.fs_model.specs.Names.{Path, parent}
use Rattle.fs_model.specs.State.{Names, FsState}
use Rattle.fs_model.specs.Calls.{Call, Creates, MakesDir, MakesSymlink, Links, Renames, Unlinks, RemovesDir, device_of}
use Rattle.crash_safety.specs.Synced.{IsOneOf}
use Rattle.transfer_plan.specs.declared.plan.PlanItem.{PlanItem}

-- the old names of the items, and the new ones
abbrev pub sources : List PlanItem → List Path
sources items = map (λ item. item.from) items

abbrev pub targets : List PlanItem → List Path
targets items = map (λ item. item.to) items

-- A file stands at the old name, a directory holds the new one, and there stands something, but no directory, exactly where it is replaced.
pub record IsCarriable (names : Names) (item : PlanItem) : Type 0 where
  pub inode : ℕ
  pub file : get names item.from ≡ Some (File inode)
  pub dir : get names (parent item.to) ≡ Some Dir
  pub replaces : item.replaces ≡ is_some (get names item.to)
  pub no_dir : get names item.to ≢ Some Dir

-- each new name is none of those behind it
abbrev pub AreApart : List PlanItem → Type 0
AreApart [] = Unit {0}
AreApart (item ∷ items) = (IsOneOf (targets items) item.to → ⊥) × AreApart items

-- Each item can be carried, and no new name is another item's, or an old name.
pub record CanBeCarried (names : Names) (items : List PlanItem) : Type 0 where
  pub each : AllByRecursion (IsCarriable names) items
  pub apart : AreApart items
  pub other : (path : Path) → IsOneOf (sources items) path → IsOneOf (targets items) path → ⊥

-- of each item the directories of both names have one device, as a link needs
abbrev pub HaveOneDevice : FsState → List PlanItem → Type 0
HaveOneDevice s items = AllByRecursion (λ item. device_of s (parent item.from) ≡ device_of s (parent item.to)) items

-- the names that all this speaks of
abbrev pub names_of : List PlanItem → List Path
names_of [] = []
names_of (item ∷ items) = item.from ∷ item.to ∷ parent item.from ∷ parent item.to ∷ names_of items

-- a call that neither makes nor removes this name
abbrev pub SparesName : Path → Call → Type 0
SparesName name (Creates path) = name ≢ path
SparesName name (MakesDir path) = name ≢ path
SparesName name (MakesSymlink path target) = name ≢ path
SparesName name (Links from to) = name ≢ to
SparesName name (Renames from to) = (name ≢ from) × (name ≢ to)
SparesName name (Unlinks path) = name ≢ path
SparesName name (RemovesDir path) = name ≢ path
SparesName name call = Unit {0}

-- a call that neither makes nor removes a name that the plan speaks of
abbrev pub SparesPlan : List PlanItem → FsState → Call → Type 0
SparesPlan items s call = (name : Path) → IsOneOf (names_of items) name → SparesName name call
