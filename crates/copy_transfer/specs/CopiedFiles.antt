-- Copying the files of a plan: the calls, and what stands in the end.
use Rattle.std.specs.Prelude.{◌≡◌, ◌≢◌, ◌++◌, ℕ, List, [], ◌∷◌, drop, Some, None}
use Rattle.std.specs.List.{AllByRecursion}
use Rattle.std.specs.FinMap.{get}
use Rattle.fs_model.specs.declared.node.Node.TheVariants.{File}
use Rattle.fs_model.specs.Names.{Path}
use Rattle.fs_model.specs.State.{FsState}
use Rattle.fs_model.specs.Calls.{Call}
use Rattle.fs_model.specs.Reading.{file_bytes}
use Rattle.crash_safety.specs.Calling.{IsPlain}
use Rattle.fs_tools.specs.Copied.{CopiesFile}
use Rattle.transfer_plan.specs.declared.plan.PlanItem.{PlanItem}
use Rattle.transfer_plan.specs.Changed.{TransfersTo, cleared}

-- A call of a run that began in a: it reads, removes or creates one of these names, or writes to a file there that the run has made. It gives
-- no file a further name.
abbrev pub CopiesTo : List Path → FsState → FsState → Call → Type 0
CopiesTo paths a s call = TransfersTo paths a s call × IsPlain call

-- the state t is s with a copy of the item's file at its new name, in place of what it replaces
abbrev pub CopiesItem : FsState → PlanItem → FsState → Type 0
CopiesItem s item t = (number : ℕ) × CopiesFile (cleared s item) item.from item.to number t

-- The file at the item's new name in t has the bytes that the one at its old name has in s, and an inode that s had not.
pub record IsCopied (s t : FsState) (item : PlanItem) : Type 0 where
  pub bytes : List ℕ
  pub source : file_bytes s item.from ≡ Some bytes
  pub made : ℕ
  pub there : get t.names item.to ≡ Some (File made)
  pub unused : get s.bytes made ≡ None
  pub same : get t.bytes made ≡ Some bytes

-- no two of the new names have one file
abbrev pub HaveOwnFiles : FsState → List PlanItem → Type 0
HaveOwnFiles t [] = Unit {0}
HaveOwnFiles t (item ∷ items) = AllByRecursion (λ later. get t.names item.to ≢ get t.names later.to) items × HaveOwnFiles t items

-- Each item is copied, each to a file of its own.
pub record AreCopied (s t : FsState) (items : List PlanItem) : Type 0 where
  pub each : AllByRecursion (IsCopied s t) items
  pub own : HaveOwnFiles t items

-- A first part of the items is copied, and at the new names of those behind the next one stands what stood there.
pub record IsPartlyCopied (s t : FsState) (items : List PlanItem) : Type 0 where
  pub done : List PlanItem
  pub left : List PlanItem
  pub is : items ≡ done ++ left
  pub copied : AreCopied s t done
  pub untouched : AllByRecursion (λ item. get t.names item.to ≡ get s.names item.to) (drop 1 left)
