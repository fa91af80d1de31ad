-- What a transfer leaves as it was, and what its first step for each item does.
use Rattle.std.specs.Prelude.{◌≡◌, ◌++◌, ℕ, true, if◌then◌else◌, List, [], ◌∷◌, None, is_some}
use Rattle.std.specs.List.{AllByRecursion}
use Rattle.std.specs.FinMap.{get}
use Rattle.fs_model.specs.Names.{Path}
use Rattle.fs_model.specs.State.{Change, FsState}
use Rattle.fs_model.specs.Effects.{with_change}
use Rattle.fs_model.specs.Calls.{Call, Stats, ReadsAt, Creates, WritesAt, Links, Unlinks, refusal}
use Rattle.fs_model.specs.WellFormed.{EachPair}
use Rattle.crash_safety.specs.Frame.{IsMadeSince}
use Rattle.crash_safety.specs.Synced.{IsOneOf}
use Rattle.transfer_plan.specs.declared.plan.PlanItem.{PlanItem}

-- The state s is a but for these names, whose changes wait, and for files that a had not.
pub record ChangesOnlyAt (paths : List Path) (a s : FsState) : Type 0 where
  pub names : (path : Path) → (IsOneOf paths path → ⊥) → get s.names path ≡ get a.names path
  pub bytes : (inode : ℕ) → is_some (get a.bytes inode) ≡ true → get s.bytes inode ≡ get a.bytes inode
  pub dirty : (inode : ℕ) → is_some (get a.bytes inode) ≡ true → get s.dirty inode ≡ get a.dirty inode
  pub names_kept : s.names_kept ≡ a.names_kept
  pub bytes_kept : s.bytes_kept ≡ a.bytes_kept
  pub devices : s.devices ≡ a.devices
  pub added : List Change
  pub pending : s.pending ≡ a.pending ++ added
  pub inside : AllByRecursion (EachPair (λ path _. IsOneOf paths path)) added

-- the state without what stands at the new name, where that is replaced
abbrev pub cleared : FsState → PlanItem → FsState
cleared s item = if item.replaces then with_change s ((item.to, None) ∷ []) else s

-- a call that removes this name
abbrev pub Removes : Path → FsState → Call → Type 0
Removes at s (Unlinks path) = path ≡ at
Removes at s call = ⊥

-- the file at the old name can be read, and one at the new name made
abbrev pub IsFree : FsState → PlanItem → Type 0
IsFree s item = (refusal s (ReadsAt item.from) ≡ None) × (refusal s (Creates item.to) ≡ None)

-- A call of a run that began in a: it reads, removes or makes one of these names, or writes to a file there that the run has made.
abbrev pub TransfersTo : List Path → FsState → FsState → Call → Type 0
TransfersTo paths a s (Stats path) = Unit {0}
TransfersTo paths a s (ReadsAt path) = Unit {0}
TransfersTo paths a s (Unlinks path) = IsOneOf paths path
TransfersTo paths a s (Creates path) = IsOneOf paths path
TransfersTo paths a s (WritesAt path from bytes) = IsOneOf paths path × IsMadeSince a s path
TransfersTo paths a s (Links from to) = IsOneOf paths to
TransfersTo paths a s call = ⊥
