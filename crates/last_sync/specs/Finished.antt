-- What the end of an upgrade does, and what every crash of it leaves.
use Rattle.std.specs.Prelude.{◌≡◌, ◌⊎◌, ℕ, Some, None}
use Rattle.std.specs.List.{AllByRecursion}
use Rattle.std.specs.FinMap.{get}
use Rattle.fs_model.specs.declared.node.Node.TheVariants.{File}
use Rattle.fs_model.specs.Names.{Path}
use Rattle.fs_model.specs.State.{FsState}
use Rattle.fs_model.specs.Calls.{Stats, Creates, SyncsDir, refusal}
use Rattle.fs_model.specs.WellFormed.{WellFormed}
use Rattle.fs_model.specs.Trail.{Trail, Goes, Since, EachCrash}
use Rattle.crash_safety.specs.Upgrade.{Upgrade}
use Rattle.crash_safety.specs.Sound.{Stage, Sound}
use Rattle.crash_safety.specs.Crashes.{IsSafe}
use Rattle.crash_safety.specs.Calling.{Syncs}
use Rattle.crash_safety.specs.Marked.{Marks, SameButMark}
use Rattle.crash_safety.specs.Synced.{IsSynced, AreQuiet}
use Rattle.last_sync.specs.declared.places.Places.{Places}

abbrev pub IsFileAt : FsState → Path → Type 0
IsFileAt s path = (inode : ℕ) × (get s.names path ≡ Some (File inode))

-- Each directory stands, and the mark's name is free in its own.
pub record CanFinish (places : Places) (s : FsState) : Type 0 where
  pub tops : AllByRecursion (λ top. refusal s (Stats top) ≡ None) places.tops.items
  pub holders : AllByRecursion (λ holder. refusal s (SyncsDir holder) ≡ None) places.holders.items
  pub mark : refusal s (Creates places.mark) ≡ None

-- The trail went on by syncs up to a middle, where all trees are on the disk and nothing waits in what holds them, and from
-- there by the making of the mark. A run that ended before the middle made no mark.
pub record MarksAfterSync (places : Places) (old new : Trail) : Type 0 where
  pub middle : Trail
  pub syncs : Goes Syncs old middle
  pub marks : Goes (Marks places.mark) middle new
  pub synced : (WellFormed middle.present × IsSynced places.tops.items middle.present × AreQuiet places.holders.items middle.present) ⊎ (new ≡ middle)

-- where the mark stands in x, all else is as in the state s
abbrev pub IsMarkedAs : Path → FsState → FsState → Type 0
IsMarkedAs mark s x = (get x.names mark ≡ None) ⊎ SameButMark mark s x

-- A run that ends an upgrade: it only puts things on the disk up to a middle, each state on the way is sound, and every crash leaves the
-- old cluster as it was, and, where it leaves the mark, all else as in the middle.
pub record IsMarkedRun (u : Upgrade) (stage : Stage) (mark : Path) (old new : Trail) : Type 0 where
  pub middle : Trail
  pub syncs : Goes Syncs old middle
  pub sound : Since (Sound u stage) old new
  pub each : EachCrash (λ x. IsSafe u x × IsMarkedAs mark middle.present x) old new
