-- The verdict on two clusters, by what is named in them.
use Rattle.std.specs.Prelude.{◌≡◌, ◌<◌, ◌==◌, if◌then◌else◌, ℕ, true, false, [], ◌∷◌, ◌++◌, codes, is_some}
use Rattle.std.specs.FinMap.{get}
use Rattle.fs_model.specs.Names.{Path}
use Rattle.fs_model.specs.State.{FsState}
use Rattle.crash_safety.specs.Places.{control_at, disabled_at}
use Rattle.shared_inodes.specs.SharedInodes.{IsSharedNumber}
use Rattle.verdicts.specs.declared.verdict.Verdict.{Verdict}
use Rattle.verdicts.specs.declared.verdict.Verdict.TheVariants.{Finished, Untouched, Disabled, Linked, Unsafe, NoControl}

-- the mark of a finished upgrade in a new cluster
abbrev pub done_at : Path → Path
done_at root = root ++ codes "pg_profile" ∷ codes "done" ∷ []

-- a name is there
abbrev pub Stands : FsState → Path → Type 0
Stands s path = is_some (get s.names path) ≡ true

abbrev pub StandsNot : FsState → Path → Type 0
StandsNot s path = is_some (get s.names path) ≡ false

-- No mark says that the upgrade is finished; the old cluster's control file stands. So many of the new cluster's paths share their file with it.
pub record IsWhole (s : FsState) (old new : Path) (number : ℕ) : Type 0 where
  pub unfinished : StandsNot s (done_at new)
  pub control : Stands s (control_at old)
  pub shared : IsSharedNumber s old new number

-- The same, but the control file has its name of a disabled cluster alone.
pub record IsDisabled (s : FsState) (old new : Path) (number : ℕ) : Type 0 where
  pub unfinished : StandsNot s (done_at new)
  pub control : StandsNot s (control_at old)
  pub disabled : Stands s (disabled_at old)
  pub shared : IsSharedNumber s old new number

-- No mark says that the upgrade is finished, and the old cluster has no control file under either name.
pub record HasNoControl (s : FsState) (old new : Path) : Type 0 where
  pub unfinished : StandsNot s (done_at new)
  pub control : StandsNot s (control_at old)
  pub disabled : StandsNot s (disabled_at old)

-- the verdict on the clusters
abbrev pub IsVerdict : FsState → Path → Path → Verdict → Type 0
IsVerdict s old new Finished = Stands s (done_at new)
IsVerdict s old new Untouched = IsWhole s old new 0
IsVerdict s old new (Unsafe number) = IsWhole s old new number × (0 < number)
IsVerdict s old new Disabled = IsDisabled s old new 0
IsVerdict s old new (Linked number) = IsDisabled s old new number × (0 < number)
IsVerdict s old new NoControl = HasNoControl s old new

-- the verdict on so many shared files, where the control file stands
abbrev pub whole_verdict : ℕ → Verdict
whole_verdict number = if number == 0 then Untouched else Unsafe number

-- the same, where it has its name of a disabled cluster
abbrev pub disabled_verdict : ℕ → Verdict
disabled_verdict number = if number == 0 then Disabled else Linked number

-- the old cluster can be used again, or the upgrade is finished
abbrev pub IsSafeVerdict : Verdict → Type 0
IsSafeVerdict Finished = Unit {0}
IsSafeVerdict Untouched = Unit {0}
IsSafeVerdict (Unsafe number) = ⊥
IsSafeVerdict Disabled = Unit {0}
IsSafeVerdict (Linked number) = Unit {0}
IsSafeVerdict NoControl = ⊥
