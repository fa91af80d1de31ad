-- What every phase of an upgrade knows of the trail since it opened.
use Rattle.std.specs.Prelude.{◌≡◌, false, Some, None}
use Rattle.std.specs.FinMap.{get}
use Rattle.fs_model.specs.declared.node.Node.TheVariants.{Dir}
use Rattle.fs_model.specs.Names.{Path}
use Rattle.fs_model.specs.State.{FsState}
use Rattle.fs_model.specs.Calls.{Call}
use Rattle.fs_model.specs.Crash.{Settled}
use Rattle.fs_model.specs.WellFormed.{Each}
use Rattle.fs_model.specs.Trail.{Trail, Since, EachCrash}
use Rattle.control_file.specs.declared.job.Job.{Job}
use Rattle.crash_safety.specs.Calling.{KeepsDirs}
use Rattle.crash_safety.specs.Sound.{Stage, is_moved, AsAtStart, Sound, IsSound}
use Rattle.crash_safety.specs.Lacks.{Lacks}
use Rattle.crash_safety.specs.Lasting.{Lasts, IsOffDisk}
use Rattle.crash_safety.specs.Tracked.{Tracked}
use Rattle.crash_safety.specs.Synced.{NeedsOnly}
use Rattle.crash_safety.specs.Crashes.{IsSafe, AsBefore, StaysRenamed}
use Rattle.crash_safety.specs.Places.{control_at}
use Rattle.phase_facts.specs.Places.{disables, upgrade_in, mark_at, holders_in}
use Rattle.phase_facts.specs.CanUpgrade.{CanBegin}

-- sound, and no crash shows the mark
abbrev pub IsUnmarked : Job → FsState → FsState → Type 0
IsUnmarked job start s = IsSound (upgrade_in job start) s × Lacks (mark_at job.new) s

-- What holds of every state since the opening, if all was on the disk then.
pub record IsSafeSince (job : Job) (opening now : Trail) : Type 0 where
  pub each : Settled opening.present → Since (IsUnmarked job opening.present) opening now
  -- once the rename of the old control file is on the disk it is so in every later state
  pub lasts : Settled opening.present → Lasts (IsOffDisk (control_at job.old)) opening now

-- a call that removes no directory
abbrev pub KeepsDirectories : FsState → Call → Type 0
KeepsDirectories s call = KeepsDirs call

-- What isn't on the disk yet is in the new cluster.
pub record NeedsNew (job : Job) (start s : FsState) : Type 0 where
  pub tracked : Tracked s
  pub needs : NeedsOnly (upgrade_in job start).new_tops (holders_in job start) (control_at job.new) s

-- What holds from the checks to the last sync, and how far the rename has come.
pub record Held (job : Job) (stage : Stage) (opening now : Trail) : Type 0 where
  pub begins : CanBegin job opening.present
  -- all that is no new place is as at the opening, but for the rename
  pub names : Each (AsAtStart (upgrade_in job opening.present) (is_moved stage)) now.present.names
  pub unmarked : get now.present.names (mark_at job.new) ≡ None
  -- each directory of the opening stands
  pub dirs : (dir : Path) → get opening.present.names dir ≡ Some Dir → get now.present.names dir ≡ Some Dir
  pub safe : IsSafeSince job opening now
  -- where all was on the disk at the opening
  pub sound : Settled opening.present → Sound (upgrade_in job opening.present) stage now.present
  pub needs : Settled opening.present → NeedsNew job opening.present now.present

-- What every crash since the opening leaves, whatever the upgrade answers.
pub record CrashFacts (job : Job) (opening now : Trail) : Type 0 where
  -- the old cluster, but for the rename, and no shared file while its control file stands
  pub safe : EachCrash (IsSafe (upgrade_in job opening.present)) opening now
  -- where the names on the disk lack the old control file, it stands under its other name
  pub renamed : Since (StaysRenamed (upgrade_in job opening.present)) opening now
  -- and so it does in each crash of a later state
  pub lasts : Lasts (IsOffDisk (control_at job.old)) opening now
  -- an upgrade that copies leaves the old cluster as it was
  pub whole : disables job.mode ≡ false → EachCrash (AsBefore opening.present (upgrade_in job opening.present).old_tops) opening now

-- and no mark
abbrev pub ShowsNoMark : Job → FsState → Type 0
ShowsNoMark job x = get x.names (mark_at job.new) ≡ None
