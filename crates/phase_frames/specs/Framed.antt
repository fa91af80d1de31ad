-- What every state of an upgrade has of the one that it opened in, whether or not all was on the disk then.
use Rattle.std.specs.Prelude.{◌≡◌, ◌≢◌, ℕ, Bool, true, Some, is_some}
use Rattle.std.specs.FinMap.{get}
use Rattle.fs_model.specs.declared.node.Node.TheVariants.{File}
use Rattle.fs_model.specs.State.{FsState}
use Rattle.fs_model.specs.WellFormed.{Each}
use Rattle.control_file.specs.declared.job.Job.{Job}
use Rattle.crash_safety.specs.Sound.{AsAtStart}
use Rattle.crash_safety.specs.Places.{control_at}
use Rattle.phase_facts.specs.Places.{disables, upgrade_in}

-- All that is at no new place is as at the start, but for the rename of the old control file, and each file of the start but the new control
-- file has its bytes.
pub record IsFramed (job : Job) (start s : FsState) : Type 0 where
  -- whether the old control file has its other name, which it gets in link mode alone
  pub moved : Bool
  pub in_mode : moved ≡ true → disables job.mode ≡ true
  pub names : Each (AsAtStart (upgrade_in job start) moved) s.names
  -- the new control file, whose counters are set, is the one of the start
  pub control : get s.names (control_at job.new) ≡ get start.names (control_at job.new)
  pub bytes : (inode : ℕ) → get start.names (control_at job.new) ≢ Some (File inode) → is_some (get start.bytes inode) ≡ true → get s.bytes inode ≡ get start.bytes inode
