-- What the phase of the transactions' status does.
use Rattle.fs_model.specs.State.{FsState}
use Rattle.fs_model.specs.Trail.{Trail, Goes, Since, Unchanged}
use Rattle.control_file.specs.declared.job.Job.{Job}
use Rattle.control_file.specs.declared.records.Counters.{Counters}
use Rattle.crash_safety.specs.Calling.{Rewrites}
use Rattle.crash_safety.specs.Places.{control_at}
use Rattle.status_transfer.specs.Carried.{CarriesInto}
use Rattle.status_transfer.specs.Status.{status_dirs}
use Rattle.status_transfer.specs.Counted.{KeepsAllBut, SetsCounters}
use Rattle.upgraded.specs.Upgrades.{CopiesStatus}

-- The trail went on by calls that carry the status files up to a middle, and from there by writes to the new control file.
pub record CarriesTransactions (job : Job) (old new : Trail) : Type 0 where
  pub middle : Trail
  pub carries : Goes (CarriesInto (status_dirs job.new) old.present) old middle
  pub counts : Goes (Rewrites (control_at job.new)) middle new
  pub frame : Since (KeepsAllBut (control_at job.new) middle.present) middle new

-- and then changed nothing
pub record CarriesThenReads (job : Job) (old new : Trail) : Type 0 where
  pub done : Trail
  pub transactions : CarriesTransactions job old done
  pub unchanged : Unchanged done new

-- The state t is s with the old cluster's status files and these counters.
pub record HasTransactions (job : Job) (counters : Counters) (s t : FsState) : Type 0 where
  pub carried : FsState
  pub status : CopiesStatus job s carried
  pub counted : SetsCounters carried (control_at job.new) counters t
