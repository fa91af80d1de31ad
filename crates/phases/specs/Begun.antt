-- How far an upgrade has come: what it began with, and the states after each of its steps.
use Rattle.std.specs.Prelude.{◌≡◌, ◌++◌, ℕ, List, [], ◌∷◌, None}
use Rattle.std.specs.FinMap.{get}
use Rattle.fs_model.specs.State.{FsState}
use Rattle.control_file.specs.declared.job.Job.{Job}
use Rattle.control_file.specs.declared.modes.Mode.{Mode}
use Rattle.control_file.specs.declared.modes.Mode.TheVariants.{Copy, Link}
use Rattle.control_file.specs.declared.records.Control.{Control}
use Rattle.catalog.specs.Cluster.{Cluster}
use Rattle.crash_safety.specs.Places.{links_at}
use Rattle.crash_safety.specs.Sound.{Stage, Whole, Moved}
use Rattle.cluster_meaning.specs.Cluster.{control_at as control_in}
use Rattle.transfer_plan.specs.declared.plan.PlanItem.{PlanItem}
use Rattle.transfer_plan.specs.Carriable.{AreApart}
use Rattle.upgraded.specs.Upgraded.{ReadsCatalog}
use Rattle.upgraded.specs.Upgradable.{IsUpgradable}
use Rattle.upgraded.specs.CarriedFiles.{IsPlan}
use Rattle.plan_facts.specs.Files.{HasOwnFiles}
use Rattle.upgraded.specs.Upgrades.{RestoresSchema, DisablesByMode, TransfersByMode}
use Rattle.phase_facts.specs.CanUpgrade.{CanUpgrade, AreRead}
use Rattle.phases.specs.Preparing.{HasTransactions}

-- In the state both clusters can be upgraded, and this was read of them.
pub record IsOpened (read : ReadsCatalog) (job : Job) (catalog : Cluster) (control : Control) (head : List ℕ) (s : FsState) : Type 0 where
  pub can : CanUpgrade job catalog head s
  pub reading : AreRead read job catalog s
  pub upgradable : IsUpgradable read job catalog s
  pub own_files : HasOwnFiles s job catalog
  pub counters : control ≡ control_in s job.old
  -- NewUsed: the new cluster has no tablespace link
  pub unlinked : (name : List ℕ) → get s.names (links_at job.new ++ name ∷ []) ≡ None

-- From the start the upgrade went through a state with the schema and one with the status files to s, which has the counters.
pub record HasStatus (read : ReadsCatalog) (job : Job) (catalog : Cluster) (start s : FsState) : Type 0 where
  pub control : Control
  pub head : List ℕ
  pub opened : IsOpened read job catalog control head start
  pub restored : FsState
  pub schema : RestoresSchema read job catalog start restored
  pub transactions : HasTransactions job control.counters restored s

-- From there the files of the plan were carried, once the old cluster was disabled where the mode needs it.
pub record HasTransferred (read : ReadsCatalog) (job : Job) (catalog : Cluster) (items : List PlanItem) (start s : FsState) : Type 0 where
  pub counted : FsState
  pub status : HasStatus read job catalog start counted
  pub disabled : FsState
  pub plan : IsPlan job catalog counted items
  pub apart : AreApart items
  pub disables : DisablesByMode job.mode job counted disabled
  pub files : TransfersByMode job.mode items disabled s

-- how far the rename of the old control file has come when the files are carried
abbrev pub stage_of : Mode → Stage
stage_of Copy = Whole
stage_of Link = Moved
