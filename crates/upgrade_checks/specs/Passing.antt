-- Which refusal comes first in a state, and that none comes.
use Rattle.std.specs.Prelude.{◌≡◌, ◌<◌, ◌⊎◌, List, [], ◌∷◌, Option, Some, None, Ok}
use Rattle.catalog.specs.Cluster.{Cluster, started}
use Rattle.fs_model.specs.State.{FsState}
use Rattle.control_file.specs.declared.job.Job.{Job}
use Rattle.compat_checks.specs.declared.refusal.Refusal.{Refusal}
use Rattle.compat_checks.specs.Order.{Condition, condition_of, rank}
use Rattle.upgrade_checks.specs.Findings.{Readings, Finds}

-- The refusal's condition holds, with its exact numbers and paths.
abbrev pub Holds : FsState → Job → Readings → Refusal → Type 0
Holds s job readings refusal = Finds s job readings (condition_of refusal) (Some refusal)

-- Its condition holds, and no earlier one's does.
pub record IsFirst (s : FsState) (job : Job) (readings : Readings) (refusal : Refusal) : Type 0 where
  pub holds : Holds s job readings refusal
  pub earlier : (other : Refusal) → rank other < rank refusal → Holds s job readings other → ⊥

-- No condition holds: the two clusters pass the checks.
abbrev pub Passes : FsState → Job → Readings → Type 0
Passes s job readings = (refusal : Refusal) → Holds s job readings refusal → ⊥

-- The same as findings: each condition's test finds nothing.
abbrev pub FindsNothing : FsState → Job → Readings → Type 0
FindsNothing s job readings = (condition : Condition) → Finds s job readings condition None

-- what the tests of these conditions find first, in their order
abbrev pub FindsFirst : FsState → Job → Readings → List Condition → Option Refusal → Type 0
FindsFirst s job readings [] found = found ≡ None
FindsFirst s job readings (condition ∷ conditions) None = Finds s job readings condition None × FindsFirst s job readings conditions None
FindsFirst s job readings (condition ∷ conditions) (Some refusal) =
    Finds s job readings condition (Some refusal) ⊎ (Finds s job readings condition None × FindsFirst s job readings conditions (Some refusal))

-- A server reads a catalog of the old cluster, and of the new one that which the same bootstrap role starts with.
pub record AreFresh (readings : Readings) : Type 0 where
  pub catalog : Cluster
  pub old : readings.old ≡ Ok catalog
  pub new : readings.new ≡ Ok (started catalog.bootstrap)
