-- The counts of a catalog and of its carried files.
use Rattle.std.specs.Prelude.{◌≡◌, ◌+◌, ◌-◌, ◌^◌, ℕ, min, List, [], ◌∷◌, length}
use Rattle.fs_model.specs.State.{FsState}
use Rattle.control_file.specs.declared.job.Job.{Job}
use Rattle.catalog.specs.Cluster.{Cluster, DatabaseObjects}
use Rattle.transfer_plan.specs.declared.plan.PlanItem.{PlanItem}
use Rattle.transfer_plan.specs.Carriable.{AreApart}
use Rattle.upgraded.specs.CarriedFiles.{IsPlan}
use Rattle.phase_names.specs.declared.summary.Summary.{Summary}

-- the tables of these databases
abbrev pub tables_in : List DatabaseObjects → ℕ
tables_in [] = 0
tables_in (database ∷ databases) = length database.tables + tables_in databases

-- The counts of the catalog's databases and tables and of the plan's files. A count stands still at its type's end.
pub record Summarizes (catalog : Cluster) (items : List PlanItem) (summary : Summary) : Type 0 where
  pub databases : summary.databases ≡ length catalog.databases
  pub tables : summary.tables ≡ min (tables_in catalog.databases) (2 ^ 64 - 1)
  pub files : summary.files ≡ length items

-- The items are the files of relations that are carried from the state s, all of them and no others, each once.
pub record ListsCarried (job : Job) (catalog : Cluster) (s : FsState) (items : List PlanItem) : Type 0 where
  pub plan : IsPlan job catalog s items
  pub apart : AreApart items

-- so many files of relations are carried from the state s
abbrev pub IsCarriedNumber : Job → Cluster → FsState → ℕ → Type 0
IsCarriedNumber job catalog s number = (items : List PlanItem) × ListsCarried job catalog s items × (number ≡ length items)
