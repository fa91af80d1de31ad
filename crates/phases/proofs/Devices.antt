-- The devices of directories, and those of a plan's items, as the phases keep them.
use Rattle.std.proofs.Common.{◌≡◌, ℕ, List, sym, subst}
use Rattle.fs_model.specs.State.{FsState}
use Rattle.fs_model.specs.Trail.{Trail, Goes}
use Rattle.control_file.specs.declared.job.Job.{Job}
use Rattle.control_file.specs.declared.modes.Mode.TheVariants.{Link}
use Rattle.catalog.specs.Cluster.{Cluster}
use Rattle.crash_safety.specs.Places.{control_at}
use Rattle.status_transfer.specs.Status.{status_dirs}
use Rattle.transfer_plan.specs.declared.plan.PlanItem.{PlanItem}
use Rattle.transfer_plan.specs.Carriable.{CanBeCarried, HaveOneDevice}
use Rattle.relation_map.specs.Pairs.{entries_of}
use Rattle.plan_build.specs.Plannable.{IsPlanOf}
use Rattle.phase_facts.specs.CanUpgrade.{CanBegin, CanUpgrade}
use Rattle.phase_facts.specs.Held.{KeepsDirectories}
use Rattle.phase_facts.proofs.Standing.{status_keeps, counters_keep}
use Rattle.plan_devices.specs.Kept.{KeepsDevices}
use Rattle.plan_devices.proofs.Keeping.{run_keeps, start_keeps}
use Rattle.plan_devices.proofs.Planned.{items_have_one_device}
use Rattle.phases.specs.Preparing.{CarriesThenReads}
use Rattle.phases.proofs.Disabling.{link_disables}
use Rattle.phases.proofs.Planning.{plan_of_relations}

module _ (job : Job) (opening a b : Trail) (begins : CanBegin job opening.present) where
  pub devices_stay : KeepsDevices opening.present a.present → Goes KeepsDirectories a b → KeepsDevices opening.present b.present
  devices_stay kept goes = (run_keeps opening.present a b begins.well_formed kept goes).present

  -- from the checks on
  pub devices_begun : a.present ≡ opening.present → Goes KeepsDirectories a b → KeepsDevices opening.present b.present
  devices_begun same goes = devices_stay (subst (KeepsDevices opening.present) (sym same) (start_keeps opening.present)) goes

pub status_devices : (job : Job) (opening a b : Trail) → CanBegin job opening.present → CarriesThenReads job a b → KeepsDevices opening.present a.present → KeepsDevices opening.present b.present
status_devices job opening a b begins run kept =
    let carries = run.transactions in
    let first = devices_stay job opening a carries.middle begins kept (status_keeps (status_dirs job.new) a carries.middle carries.carries) in
    let second = devices_stay job opening carries.middle run.done begins first (counters_keep (control_at job.new) carries.middle run.done carries.counts) in
    subst (KeepsDevices opening.present) (sym run.unchanged.present) second

-- the plan that was made of one state, in a later one
pub planned_devices : (job : Job) (catalog : Cluster) (head : List ℕ) (start counted s : FsState) (items : List PlanItem) → CanUpgrade job catalog head start → job.mode ≡ Link → KeepsDevices start s → IsPlanOf counted (entries_of job catalog catalog) items → CanBeCarried s.names items → HaveOneDevice s items
planned_devices job catalog head start counted s items can links kept planned carried =
    items_have_one_device job catalog head start s can (link_disables job links) kept items (plan_of_relations job catalog counted can.valid items planned.is) carried.each
