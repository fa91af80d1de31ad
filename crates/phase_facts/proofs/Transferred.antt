-- The transfer of the files of a plan, copied or linked.
use Rattle.std.proofs.Common.{◌∙◌, List, inr}
use Rattle.fs_model.specs.State.{FsState}
use Rattle.fs_model.specs.Trail.{Trail, Goes}
use Rattle.fs_model.proofs.Going.{goes_weaker}
use Rattle.control_file.specs.declared.job.Job.{Job}
use Rattle.crash_safety.specs.Frame.{StaysWithin}
use Rattle.crash_safety.specs.Calling.{MakesWithin, LinksInside}
use Rattle.crash_safety.specs.Sound.{Whole, Moved}
use Rattle.crash_safety.specs.Places.{control_at}
use Rattle.crash_safety.proofs.Going.{goes_within, goes_lacks, links_sound, links_keeps}
use Rattle.crash_safety.proofs.NeedRuns.{links_need}
use Rattle.transfer_plan.specs.declared.plan.PlanItem.{PlanItem}
use Rattle.transfer_plan.specs.Carriable.{targets}
use Rattle.transfer_plan.proofs.Keeping.{inside_inside}
use Rattle.copy_transfer.specs.CopiedFiles.{CopiesTo}
use Rattle.copy_transfer.proofs.Carrying.{copies_within}
use Rattle.link_transfer.specs.LinkedFiles.{LinksItems}
use Rattle.link_transfer.proofs.Joining.{links_inside}
use Rattle.phase_facts.specs.Places.{upgrade_in, mark_at, holders_in, AreNewPlaces}
use Rattle.phase_facts.specs.CanUpgrade.{CanBegin}
use Rattle.phase_facts.specs.Plans.{IsPlanIn}
use Rattle.phase_facts.specs.Held.{Held}
use Rattle.phase_facts.proofs.Grounds.{ready_of}
use Rattle.phase_facts.proofs.Standing.{dir_stays, links_keep}
use Rattle.phase_facts.proofs.Tops.{grounds, ground_places, fewer_places}
use Rattle.phase_facts.proofs.Holding.{held_on, goes_held}

pub plan_places : (job : Job) (s : FsState) (items : List PlanItem) → CanBegin job s → IsPlanIn job s items → AreNewPlaces job s (targets items)
plan_places job s items begins plan =
    fewer_places job s (grounds job.new (holders_in job s)) (targets items) (inside_inside (grounds job.new (holders_in job s)) (targets items) (λ path one. inr (inr (plan.targets path one)))) (ground_places job s begins)

module _ (job : Job) (items : List PlanItem) (opening a b : Trail) (plan : IsPlanIn job opening.present items) where
  pub copied_held : Held job Whole opening a → Goes (CopiesTo (targets items) a.present) a b → Held job Whole opening b
  copied_held held goes =
      goes_held job Whole opening a b held (λ moving. cc moving) (targets items) (plan_places job opening.present items held.begins plan)
      (goes_weaker (CopiesTo (targets items) a.present) (MakesWithin (targets items) a.present) (copies_within (targets items) a.present) goes)

  module _ (held : Held job Moved opening a) (goes : Goes (LinksItems items) a b) where
    links_goes : Goes (LinksInside (targets items)) a b
    links_goes = goes_weaker (LinksItems items) (LinksInside (targets items)) (links_inside items) goes

    within_goes : Goes (StaysWithin (targets items) a.present) a b
    within_goes = goes_weaker (LinksInside (targets items)) (StaysWithin (targets items) a.present) (λ s call is. (links_keeps (targets items) a.present s call is).0) links_goes

    pub linked_held : Held job Moved opening b
    linked_held =
        let u = upgrade_in job opening.present in
        let places = plan_places job opening.present items held.begins plan in
        let within = (goes_within (targets items) a b within_goes).present in
        held_on job Moved opening a b held (λ moving. cc moving)
        (λ path outside. within.names path (λ in_it. outside (places.inside path in_it).0) ∙ held.names path outside)
        (within.names (mark_at job.new) places.no_mark ∙ held.unmarked)
        (λ dir there. (dir_stays a b dir (links_keep items a b goes) there).present)
        (λ settled. links_sound u (ready_of job opening.present held.begins settled) (targets items) (λ path in_it. (places.inside path in_it).0) a b (held.sound settled) links_goes)
        (λ lacks. goes_lacks (targets items) (mark_at job.new) places.no_mark a b lacks within_goes)
        (λ needs.
        let (same, tracked, later) = (links_need u.new_tops (holders_in job opening.present) (control_at job.new) (targets items) places.no_control places.inside a b needs.tracked needs.needs links_goes).present in
        record { tracked = tracked; needs = later })
