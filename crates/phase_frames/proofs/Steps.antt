-- The steps that make names at new places, and the counters.
use Rattle.std.proofs.Common.{◌∙◌, ℕ, List, sym, ap}
use Rattle.std.specs.FinMap.{get}
use Rattle.fs_model.specs.Names.{Path}
use Rattle.fs_model.specs.State.{FsState}
use Rattle.fs_model.specs.Trail.{Trail, Goes, Since}
use Rattle.fs_model.proofs.Runs.{since_weaker}
use Rattle.fs_model.proofs.Going.{goes_weaker}
use Rattle.control_file.specs.declared.job.Job.{Job}
use Rattle.control_file.specs.declared.releases.Release.TheVariants.{V16}
use Rattle.catalog.specs.Cluster.{Cluster}
use Rattle.crash_safety.specs.Frame.{StaysWithin}
use Rattle.crash_safety.specs.Calling.{MakesWithin, LinksInside}
use Rattle.crash_safety.specs.Places.{control_at}
use Rattle.crash_safety.proofs.Going.{links_keeps}
use Rattle.new_names.specs.Frame.{MakesListed}
use Rattle.catalog_server.specs.ReplayNames.{listed_names}
use Rattle.status_transfer.specs.Carried.{CarriesInto}
use Rattle.status_transfer.specs.Counted.{KeepsAllBut}
use Rattle.status_transfer.specs.Status.{status_dirs}
use Rattle.status_transfer.proofs.Framing.{carries_within}
use Rattle.transfer_plan.specs.declared.plan.PlanItem.{PlanItem}
use Rattle.transfer_plan.specs.Carriable.{targets}
use Rattle.copy_transfer.specs.CopiedFiles.{CopiesTo}
use Rattle.copy_transfer.proofs.Carrying.{copies_within}
use Rattle.link_transfer.specs.LinkedFiles.{LinksItems}
use Rattle.link_transfer.proofs.Joining.{links_inside}
use Rattle.phase_facts.specs.Places.{holders_in, AreNewPlaces}
use Rattle.phase_facts.specs.CanUpgrade.{CanBegin, CanUpgrade}
use Rattle.phase_facts.specs.Plans.{IsPlanIn}
use Rattle.phase_facts.proofs.Restored.{restore_makes}
use Rattle.phase_facts.proofs.Tops.{grounds, ground_places, status_places}
use Rattle.phase_facts.proofs.Transferred.{plan_places}
use Rattle.phase_frames.specs.Framed.{IsFramed}
use Rattle.phase_frames.proofs.Widths.{goes_framed}

-- names at new places
module _ (job : Job) (opening a b : Trail) (framed : IsFramed job opening.present a.present) (tops : List Path) (places : AreNewPlaces job opening.present tops) where
  pub stays_framed : Goes (StaysWithin tops a.present) a b → Since (IsFramed job opening.present) a b
  stays_framed goes = goes_framed job opening a b tops (λ path in_it. (places.inside path in_it).0) places.no_control framed goes

  pub makes_framed : Goes (MakesWithin tops a.present) a b → Since (IsFramed job opening.present) a b
  makes_framed goes = stays_framed (goes_weaker (MakesWithin tops a.present) (StaysWithin tops a.present) (λ s call allowed. allowed.0) goes)

pub restored_framed : (job : Job) (catalog before : Cluster) (head : List ℕ) (opening a b : Trail) → CanUpgrade job catalog head opening.present → IsFramed job opening.present a.present → Goes (MakesListed (listed_names job.new V16 before catalog) a.present) a b → Since (IsFramed job opening.present) a b
restored_framed job catalog before head opening a b can framed goes =
    makes_framed job opening a b framed (grounds job.new (holders_in job opening.present)) (ground_places job opening.present can.begins) (restore_makes job catalog before head opening a b can goes)

module _ (job : Job) (opening a b : Trail) (framed : IsFramed job opening.present a.present) where
  pub carried_framed : CanBegin job opening.present → Goes (CarriesInto (status_dirs job.new) a.present) a b → Since (IsFramed job opening.present) a b
  carried_framed begins goes =
      makes_framed job opening a b framed (status_dirs job.new) (status_places job opening.present begins)
      (goes_weaker (CarriesInto (status_dirs job.new) a.present) (MakesWithin (status_dirs job.new) a.present) (carries_within (status_dirs job.new) a.present) goes)

  -- the file that is written to is the new control file
  rewritten_framed : (s : FsState) → KeepsAllBut (control_at job.new) a.present s → IsFramed job opening.present s
  rewritten_framed s keeps = record {
    moved = framed.moved;
    in_mode = framed.in_mode;
    names = λ path outside. ap (λ m. get m path) keeps.names ∙ framed.names path outside;
    control = ap (λ m. get m (control_at job.new)) keeps.names ∙ framed.control;
    bytes = λ inode other known. keeps.bytes inode (λ named. other (sym framed.control ∙ named)) ∙ framed.bytes inode other known;
  }

  pub counted_framed : Since (KeepsAllBut (control_at job.new) a.present) a b → Since (IsFramed job opening.present) a b
  counted_framed keeps = since_weaker (KeepsAllBut (control_at job.new) a.present) (IsFramed job opening.present) rewritten_framed a b keeps

module _ (job : Job) (items : List PlanItem) (opening a b : Trail) (begins : CanBegin job opening.present) (plan : IsPlanIn job opening.present items) (framed : IsFramed job opening.present a.present) where
  pub copied_framed : Goes (CopiesTo (targets items) a.present) a b → Since (IsFramed job opening.present) a b
  copied_framed goes =
      makes_framed job opening a b framed (targets items) (plan_places job opening.present items begins plan)
      (goes_weaker (CopiesTo (targets items) a.present) (MakesWithin (targets items) a.present) (copies_within (targets items) a.present) goes)

  pub linked_framed : Goes (LinksItems items) a b → Since (IsFramed job opening.present) a b
  linked_framed goes =
      stays_framed job opening a b framed (targets items) (plan_places job opening.present items begins plan)
      (goes_weaker (LinksInside (targets items)) (StaysWithin (targets items) a.present) (λ s call is. (links_keeps (targets items) a.present s call is).0)
      (goes_weaker (LinksItems items) (LinksInside (targets items)) (links_inside items) goes))
