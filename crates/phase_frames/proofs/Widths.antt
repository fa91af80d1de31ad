-- Runs that stay within new places, and runs that read.
use Rattle.std.proofs.Common.{◌≡◌, ◌∙◌, List, sym, ap, subst}
use Rattle.std.specs.Prelude.{is_some}
use Rattle.fs_model.specs.Names.{Path}
use Rattle.fs_model.specs.State.{FsState}
use Rattle.fs_model.specs.Trail.{Trail, Goes, Since, Unchanged}
use Rattle.fs_model.proofs.Runs.{since_weaker}
use Rattle.control_file.specs.declared.job.Job.{Job}
use Rattle.crash_safety.specs.Frame.{IsInside, IsOutside, Within, StaysWithin}
use Rattle.crash_safety.specs.Places.{control_at}
use Rattle.crash_safety.proofs.Going.{goes_within}
use Rattle.phase_facts.specs.Places.{upgrade_in}
use Rattle.phase_frames.specs.Framed.{IsFramed}

module _ (job : Job) (start a : FsState) (tops : List Path) (inside : (path : Path) → IsInside tops path → IsInside (upgrade_in job start).new_tops path) (no_control : IsOutside tops (control_at job.new)) (framed : IsFramed job start a) where
  within_framed : (s : FsState) → Within tops a s → IsFramed job start s
  within_framed s within = record {
    moved = framed.moved;
    in_mode = framed.in_mode;
    names = λ path outside. within.names path (λ in_it. outside (inside path in_it)) ∙ framed.names path outside;
    control = within.names (control_at job.new) no_control ∙ framed.control;
    bytes = λ inode other known. (let same = framed.bytes inode other known in within.bytes inode (ap is_some same ∙ known) ∙ same);
  }

pub goes_framed : (job : Job) (opening a b : Trail) (tops : List Path) → ((path : Path) → IsInside tops path → IsInside (upgrade_in job opening.present).new_tops path) → IsOutside tops (control_at job.new) → IsFramed job opening.present a.present → Goes (StaysWithin tops a.present) a b
    → Since (IsFramed job opening.present) a b
goes_framed job opening a b tops inside no_control framed goes =
    since_weaker (Within tops a.present) (IsFramed job opening.present) (within_framed job opening.present a.present tops inside no_control framed) a b (goes_within tops a b goes)

pub reads_framed : (job : Job) (opening a b : Trail) → IsFramed job opening.present a.present → Unchanged a b → Since (IsFramed job opening.present) a b
reads_framed job opening a b framed unchanged =
    since_weaker (λ s. s ≡ a.present) (IsFramed job opening.present) (λ s same. subst (IsFramed job opening.present) (sym same) framed) a b unchanged
