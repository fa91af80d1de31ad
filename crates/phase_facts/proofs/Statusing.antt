-- The files of transaction status, and the counters.
use Rattle.std.proofs.Common.{◌∙◌, sym, ap, subst, refl}
use Rattle.std.specs.List.{AllByRecursion}
use Rattle.std.specs.FinMap.{get}
use Rattle.fs_model.specs.State.{Names, FsState}
use Rattle.fs_model.specs.WellFormed.{EachPair}
use Rattle.fs_model.specs.Trail.{Trail, Goes, Since}
use Rattle.fs_model.proofs.Runs.{since_weaker}
use Rattle.fs_model.proofs.Going.{goes_weaker}
use Rattle.control_file.specs.declared.job.Job.{Job}
use Rattle.crash_safety.specs.Calling.{MakesWithin, Rewrites}
use Rattle.crash_safety.specs.Sound.{Whole}
use Rattle.crash_safety.specs.Lacks.{Lacks, IsGoneAt}
use Rattle.crash_safety.specs.Places.{control_at}
use Rattle.crash_safety.proofs.Going.{rewrites_sound, control_apart}
use Rattle.crash_safety.proofs.NeedRuns.{rewrites_need}
use Rattle.crash_safety.proofs.Tracking.{goes_tracked}
use Rattle.status_transfer.specs.Carried.{CarriesInto}
use Rattle.status_transfer.specs.Counted.{KeepsAllBut}
use Rattle.status_transfer.specs.Status.{status_dirs}
use Rattle.status_transfer.proofs.Framing.{carries_within}
use Rattle.phase_facts.specs.Places.{upgrade_in, mark_at, holders_in}
use Rattle.phase_facts.specs.Held.{Held}
use Rattle.phase_facts.proofs.Grounds.{ready_of}
use Rattle.phase_facts.proofs.Tops.{status_places}
use Rattle.phase_facts.proofs.Holding.{held_on, goes_held}

module _ (job : Job) (opening a b : Trail) (held : Held job Whole opening a) where
  pub carried_held : Goes (CarriesInto (status_dirs job.new) a.present) a b → Held job Whole opening b
  carried_held goes =
      goes_held job Whole opening a b held (λ moving. cc moving) (status_dirs job.new) (status_places job opening.present held.begins)
      (goes_weaker (CarriesInto (status_dirs job.new) a.present) (MakesWithin (status_dirs job.new) a.present) (carries_within (status_dirs job.new) a.present) goes)

  -- the names are as before, now and on the disk
  lacks_still : (s : FsState) → Lacks (mark_at job.new) a.present → KeepsAllBut (control_at job.new) a.present s → Lacks (mark_at job.new) s
  lacks_still s lacks keeps = record {
    now = ap (λ (m : Names). get m (mark_at job.new)) keeps.names ∙ lacks.now;
    kept = ap (λ (m : Names). get m (mark_at job.new)) keeps.names_kept ∙ lacks.kept;
    waiting = subst (AllByRecursion (EachPair (IsGoneAt (mark_at job.new)))) (sym keeps.pending) lacks.waiting;
  }

  pub counted_held : Goes (Rewrites (control_at job.new)) a b → Since (KeepsAllBut (control_at job.new) a.present) a b → Held job Whole opening b
  counted_held goes keeps =
      let u = upgrade_in job opening.present in
      held_on job Whole opening a b held (λ moving. cc moving)
      (λ path outside. ap (λ (m : Names). get m path) keeps.present.names ∙ held.names path outside)
      (ap (λ (m : Names). get m (mark_at job.new)) keeps.present.names ∙ held.unmarked)
      (λ dir there. ap (λ (m : Names). get m dir) keeps.present.names ∙ there)
      (λ settled.
      let ready = ready_of job opening.present held.begins settled in
      rewrites_sound u ready Whole (control_at job.new) a b (held.sound settled) (control_apart u ready Whole a.present refl (held.sound settled)) goes)
      (λ lacks. since_weaker (KeepsAllBut (control_at job.new) a.present) (Lacks (mark_at job.new)) (λ s keeps. lacks_still s lacks keeps) a b keeps)
      (λ needs. record {
        tracked = (goes_tracked (Rewrites (control_at job.new)) needs.tracked goes).present;
        needs = (rewrites_need u.new_tops (holders_in job opening.present) (control_at job.new) a b needs.needs goes).present;
      })
