-- How what every phase knows goes on from step to step.
use Rattle.std.proofs.Common.{◌≡◌, ◌∙◌, [], List, Some, None, refl, sym, ap, subst}
use Rattle.std.specs.List.{AllByRecursion}
use Rattle.std.specs.FinMap.{get}
use Rattle.fs_model.specs.declared.node.Node.TheVariants.{Dir}
use Rattle.fs_model.specs.Names.{Path}
use Rattle.fs_model.specs.State.{FsState, Names}
use Rattle.fs_model.specs.Crash.{Settled}
use Rattle.fs_model.specs.WellFormed.{Each, EachPair}
use Rattle.fs_model.specs.Trail.{Trail, Goes, Since}
use Rattle.fs_model.proofs.Runs.{none_since, since_then, since_weaker}
use Rattle.fs_model.proofs.Going.{goes_weaker, since_both}
use Rattle.control_file.specs.declared.job.Job.{Job}
use Rattle.crash_safety.specs.Frame.{StaysWithin}
use Rattle.crash_safety.specs.Calling.{MakesWithin}
use Rattle.crash_safety.specs.Sound.{Stage, Whole, Moving, Moved, is_moved, AsAtStart, Sound, IsSound}
use Rattle.crash_safety.specs.Lacks.{Lacks, IsGoneAt}
use Rattle.crash_safety.specs.Lasting.{Lasts, IsOffDisk}
use Rattle.crash_safety.specs.Places.{control_at}
use Rattle.crash_safety.proofs.Persisting.{lasts_then, never_lasts, moved_lasts}
use Rattle.crash_safety.proofs.Tracking.{settled_tracked}
use Rattle.crash_safety.proofs.Needing.{settled_needs}
use Rattle.crash_safety.proofs.NeedRuns.{makes_need}
use Rattle.crash_safety.proofs.Crashed.{start_sound}
use Rattle.crash_safety.proofs.SoundRuns.{any_stage}
use Rattle.crash_safety.proofs.Going.{goes_within, goes_lacks, goes_sound}
use Rattle.phase_facts.specs.Places.{upgrade_in, mark_at, holders_in, AreNewPlaces}
use Rattle.phase_facts.specs.CanUpgrade.{CanBegin}
use Rattle.phase_facts.specs.Held.{IsUnmarked, IsSafeSince, NeedsNew, Held}
use Rattle.phase_facts.proofs.Grounds.{ready_of, control_outside}
use Rattle.phase_facts.proofs.Standing.{dir_stays, makes_keep}

-- ---- the opening

module _ (job : Job) (t : Trail) (begins : CanBegin job t.present) where
  start_lacks : Settled t.present → Lacks (mark_at job.new) t.present
  start_lacks settled = record {
    now = begins.unmarked;
    kept = ap (λ (m : Names). get m (mark_at job.new)) settled.names ∙ begins.unmarked;
    waiting = subst (AllByRecursion (EachPair (IsGoneAt (mark_at job.new)))) (sym settled.nothing_pending) tt;
  }

  start_is_sound : Settled t.present → Sound (upgrade_in job t.present) Whole t.present
  start_is_sound settled = start_sound (upgrade_in job t.present) (ready_of job t.present begins settled) begins.unshared

  pub start_held : Held job Whole t t
  start_held = record {
    begins = begins;
    names = λ path outside. refl;
    unmarked = begins.unmarked;
    dirs = λ dir there. there;
    safe = record {
      each = λ settled. none_since (IsUnmarked job t.present) t ((Whole, start_is_sound settled), start_lacks settled);
      lasts = λ settled. record { added = []; is = refl; each = (tt, tt) };
    };
    sound = start_is_sound;
    needs = λ settled. record {
      tracked = settled_tracked t.present settled begins.well_formed;
      needs = settled_needs (upgrade_in job t.present).new_tops (holders_in job t.present) (control_at job.new) t.present settled;
    };
  }

-- ---- a run that stays at its stage

-- the control file stands on the disk as long as the stage is Whole
whole_stands : (job : Job) (start s : FsState) → CanBegin job start → Sound (upgrade_in job start) Whole s → IsOffDisk (control_at job.old) s → ⊥
whole_stands job start s begins sound none =
    let (inode, found) = begins.control in
    let kept = sound.keeps.names_kept (control_at job.old) (control_outside job start begins) in
    cc (found, kept, none)

pub staged_lasts : (job : Job) (start : FsState) → CanBegin job start → Settled start → (stage : Stage) → (stage ≡ Moving → ⊥) → (a b : Trail) → Since (Sound (upgrade_in job start) stage) a b → Lasts (IsOffDisk (control_at job.old)) a b
staged_lasts job start begins settled Whole still a b since =
    never_lasts (IsOffDisk (control_at job.old)) a b (since_weaker (Sound (upgrade_in job start) Whole) (λ s. IsOffDisk (control_at job.old) s → ⊥) (λ s sound. whole_stands job start s begins sound) a b since)
staged_lasts job start begins settled Moving still a b since = absurd (still refl)
staged_lasts job start begins settled Moved still a b since = moved_lasts (upgrade_in job start) (ready_of job start begins settled) (since.first.keeps.in_mode refl) a b since

module _ (job : Job) (stage : Stage) (opening a b : Trail) (held : Held job stage opening a) where
  -- whatever the stages on the way, and however the mark was kept away
  pub safe_on : (Settled opening.present → Since (IsSound (upgrade_in job opening.present)) a b) → (Lacks (mark_at job.new) a.present → Since (Lacks (mark_at job.new)) a b) → (Settled opening.present → Lasts (IsOffDisk (control_at job.old)) a b) → IsSafeSince job opening b
  safe_on sound lacks lasts = record {
    each = λ settled.
        since_then (IsUnmarked job opening.present) opening a b (held.safe.each settled)
        (since_both (IsSound (upgrade_in job opening.present)) (Lacks (mark_at job.new)) a b (sound settled) (lacks (held.safe.each settled).present.1));
    lasts = λ settled. lasts_then (IsOffDisk (control_at job.old)) opening a b (held.safe.lasts settled) (lasts settled);
  }

  module _ (still : stage ≡ Moving → ⊥) where
    pub held_on : Each (AsAtStart (upgrade_in job opening.present) (is_moved stage)) b.present.names → get b.present.names (mark_at job.new) ≡ None → ((dir : Path) → get a.present.names dir ≡ Some Dir → get b.present.names dir ≡ Some Dir) → (Settled opening.present → Since (Sound (upgrade_in job opening.present) stage) a b)
        → (Lacks (mark_at job.new) a.present → Since (Lacks (mark_at job.new)) a b) → (NeedsNew job opening.present a.present → NeedsNew job opening.present b.present) → Held job stage opening b
    held_on names unmarked dirs sound lacks needs = record {
      begins = held.begins;
      names = names;
      unmarked = unmarked;
      dirs = λ dir there. dirs dir (held.dirs dir there);
      safe = safe_on (λ settled. any_stage (upgrade_in job opening.present) stage a b (sound settled)) lacks (λ settled. staged_lasts job opening.present held.begins settled stage still a b (sound settled));
      sound = λ settled. (sound settled).present;
      needs = λ settled. needs (held.needs settled);
    }

    -- a run that makes names at new places alone
    module _ (tops : List Path) (places : AreNewPlaces job opening.present tops) (goes : Goes (MakesWithin tops a.present) a b) where
      within_goes : Goes (StaysWithin tops a.present) a b
      within_goes = goes_weaker (MakesWithin tops a.present) (StaysWithin tops a.present) (λ s call allowed. allowed.0) goes

      pub goes_held : Held job stage opening b
      goes_held =
          let u = upgrade_in job opening.present in
          let within = (goes_within tops a b within_goes).present in
          held_on
          (λ path outside. within.names path (λ in_it. outside (places.inside path in_it).0) ∙ held.names path outside)
          (within.names (mark_at job.new) places.no_mark ∙ held.unmarked)
          (λ dir there. (dir_stays a b dir (makes_keep tops a b goes) there).present)
          (λ settled. goes_sound u (ready_of job opening.present held.begins settled) stage tops (λ path in_it. (places.inside path in_it).0) still a b (held.sound settled) goes)
          (λ lacks. goes_lacks tops (mark_at job.new) places.no_mark a b lacks within_goes)
          (λ needs.
          let (same, tracked, later) = (makes_need u.new_tops (holders_in job opening.present) (control_at job.new) tops places.no_control places.inside a b needs.tracked needs.needs goes).present in
          record { tracked = tracked; needs = later })
