-- What every crash of an upgrade leaves.
use Rattle.fs_model.specs.State.{FsState}
use Rattle.fs_model.specs.Crash.{Settled, Image}
use Rattle.fs_model.specs.Trail.{Trail, Since, EachCrash}
use Rattle.fs_model.proofs.Runs.{since_weaker}
use Rattle.control_file.specs.declared.job.Job.{Job}
use Rattle.crash_safety.specs.Sound.{Whole, Moving, Moved, IsSound, Stage, Sound}
use Rattle.crash_safety.specs.Crashes.{IsSafe, AsBefore, StaysRenamed}
use Rattle.crash_safety.specs.Lasting.{Lasts, IsOffDisk}
use Rattle.crash_safety.specs.Places.{control_at}
use Rattle.crash_safety.proofs.Crashed.{kept_before, moved_stays}
use Rattle.crash_safety.proofs.Lacking.{image_lacks}
use Rattle.crash_safety.proofs.SoundRuns.{sound_crashes}
use Rattle.phase_facts.specs.Places.{upgrade_in, mark_at}
use Rattle.phase_facts.specs.CanUpgrade.{CanBegin}
use Rattle.phase_facts.specs.Held.{IsUnmarked, IsSafeSince, CrashFacts, ShowsNoMark}
use Rattle.phase_facts.specs.Finishing.{IsMarkedSince}
use Rattle.phase_facts.proofs.Grounds.{ready_of, control_outside}

module _ (job : Job) (opening now : Trail) (begins : CanBegin job opening.present) (settled : Settled opening.present) where
  stays_renamed : (stage : Stage) (s : FsState) → Sound (upgrade_in job opening.present) stage s → StaysRenamed (upgrade_in job opening.present) s
  stays_renamed Whole s sound none x image = absurd (let (inode, found) = begins.control in let kept = sound.keeps.names_kept (control_at job.old) (control_outside job opening.present begins) in cc (found, kept, none))
  stays_renamed Moving s sound none x image = absurd (let (inode, found) = begins.control in let kept = sound.keeps.names_kept (control_at job.old) (control_outside job opening.present begins) in cc (found, kept, none))
  stays_renamed Moved s sound none x image = (let (gone, there) = moved_stays (upgrade_in job opening.present) (ready_of job opening.present begins settled) s x sound image in record { gone = gone; there = there })

  facts : Since (IsSound (upgrade_in job opening.present)) opening now → Lasts (IsOffDisk (control_at job.old)) opening now → CrashFacts job opening now
  facts sound lasts =
      let u = upgrade_in job opening.present in
      let ready = ready_of job opening.present begins settled in
      let safe = sound_crashes u ready opening now sound in
      record {
        safe = safe;
        renamed = since_weaker (IsSound u) (StaysRenamed u) (λ s both. stays_renamed both.0 s both.1) opening now sound;
        lasts = lasts;
        whole = λ copies. since_weaker (λ s. (x : FsState) → Image s x → IsSafe u x) (λ s. (x : FsState) → Image s x → AsBefore opening.present u.old_tops x) (λ s each x image. kept_before u ready copies x (each x image).old_kept) opening now safe;
      }

  pub safe_facts : IsSafeSince job opening now → CrashFacts job opening now
  safe_facts safe =
      facts (since_weaker (IsUnmarked job opening.present) (IsSound (upgrade_in job opening.present)) (λ s both. both.0) opening now (safe.each settled)) (safe.lasts settled)

  pub no_mark : IsSafeSince job opening now → EachCrash (ShowsNoMark job) opening now
  no_mark safe =
      since_weaker (IsUnmarked job opening.present) (λ s. (x : FsState) → Image s x → ShowsNoMark job x) (λ s both x image. image_lacks (mark_at job.new) s both.1 x image) opening now (safe.each settled)

  pub marked_facts : (before : Trail) → IsMarkedSince job opening before now → CrashFacts job opening now
  marked_facts before marked = facts (marked.sound settled) (marked.lasts settled)
