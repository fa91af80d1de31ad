-- The end of an upgrade: what every crash of it leaves.
use Rattle.std.proofs.Common.{◌≡◌, ◌⊎◌, ◌∙◌, [], ◌∷◌, List, inl, inr, sym, subst}
use Rattle.fs_model.specs.Names.{Path}
use Rattle.fs_model.specs.State.{FsState}
use Rattle.fs_model.specs.Calls.{Call, Stats, Lists, ReadsAt, ReadsLink, Creates, SyncsFile, SyncsDir}
use Rattle.fs_model.specs.Crash.{Settled, Image}
use Rattle.fs_model.specs.WellFormed.{WellFormed}
use Rattle.fs_model.specs.Trail.{Trail, Goes, Since, EachCrash}
use Rattle.fs_model.proofs.Runs.{since_then, since_weaker}
use Rattle.fs_model.proofs.Going.{goes_weaker, since_both}
use Rattle.crash_safety.specs.Frame.{IsInside, StaysWithin}
use Rattle.crash_safety.specs.Calling.{Syncs, MakesWithin}
use Rattle.crash_safety.specs.Upgrade.{Upgrade, IsReady}
use Rattle.crash_safety.specs.Sound.{Stage, Moving, Sound}
use Rattle.crash_safety.specs.Crashes.{IsSafe}
use Rattle.crash_safety.specs.Lacks.{Lacks}
use Rattle.crash_safety.specs.Marked.{AllButMark, Marks}
use Rattle.crash_safety.specs.Tracked.{Tracked}
use Rattle.crash_safety.specs.Synced.{IsSynced, AreQuiet, NeedsOnly}
use Rattle.crash_safety.proofs.Crashed.{image_safe}
use Rattle.crash_safety.proofs.Going.{goes_sound, goes_lacks, syncs_within}
use Rattle.crash_safety.proofs.Lacking.{image_lacks}
use Rattle.crash_safety.proofs.Marking.{settled_all, image_same, goes_all}
use Rattle.crash_safety.proofs.NeedRuns.{makes_need}
use Rattle.crash_safety.proofs.Syncing.{synced_settled}
use Rattle.fs_tools.proofs.Making.{append-nil}
use Rattle.last_sync.specs.declared.places.Places.{Places}
use Rattle.last_sync.specs.Finished.{MarksAfterSync, IsMarkedAs, IsMarkedRun}

-- after the syncs all is on the disk
module _ (tops holders : List Path) (rewritten : Path) (inside : IsInside tops rewritten) (old middle : Trail) (tracked : Tracked old.present) (needs : NeedsOnly tops holders rewritten old.present) (syncs : Goes Syncs old middle) where
  as_within : Goes (MakesWithin [] old.present) old middle
  as_within = goes_weaker Syncs (MakesWithin [] old.present) (λ s call is. syncs_within old.present s call is) syncs

  pub synced_all : IsSynced tops middle.present → AreQuiet holders middle.present → Settled middle.present
  synced_all synced calm =
      let (within, still, later) = (makes_need tops holders rewritten [] (λ none. none) (λ path none. absurd none) old middle tracked needs as_within).present in
      synced_settled tops holders rewritten inside middle.present synced calm later still

-- making the mark makes names at its path alone
marks_within : (mark : Path) (s t : FsState) (call : Call) → Marks mark t call → MakesWithin (mark ∷ []) s t call
marks_within mark s t (Creates path) marks = (inl ([], marks ∙ sym (append-nil mark)), tt)
marks_within mark s t (Stats path) marks = (tt, tt)
marks_within mark s t (Lists path) marks = (tt, tt)
marks_within mark s t (ReadsAt path) marks = (tt, tt)
marks_within mark s t (ReadsLink path) marks = (tt, tt)
marks_within mark s t (SyncsFile path) marks = (tt, tt)
marks_within mark s t (SyncsDir path) marks = (tt, tt)
marks_within mark s t call marks = absurd marks

abbrev HasMark : Upgrade → Path → FsState → FsState → Type 0
HasMark u mark s x = IsSafe u x × IsMarkedAs mark s x

module _ (u : Upgrade) (ready : IsReady u) (stage : Stage) (still : stage ≡ Moving → ⊥) (places : Places) (new_place : (path : Path) → IsInside (places.mark ∷ []) path → IsInside u.new_tops path)
    (rewritten : Path) (inside : IsInside places.tops.items rewritten) (old : Trail) (sound : Sound u stage old.present) (lacks : Lacks places.mark old.present) (tracked : Tracked old.present)
    (needs : NeedsOnly places.tops.items places.holders.items rewritten old.present) where
  module _ (middle : Trail) (syncs : Goes Syncs old middle) where
    within : Goes (MakesWithin [] old.present) old middle
    within = goes_weaker Syncs (MakesWithin [] old.present) (λ s call is. syncs_within old.present s call is) syncs

    sound_before : Since (Sound u stage) old middle
    sound_before = goes_sound u ready stage [] (λ path none. absurd none) still old middle sound within

    lacks_before : Since (Lacks places.mark) old middle
    lacks_before = goes_lacks [] places.mark (λ none. none) old middle lacks (goes_weaker (MakesWithin [] old.present) (StaysWithin [] old.present) (λ s call is. is.0) within)

    before : EachCrash (HasMark u places.mark middle.present) old middle
    before =
        since_weaker (λ s. Sound u stage s × Lacks places.mark s) (λ s. (x : FsState) → Image s x → HasMark u places.mark middle.present x)
        (λ s both x image. (image_safe u ready stage s x both.0 image, inl (image_lacks places.mark s both.1 x image))) old middle (since_both (Sound u stage) (Lacks places.mark) old middle sound_before lacks_before)

    module _ (new : Trail) (marks : Goes (Marks places.mark) middle new) where
      sound_after : Since (Sound u stage) middle new
      sound_after =
          goes_sound u ready stage (places.mark ∷ []) new_place still middle new sound_before.present
          (goes_weaker (Marks places.mark) (MakesWithin (places.mark ∷ []) middle.present) (λ s call is. marks_within places.mark middle.present s call is) marks)

      sound_all : Since (Sound u stage) old new
      sound_all = since_then (Sound u stage) old middle new sound_before sound_after

      after : WellFormed middle.present → Settled middle.present → EachCrash (HasMark u places.mark middle.present) middle new
      after formed here =
          let all = goes_all places.mark middle.present formed middle new (settled_all places.mark middle.present here) marks in
          since_weaker (λ s. Sound u stage s × AllButMark places.mark middle.present s) (λ s. (x : FsState) → Image s x → HasMark u places.mark middle.present x)
          (λ s both x image. (image_safe u ready stage s x both.0 image, inr (image_same places.mark middle.present formed s both.1 lacks_before.present.now x image))) middle new
          (since_both (Sound u stage) (AllButMark places.mark middle.present) middle new sound_after all)

      each : (WellFormed middle.present × IsSynced places.tops.items middle.present × AreQuiet places.holders.items middle.present) ⊎ (new ≡ middle) → EachCrash (HasMark u places.mark middle.present) old new
      each (inl (formed, synced, calm)) =
          since_then (λ s. (x : FsState) → Image s x → HasMark u places.mark middle.present x) old middle new before
          (after formed (synced_all places.tops.items places.holders.items rewritten inside old middle tracked needs syncs synced calm))
      each (inr same) = subst (EachCrash (HasMark u places.mark middle.present) old) (sym same) before

  pub marked_run : (new : Trail) → MarksAfterSync places old new → IsMarkedRun u stage places.mark old new
  marked_run new m = record { middle = m.middle; syncs = m.syncs; sound = sound_all m.middle m.syncs new m.marks; each = each m.middle m.syncs new m.marks m.synced }
