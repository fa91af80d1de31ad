-- The last sync and the mark.
use Rattle.std.proofs.Common.{◌≡◌, ◌∙◌, ◌++◌, ◌∷◌, [], ℕ, List, Option, Some, None, MatchOption, inl, inr, refl, sym, ap, subst}
use Rattle.std.specs.Prelude.{codes, map}
use Rattle.std.specs.FinMap.{get}
use Rattle.fs_model.specs.declared.effect.Effect.{Effect}
use Rattle.fs_model.specs.declared.effect.Effect.TheVariants.{Nothing, KeepBytes, KeepNames}
use Rattle.fs_model.specs.declared.error.FsError.{FsError}
use Rattle.fs_model.specs.declared.error.FsError.TheVariants.{Failed}
use Rattle.fs_model.specs.Names.{Path}
use Rattle.fs_model.specs.State.{FsState, Names, Contents}
use Rattle.fs_model.specs.Effects.{apply}
use Rattle.fs_model.specs.Calls.{Call, Stats, Lists, ReadsAt, ReadsLink, Creates, SyncsFile, SyncsDir, MayDo, MayFail, Does, refusal}
use Rattle.fs_model.specs.Crash.{Settled, Image}
use Rattle.fs_model.specs.Trail.{Trail, Goes, Since, EachCrash}
use Rattle.fs_model.proofs.Runs.{since_then, since_weaker, all_weaker}
use Rattle.fs_model.proofs.Going.{goes_weaker, goes_since, goes_then}
use Rattle.control_file.specs.declared.job.Job.{Job}
use Rattle.control_file.specs.declared.releases.Release.TheVariants.{V16}
use Rattle.control_file.specs.Version.{dir_name_of}
use Rattle.catalog.specs.Cluster.{Cluster}
use Rattle.crash_safety.specs.Frame.{IsInside, Within, StaysWithin}
use Rattle.crash_safety.specs.Calling.{Syncs}
use Rattle.crash_safety.specs.Sound.{Stage, Moving, IsSound}
use Rattle.crash_safety.specs.Crashes.{IsSafe}
use Rattle.crash_safety.specs.Lacks.{Lacks}
use Rattle.crash_safety.specs.Lasting.{Lasts, IsOffDisk}
use Rattle.crash_safety.specs.Marked.{Marks}
use Rattle.crash_safety.specs.Synced.{IsOneOf, WaitsInside, NeedsOnly}
use Rattle.crash_safety.specs.Places.{control_at, tops_at}
use Rattle.crash_safety.proofs.Crashed.{image_safe}
use Rattle.crash_safety.proofs.Going.{goes_within}
use Rattle.crash_safety.proofs.Lacking.{image_lacks}
use Rattle.crash_safety.proofs.Persisting.{lasts_then}
use Rattle.crash_safety.proofs.SoundRuns.{any_stage}
use Rattle.last_sync.specs.declared.places.Places.{Places}
use Rattle.last_sync.specs.Finished.{MarksAfterSync, IsMarkedAs, IsMarkedRun}
use Rattle.last_sync.proofs.Crashing.{marked_run}
use Rattle.phase_facts.specs.Places.{upgrade_in, mark_at, holders_in, locations_of}
use Rattle.phase_facts.specs.CanUpgrade.{CanUpgrade}
use Rattle.phase_facts.specs.Held.{IsUnmarked, NeedsNew, Held}
use Rattle.phase_facts.specs.Finishing.{AreEndPlaces, IsMarkedSafe, IsMarkedSince}
use Rattle.phase_facts.proofs.Grounds.{ready_of}
use Rattle.phase_facts.proofs.Replaying.{region_in}
use Rattle.phase_facts.proofs.Holding.{staged_lasts}

-- ---- the places of the last sync

-- what needs a sync in some directories needs it in more
needs_more : (tops more holders further : List Path) (rewritten : Path) (s : FsState) → ((path : Path) → IsInside tops path → IsInside more path) → ((path : Path) → IsOneOf holders path → IsOneOf further path) → NeedsOnly tops holders rewritten s → NeedsOnly more further rewritten s
needs_more tops more holders further rewritten s inside held needs = record {
  waiting = all_weaker (WaitsInside tops holders s) (WaitsInside more further s) (λ c (dir, in_it, there, is). (dir, elim in_it [ inl here ↦ inl (inside dir here) | inr one ↦ inr (held dir one) ], there, is)) s.pending needs.waiting;
  clean = λ path inode outside named. needs.clean path inode (λ in_it. outside (inside path in_it)) named;
}

regions_more : (release : List ℕ) (locations others : List Path) → ((location : Path) → IsOneOf locations location → IsOneOf others location) → (path : Path) → IsInside (map (λ location. location ++ release ∷ []) locations) path → IsInside (map (λ location. location ++ release ∷ []) others) path
regions_more release [] others among path none = absurd none
regions_more release (location ∷ locations) others among path (inl (rest, is)) = subst (IsInside (map (λ location. location ++ release ∷ []) others)) (sym is) (region_in release others location rest (among location (inl refl)))
regions_more release (location ∷ locations) others among path (inr inside) = regions_more release locations others (λ other one. among other (inr one)) path inside

module _ (job : Job) (catalog : Cluster) (head : List ℕ) (start : FsState) (can : CanUpgrade job catalog head start) (places : Places) (ends : AreEndPlaces job catalog places) where
  pub tops_cover : (path : Path) → IsInside (upgrade_in job start).new_tops path → IsInside places.tops.items path
  tops_cover path inside = subst (λ tops. IsInside tops path) (sym ends.tops) (covered inside)
    where
      covered : IsInside (upgrade_in job start).new_tops path → IsInside (tops_at (locations_of catalog.tablespaces) (dir_name_of V16) job.new) path
      covered (inl under) = inl under
      covered (inr inside) = inr (regions_more (dir_name_of V16) (holders_in job start) (locations_of catalog.tablespaces) can.known path inside)

  pub holders_cover : (path : Path) → IsOneOf (holders_in job start) path → IsOneOf places.holders.items path
  holders_cover path one = subst (λ holders. IsOneOf holders path) (sym ends.holders) (can.known path one)

  pub end_needs : (s : FsState) → NeedsNew job start s → NeedsOnly places.tops.items places.holders.items (control_at job.new) s
  end_needs s needs = needs_more (upgrade_in job start).new_tops places.tops.items (holders_in job start) places.holders.items (control_at job.new) s tops_cover holders_cover needs.needs

  pub end_control : IsInside places.tops.items (control_at job.new)
  end_control = tops_cover (control_at job.new) (inl (codes "global" ∷ codes "pg_control" ∷ [], refl))

-- ---- what readers see

-- two states that readers can't tell apart
pub record AreSeenAlike (s t : FsState) : Type 0 where
  pub names : t.names ≡ s.names
  pub bytes : t.bytes ≡ s.bytes
  pub devices : t.devices ≡ s.devices

module _ (a s : FsState) (alike : AreSeenAlike a s) where
  at_effect : (effect e : Effect) → effect ≡ e → AreSeenAlike a (apply s e) → AreSeenAlike a (apply s effect)
  at_effect effect e is seen = subst (λ f. AreSeenAlike a (apply s f)) (sym is) seen

  synced : (call : Call) (effect : Effect) → Syncs s call → Does s call effect → AreSeenAlike a (apply s effect)
  synced (Stats path) effect allowed does = at_effect effect Nothing does alike
  synced (Lists path) effect allowed does = at_effect effect Nothing does alike
  synced (ReadsAt path) effect allowed does = at_effect effect Nothing does alike
  synced (ReadsLink path) effect allowed does = at_effect effect Nothing does alike
  synced (SyncsFile path) effect allowed (inode, named, is) = at_effect effect (KeepBytes inode) is (record { names = alike.names; bytes = alike.bytes; devices = alike.devices })
  synced (SyncsDir path) effect allowed does = at_effect effect (KeepNames path) does (record { names = alike.names; bytes = alike.bytes; devices = alike.devices })
  synced call effect allowed does = absurd allowed

  failed : (call : Call) (effect : Effect) → Syncs s call → MayFail s call effect → AreSeenAlike a (apply s effect)
  failed (Stats path) effect allowed fails = elim fails [ inl nothing ↦ at_effect effect Nothing nothing alike | inr does ↦ synced (Stats path) effect allowed does ]
  failed (Lists path) effect allowed fails = elim fails [ inl nothing ↦ at_effect effect Nothing nothing alike | inr does ↦ synced (Lists path) effect allowed does ]
  failed (ReadsAt path) effect allowed fails = elim fails [ inl nothing ↦ at_effect effect Nothing nothing alike | inr does ↦ synced (ReadsAt path) effect allowed does ]
  failed (ReadsLink path) effect allowed fails = elim fails [ inl nothing ↦ at_effect effect Nothing nothing alike | inr does ↦ synced (ReadsLink path) effect allowed does ]
  failed (SyncsFile path) effect allowed fails = elim fails [ inl nothing ↦ at_effect effect Nothing nothing alike | inr does ↦ synced (SyncsFile path) effect allowed does ]
  failed (SyncsDir path) effect allowed fails = elim fails [ inl nothing ↦ at_effect effect Nothing nothing alike | inr does ↦ synced (SyncsDir path) effect allowed does ]
  failed call effect allowed fails = absurd allowed

  refused : (call : Call) (effect : Effect) (found : Option FsError) → Syncs s call → MatchOption found (MayFail s call effect) (λ _. effect ≡ Nothing) → AreSeenAlike a (apply s effect)
  refused call effect None allowed may = failed call effect allowed may
  refused call effect (Some error) allowed may = at_effect effect Nothing may alike

  answered : (call : Call) (answer : Option FsError) (effect : Effect) → Syncs s call → MayDo s call answer effect → AreSeenAlike a (apply s effect)
  answered call None effect allowed may = synced call effect allowed may.1
  answered call (Some Failed) effect allowed may = refused call effect (refusal s call) allowed may
  answered call (Some error) effect allowed may = at_effect effect Nothing may.1 alike

pub syncs_alike : (a b : Trail) → Goes Syncs a b → AreSeenAlike a.present b.present
syncs_alike a b goes =
    (goes_since Syncs (AreSeenAlike a.present) (λ s call answer effect here allowed may. answered a.present s here call answer effect allowed may) (record { names = refl; bytes = refl; devices = refl }) goes).present

-- what is as in the one is as in the other
marked_alike : (mark : Path) (a s x : FsState) → AreSeenAlike a s → IsMarkedAs mark s x → IsMarkedAs mark a x
marked_alike mark a s x alike (inl none) = inl none
marked_alike mark a s x alike (inr same) = inr (record {
  names = λ path other. same.names path other ∙ ap (λ (m : Names). get m path) alike.names;
  bytes = λ path inode named. same.bytes path inode (ap (λ (m : Names). get m path) alike.names ∙ named) ∙ ap (λ (b : Contents). get b inode) alike.bytes;
})

-- ---- the phase

module _ (mark : Path) (a s : FsState) where
  abbrev OfMark : Call → Type 0
  OfMark call = StaysWithin (mark ∷ []) a s call

  syncs_of_mark : (call : Call) → Syncs s call → OfMark call
  syncs_of_mark (Stats path) allowed = tt
  syncs_of_mark (Lists path) allowed = tt
  syncs_of_mark (ReadsAt path) allowed = tt
  syncs_of_mark (ReadsLink path) allowed = tt
  syncs_of_mark (SyncsFile path) allowed = tt
  syncs_of_mark (SyncsDir path) allowed = tt
  syncs_of_mark call allowed = absurd allowed

  marks_of_mark : (call : Call) → Marks mark s call → OfMark call
  marks_of_mark (Creates path) same = inl ([], same ∙ append-nil mark)
    where
      append-nil : (path : Path) → path ≡ path ++ []
      append-nil [] = refl
      append-nil (name ∷ path) = ap (λ rest. name ∷ rest) (append-nil path)
  marks_of_mark (Stats path) allowed = tt
  marks_of_mark (Lists path) allowed = tt
  marks_of_mark (ReadsAt path) allowed = tt
  marks_of_mark (ReadsLink path) allowed = tt
  marks_of_mark (SyncsFile path) allowed = tt
  marks_of_mark (SyncsDir path) allowed = tt
  marks_of_mark call allowed = absurd allowed

-- all but the mark stays, whatever the answer
pub ending_within : (places : Places) (old new : Trail) → MarksAfterSync places old new → Within (places.mark ∷ []) old.present new.present
ending_within places old new m =
    let tops = places.mark ∷ [] in
    (goes_within tops old new
    (goes_then (StaysWithin tops old.present)
    (goes_weaker Syncs (StaysWithin tops old.present) (λ s call is. syncs_of_mark places.mark old.present s call is) m.syncs)
    (goes_weaker (Marks places.mark) (StaysWithin tops old.present) (λ s call is. marks_of_mark places.mark old.present s call is) m.marks))).present

module _ (job : Job) (catalog : Cluster) (head : List ℕ) (stage : Stage) (still : stage ≡ Moving → ⊥) (opening old new : Trail) (can : CanUpgrade job catalog head opening.present) (places : Places) (ends : AreEndPlaces job catalog places) (held : Held job stage opening old) (m : MarksAfterSync places old new) where
  module _ (settled : Settled opening.present) where
    mark_inside : (path : Path) → IsInside (places.mark ∷ []) path → IsInside (upgrade_in job opening.present).new_tops path
    mark_inside path (inl (rest, is)) = inl (codes "pg_profile" ∷ codes "done" ∷ rest, is ∙ ap (λ mark. mark ++ rest) ends.mark ∙ below job.new)
      where
        below : (root : Path) → (root ++ codes "pg_profile" ∷ codes "done" ∷ []) ++ rest ≡ root ++ codes "pg_profile" ∷ codes "done" ∷ rest
        below [] = refl
        below (name ∷ root) = ap (λ path. name ∷ path) (below root)
    mark_inside path (inr none) = absurd none

    run : IsMarkedRun (upgrade_in job opening.present) stage places.mark old new
    run =
        marked_run (upgrade_in job opening.present) (ready_of job opening.present can.begins settled) stage still places mark_inside (control_at job.new) (end_control job catalog head opening.present can places ends)
        old (held.sound settled) (subst (λ mark. Lacks mark old.present) (sym ends.mark) (held.safe.each settled).present.1) (held.needs settled).tracked (end_needs job catalog head opening.present can places ends old.present (held.needs settled)) new m

    before : EachCrash (IsMarkedSafe job opening.present old.present) opening old
    before =
        since_weaker (IsUnmarked job opening.present) (λ s. (x : FsState) → Image s x → IsMarkedSafe job opening.present old.present x)
        (λ s (sound, lacks) x image. (image_safe (upgrade_in job opening.present) (ready_of job opening.present can.begins settled) sound.0 s x sound.1 image, inl (image_lacks (mark_at job.new) s lacks x image))) opening old (held.safe.each settled)

    after : EachCrash (IsMarkedSafe job opening.present old.present) old new
    after =
        let alike = syncs_alike old run.middle run.syncs in
        subst (λ mark. EachCrash (λ x. IsSafe (upgrade_in job opening.present) x × IsMarkedAs mark old.present x) old new) ends.mark
        (since_weaker (λ s. (x : FsState) → Image s x → IsSafe (upgrade_in job opening.present) x × IsMarkedAs places.mark run.middle.present x) (λ s. (x : FsState) → Image s x → IsSafe (upgrade_in job opening.present) x × IsMarkedAs places.mark old.present x)
        (λ s each x image. let (safe, marked) = each x image in (safe, marked_alike places.mark old.present run.middle.present x alike marked)) old new run.each)

    each : EachCrash (IsMarkedSafe job opening.present old.present) opening new
    each = since_then (λ s. (x : FsState) → Image s x → IsMarkedSafe job opening.present old.present x) opening old new before after

    all_sound : Since (IsSound (upgrade_in job opening.present)) opening new
    all_sound =
        let u = upgrade_in job opening.present in
        since_then (IsSound u) opening old new (since_weaker (IsUnmarked job opening.present) (IsSound u) (λ s both. both.0) opening old (held.safe.each settled)) (any_stage u stage old new run.sound)

    all_last : Lasts (IsOffDisk (control_at job.old)) opening new
    all_last = lasts_then (IsOffDisk (control_at job.old)) opening old new (held.safe.lasts settled) (staged_lasts job opening.present can.begins settled stage still old new run.sound)

  pub ended : IsMarkedSince job opening old new
  ended = record { each = each; sound = all_sound; lasts = all_last }
