-- Runs of calls that keep the crash invariant.
use Rattle.std.proofs.Common.{◌≡◌, inl, inr, true, false, List, [], ◌∷◌, Option, None, refl, sym, ◌∙◌, subst}
use Rattle.std.specs.List.{AllByRecursion}
use Rattle.std.specs.FinMap.{get}
use Rattle.fs_model.specs.declared.effect.Effect.TheVariants.{Nothing}
use Rattle.fs_model.specs.declared.error.FsError.{FsError}
use Rattle.fs_model.specs.Names.{Path, parent}
use Rattle.fs_model.specs.State.{FsState, Change}
use Rattle.fs_model.specs.WellFormed.{EachPair}
use Rattle.fs_model.specs.Calls.{Call, Renames, SyncsDir}
use Rattle.fs_model.specs.Crash.{Image}
use Rattle.fs_model.specs.Trail.{Trail, Steps, Since, Unchanged, EachCrash}
use Rattle.fs_model.proofs.Runs.{steps_since, since_weaker, present_after}
use Rattle.crash_safety.specs.Upgrade.{Upgrade, IsReady}
use Rattle.crash_safety.specs.Sound.{Stage, Whole, Moving, Moved, Sound, IsSound, IsSafeCall, Waits}
use Rattle.crash_safety.specs.Frame.{IsInside, ChangesInside}
use Rattle.crash_safety.proofs.Keeping.{each_pair_weaker}
use Rattle.crash_safety.specs.Crashes.{IsSafe}
use Rattle.crash_safety.specs.Lacks.{Lacks, IsGoneAt, MakesNone}
use Rattle.crash_safety.proofs.Called.{call_sound, rename_done, sync_done, nothing_or_done, same_effect}
use Rattle.crash_safety.proofs.Crashed.{image_safe, moved_stays}
use Rattle.crash_safety.proofs.Renamed.{control_file, control_gone}
use Rattle.crash_safety.proofs.Lacking.{call_lacks}

-- one call more
pub safe_call_since : (u : Upgrade) → IsReady u → (stage : Stage) (call : Call) (answer : Option FsError) (old new : Trail) → Sound u stage old.present → IsSafeCall u stage old.present call → Steps call answer old new → Since (Sound u stage) old new
safe_call_since u ready stage call answer old new sound safe steps =
    steps_since (Sound u stage) call answer old new sound (λ effect may. call_sound u ready stage old.present sound call answer effect safe may) steps

pub lacks_call_since : (gone : Path) (call : Call) (answer : Option FsError) (old new : Trail) → Lacks gone old.present → MakesNone gone call → Steps call answer old new → Since (Lacks gone) old new
lacks_call_since gone call answer old new lacks makes steps =
    steps_since (Lacks gone) call answer old new lacks (λ effect may. call_lacks gone old.present lacks call answer effect makes may) steps

-- a run that changes nothing
pub unchanged_since : (P : FsState → Type 0) (old new : Trail) → P old.present → Unchanged old new → Since P old new
unchanged_since P old new holds unchanged = since_weaker (λ s. s ≡ old.present) P (λ s same. subst P (sym same) holds) old new unchanged

pub any_stage : (u : Upgrade) (stage : Stage) (old new : Trail) → Since (Sound u stage) old new → Since (IsSound u) old new
any_stage u stage old new since = since_weaker (Sound u stage) (IsSound u) (λ s sound. (stage, sound)) old new since

-- each crash of a sound run is safe
pub sound_crashes : (u : Upgrade) → IsReady u → (old new : Trail) → Since (IsSound u) old new → EachCrash (IsSafe u) old new
sound_crashes u ready old new since =
    since_weaker (IsSound u) (λ s. (x : FsState) → Image s x → IsSafe u x) (λ s sound x image. image_safe u ready sound.0 s x sound.1 image) old new since

-- the rename and its sync
module _ (u : Upgrade) (ready : IsReady u) (disables : u.disables ≡ true) where
  -- where the names on the disk lack the control file, the rename is there
  pub gone_moved : (stage : Stage) (s : FsState) → Sound u stage s → get s.names_kept u.control ≡ None → stage ≡ Moved
  gone_moved Whole s sound none = absurd (let found = (control_file u (ready.can_disable disables)).1 in let kept = sound.keeps.names_kept u.control (ready.apart u.control ready.control_old) in cc (found, kept, none))
  gone_moved Moving s sound none = absurd (let found = (control_file u (ready.can_disable disables)).1 in let kept = sound.keeps.names_kept u.control (ready.apart u.control ready.control_old) in cc (found, kept, none))
  gone_moved Moved s sound none = refl

  pub rename_since : (answer : Option FsError) (old new : Trail) → Sound u Whole old.present → Steps (Renames u.control u.renamed) answer old new → Since (IsSound u) old new
  rename_since answer old new sound steps =
      steps_since (IsSound u) (Renames u.control u.renamed) answer old new (Whole, sound)
      (λ effect may. elim (nothing_or_done old.present (Renames u.control u.renamed) answer effect (λ path from bytes e. cc e) may) [
        | inl nothing ↦ (Whole, same_effect (Sound u Whole) old.present effect Nothing nothing sound)
        | inr does ↦ (Moving, rename_done u ready disables old.present effect sound does)
      ]) steps

  pub sync_since : (answer : Option FsError) (old new : Trail) → Sound u Moving old.present → Steps (SyncsDir (parent u.control)) answer old new → Since (IsSound u) old new
  sync_since answer old new sound steps =
      steps_since (IsSound u) (SyncsDir (parent u.control)) answer old new (Moving, sound)
      (λ effect may. elim (nothing_or_done old.present (SyncsDir (parent u.control)) answer effect (λ path from bytes e. cc e) may) [
        | inl nothing ↦ (Moving, same_effect (Sound u Moving) old.present effect Nothing nothing sound)
        | inr does ↦ (Moved, sync_done u ready disables old.present effect sound does)
      ]) steps

  pub renamed_moving : (old new : Trail) → Sound u Whole old.present → Steps (Renames u.control u.renamed) None old new → Sound u Moving new.present
  renamed_moving old new sound steps =
      let (effect, free, does, is) = present_after (Renames u.control u.renamed) old new steps in
      subst (Sound u Moving) (sym is) (rename_done u ready disables old.present effect sound does)

  pub synced_moved : (old new : Trail) → Sound u Moving old.present → Steps (SyncsDir (parent u.control)) None old new → Sound u Moved new.present
  synced_moved old new sound steps =
      let (effect, free, does, is) = present_after (SyncsDir (parent u.control)) old new steps in
      subst (Sound u Moved) (sym is) (sync_done u ready disables old.present effect sound does)

-- and where the rename is on the disk, no crash brings the control file back
pub moved_gone : (u : Upgrade) → IsReady u → (s : FsState) → Sound u Moved s → Lacks u.control s
moved_gone u ready s sound =
    let can = ready.can_disable (sound.keeps.in_mode refl) in
    let outside = ready.apart u.control ready.control_old in
    record {
      now = sound.keeps.names u.control outside ∙ control_gone u can;
      kept = sound.keeps.names_kept u.control outside ∙ control_gone u can;
      waiting = all_new s.pending sound.keeps.pending;
    }
  where
    gone_in : (change : Change) → ChangesInside u.new_tops change → EachPair (IsGoneAt u.control) change
    gone_in change inside = each_pair_weaker (λ path _. IsInside u.new_tops path) (IsGoneAt u.control) (λ path node in_it same. absurd (ready.apart u.control ready.control_old (subst (IsInside u.new_tops) same in_it))) change inside

    all_new : (changes : List Change) → Waits u false changes → AllByRecursion (EachPair (IsGoneAt u.control)) changes
    all_new [] waits = tt
    all_new (change ∷ changes) (inl (here, rest)) = (gone_in change here, all_new changes rest)
    all_new (change ∷ changes) (inr (is, moves, rest)) = absurd (cc moves)

-- so every crash after it has the file under its other name
pub off_disk_renamed : (u : Upgrade) → IsReady u → u.disables ≡ true → (s x : FsState) → IsSound u s → get s.names_kept u.control ≡ None → Image s x → get x.names u.renamed ≡ get u.start.names u.control
off_disk_renamed u ready disables s x (stage, sound) none image =
    (moved_stays u ready s x (subst (λ t. Sound u t s) (gone_moved u ready disables stage s sound none) sound) image).1
