-- The rename of the old control file.
use Rattle.std.proofs.Common.{◌≡◌, ◌≢◌, ◌∙◌, ◌∷◌, [], ℕ, Bool, true, false, Option, Some, None, inl, inr, refl, sym, ap, subst, MatchOption}
use Rattle.std.specs.Prelude.{codes}
use Rattle.std.specs.FinMap.{get}
use Rattle.fs_model.specs.declared.node.Node.{Node}
use Rattle.fs_model.specs.declared.node.Node.TheVariants.{File}
use Rattle.fs_model.specs.declared.effect.Effect.{Effect}
use Rattle.fs_model.specs.declared.effect.Effect.TheVariants.{Nothing, Names as ChangeNames, KeepNames}
use Rattle.fs_model.specs.declared.error.FsError.{FsError}
use Rattle.fs_model.specs.declared.error.FsError.TheVariants.{Failed}
use Rattle.fs_model.specs.Names.{Path}
use Rattle.fs_model.specs.State.{FsState, Names}
use Rattle.fs_model.specs.Effects.{apply, changed, set_name}
use Rattle.fs_model.specs.Calls.{Call, Renames, SyncsDir, Does, MayFail, MayDo, refusal}
use Rattle.fs_model.specs.WellFormed.{Each}
use Rattle.fs_model.specs.Trail.{Trail, Goes, Since}
use Rattle.fs_model.proofs.Going.{goes_since}
use Rattle.fs_model.proofs.Lookups.{set_name_other}
use Rattle.control_file.specs.declared.job.Job.{Job}
use Rattle.crash_safety.specs.Frame.{IsInside}
use Rattle.crash_safety.specs.Upgrade.{CanDisable}
use Rattle.crash_safety.specs.Sound.{AsAtStart}
use Rattle.crash_safety.specs.Places.{control_at, disabled_at}
use Rattle.crash_safety.proofs.Renamed.{control_gone}
use Rattle.crash_safety.proofs.Waiting.{renamed_as}
use Rattle.disable_old.specs.Renamed.{Disables}
use Rattle.phase_facts.specs.Places.{disables, upgrade_in}
use Rattle.phase_facts.specs.CanUpgrade.{CanBegin}
use Rattle.phase_facts.proofs.Grounds.{control_outside, disabled_outside, new_control_inside}
use Rattle.phase_frames.specs.Framed.{IsFramed}
use Rattle.phase_frames.proofs.Kept.{framed_alike}

module _ (job : Job) (start : FsState) (begins : CanBegin job start) (disabling : disables job.mode ≡ true) where
  can : CanDisable (upgrade_in job start)
  can = record { renamed_old = inl (codes "global" ∷ codes "pg_control.old" ∷ [], refl); free = begins.can_disable disabling }

  -- the new control file is at none of the two names
  not_old : control_at job.new ≢ control_at job.old
  not_old same = control_outside job start begins (subst (IsInside (upgrade_in job start).new_tops) same (new_control_inside job start begins))

  not_renamed : control_at job.new ≢ disabled_at job.old
  not_renamed same = disabled_outside job start begins (subst (IsInside (upgrade_in job start).new_tops) same (new_control_inside job start begins))

  -- after the rename the file isn't there to be renamed again
  names_moved : (moved : Bool) (names after : Names) (inode : ℕ) → Each (AsAtStart (upgrade_in job start) moved) names → get names (control_at job.old) ≡ Some (File inode)
      → after ≡ changed names ((control_at job.old, None) ∷ (disabled_at job.old, Some (File inode)) ∷ []) → Each (AsAtStart (upgrade_in job start) true) after
  names_moved false names after inode each named is =
      let here = each (control_at job.old) (control_outside job start begins) in
      subst (Each (AsAtStart (upgrade_in job start) true)) (sym (is ∙ ap (λ (node : Option Node). changed names ((control_at job.old, None) ∷ (disabled_at job.old, node) ∷ [])) (sym named ∙ here)))
      (renamed_as (upgrade_in job start) false names each)
  names_moved true names after inode each named is =
      let here = each (control_at job.old) (control_outside job start begins) in
      let gone = control_gone (upgrade_in job start) can in
      absurd (cc (named, here, gone))

  renamed_framed : (s t : FsState) (inode : ℕ) → IsFramed job start s → get s.names (control_at job.old) ≡ Some (File inode)
      → t.names ≡ changed s.names ((control_at job.old, None) ∷ (disabled_at job.old, Some (File inode)) ∷ []) → t.bytes ≡ s.bytes → IsFramed job start t
  renamed_framed s t inode framed named is same = record {
    moved = true;
    in_mode = λ moved. disabling;
    names = names_moved framed.moved s.names t.names inode framed.names named is;
    control = ap (λ (m : Names). get m (control_at job.new)) is
        ∙ set_name_other (set_name s.names (control_at job.old) None) (disabled_at job.old) (Some (File inode)) (control_at job.new) not_renamed
        ∙ set_name_other s.names (control_at job.old) None (control_at job.new) not_old ∙ framed.control;
    bytes = λ number other known. ap (λ b. get b number) same ∙ framed.bytes number other known;
  }

  module _ (dir : Path) (s : FsState) (framed : IsFramed job start s) where
    abbrev Renaming : Call → Type 0
    Renaming call = Disables (control_at job.old) (disabled_at job.old) dir s call

    at_effect : (effect e : Effect) → effect ≡ e → IsFramed job start (apply s e) → IsFramed job start (apply s effect)
    at_effect effect e is holds = subst (λ f. IsFramed job start (apply s f)) (sym is) holds

    does : (call : Call) (effect : Effect) → Renaming call → Does s call effect → IsFramed job start (apply s effect)
    does (Renames from to) effect (is_from, is_to) (inode, named, is) =
        at_effect effect (ChangeNames ((from, None) ∷ (to, Some (File inode)) ∷ [])) is
        (renamed_framed s (apply s (ChangeNames ((from, None) ∷ (to, Some (File inode)) ∷ []))) inode framed (ap (get s.names) (sym is_from) ∙ named)
        (λ i. changed s.names ((is_from i, None) ∷ (is_to i, Some (File inode)) ∷ [])) refl)
    does (SyncsDir path) effect allowed done = at_effect effect (KeepNames path) done (framed_alike job start s (apply s (KeepNames path)) refl refl framed)
    does call effect allowed done = absurd allowed

    fails : (call : Call) (effect : Effect) → Renaming call → MayFail s call effect → IsFramed job start (apply s effect)
    fails (Renames from to) effect allowed may = elim may [ inl nothing ↦ at_effect effect Nothing nothing framed | inr done ↦ does (Renames from to) effect allowed done ]
    fails (SyncsDir path) effect allowed may = elim may [ inl nothing ↦ at_effect effect Nothing nothing framed | inr done ↦ does (SyncsDir path) effect allowed done ]
    fails call effect allowed may = absurd allowed

    failed : (call : Call) (effect : Effect) (refused : Option FsError) → Renaming call → MatchOption refused (MayFail s call effect) (λ _. effect ≡ Nothing) → IsFramed job start (apply s effect)
    failed call effect None allowed may = fails call effect allowed may
    failed call effect (Some error) allowed may = at_effect effect Nothing may framed

    answered : (call : Call) (answer : Option FsError) (effect : Effect) → Renaming call → MayDo s call answer effect → IsFramed job start (apply s effect)
    answered call None effect allowed may = does call effect allowed may.1
    answered call (Some Failed) effect allowed may = failed call effect (refusal s call) allowed may
    answered call (Some error) effect allowed may = at_effect effect Nothing may.1 framed

pub disabled_framed : (job : Job) (opening a b : Trail) → CanBegin job opening.present → disables job.mode ≡ true → IsFramed job opening.present a.present → (dir : Path) → Goes (Disables (control_at job.old) (disabled_at job.old) dir) a b → Since (IsFramed job opening.present) a b
disabled_framed job opening a b begins disabling framed dir goes =
    goes_since (Disables (control_at job.old) (disabled_at job.old) dir) (IsFramed job opening.present)
    (λ s call answer effect here allowed may. answered job opening.present begins disabling dir s here call answer effect allowed may) framed goes
