-- The rename of the old control file spares a plan.
use Rattle.std.proofs.Common.{◌≡◌, ◌∙◌, ◌++◌, ◌∷◌, [], ℕ, List, ◌⊎◌, inl, inr, refl, subst, append_assoc}
use Rattle.std.proofs.lemmas.List.{append_cancel_left}
use Rattle.std.specs.Prelude.{codes}
use Rattle.fs_model.specs.Names.{Path}
use Rattle.fs_model.specs.State.{FsState}
use Rattle.fs_model.specs.Calls.{Call, Renames, SyncsDir}
use Rattle.fs_model.specs.Trail.{Trail, Goes}
use Rattle.fs_model.proofs.Going.{goes_weaker}
use Rattle.control_file.specs.declared.job.Job.{Job}
use Rattle.control_file.specs.declared.releases.Release.TheVariants.{V15, V16}
use Rattle.control_file.specs.Version.{dir_name_of}
use Rattle.crash_safety.specs.Frame.{IsInside, IsOutside}
use Rattle.crash_safety.specs.Synced.{IsOneOf}
use Rattle.crash_safety.specs.Places.{control_at, disabled_at}
use Rattle.disable_old.specs.Renamed.{Disables}
use Rattle.transfer_plan.specs.declared.plan.PlanItem.{PlanItem}
use Rattle.transfer_plan.specs.Carriable.{names_of, CanBeCarried, HaveOneDevice, SparesPlan}
use Rattle.transfer_plan.proofs.Staying.{run_keeps, run_keeps_devices}
use Rattle.phase_facts.specs.Places.{upgrade_in, holders_in, file_tops}
use Rattle.phase_facts.specs.CanUpgrade.{CanBegin}
use Rattle.phase_facts.specs.Plans.{IsPlanIn}
use Rattle.phase_facts.proofs.Grounds.{control_outside, disabled_outside}
use Rattle.phase_facts.proofs.Tops.{ground_places, region_at, root_apart}

inside_either : (tops more : List Path) (path : Path) → IsInside (tops ++ more) path → IsInside tops path ⊎ IsInside more path
inside_either [] more path inside = inr inside
inside_either (top ∷ tops) more path (inl under) = inl (inl under)
inside_either (top ∷ tops) more path (inr inside) = elim (inside_either tops more path inside) [ inl here ↦ inl (inr here) | inr there ↦ inr there ]

module _ (job : Job) (s : FsState) (begins : CanBegin job s) where
  -- a file of `global` is no file of a relation
  old_global : (name : List ℕ) → IsOutside (file_tops job.old V15 (holders_in job s)) (job.old ++ codes "global" ∷ name ∷ [])
  old_global name (inl (more, is)) =
      let same : codes "global" ∷ name ∷ [] ≡ codes "base" ∷ more = append_cancel_left job.old (codes "global" ∷ name ∷ []) (codes "base" ∷ more) (is ∙ append_assoc job.old (codes "base" ∷ []) more) in
      cc same
  old_global name (inr inside) = root_apart job.old (holders_in job s) begins.old_apart (job.old ++ codes "global" ∷ name ∷ []) (codes "global" ∷ name ∷ [], refl) (region_at (dir_name_of V15) (holders_in job s) (job.old ++ codes "global" ∷ name ∷ []) inside)

  in_plan : (items : List PlanItem) → IsPlanIn job s items → (path : Path) → IsOutside (upgrade_in job s).new_tops path → IsOutside (file_tops job.old V15 (holders_in job s)) path → IsOneOf (names_of items) path → ⊥
  in_plan items plan path not_new not_old one =
      elim (inside_either (file_tops job.old V15 (holders_in job s)) (file_tops job.new V16 (holders_in job s)) path (plan.names path one)) [
        | inl old ↦ not_old old
        | inr new ↦ not_new ((ground_places job s begins).inside path (inr (inr new))).0
      ]

  spares : (items : List PlanItem) → IsPlanIn job s items → (dir : Path) (t : FsState) (call : Call) → Disables (control_at job.old) (disabled_at job.old) dir t call → SparesPlan items t call
  spares items plan dir t (Renames from to) (is_from, is_to) name one = (
    (λ same. in_plan items plan (control_at job.old) (control_outside job s begins) (old_global (codes "pg_control")) (subst (IsOneOf (names_of items)) (same ∙ is_from) one)),
    (λ same. in_plan items plan (disabled_at job.old) (disabled_outside job s begins) (old_global (codes "pg_control.old")) (subst (IsOneOf (names_of items)) (same ∙ is_to) one)),
  )
  spares items plan dir t (SyncsDir path) allowed name one = tt
  spares items plan dir t call allowed name one = absurd allowed

  module _ (items : List PlanItem) (plan : IsPlanIn job s items) (dir : Path) (a b : Trail) (goes : Goes (Disables (control_at job.old) (disabled_at job.old) dir) a b) where
    spared : Goes (SparesPlan items) a b
    spared = goes_weaker (Disables (control_at job.old) (disabled_at job.old) dir) (SparesPlan items) (spares items plan dir) goes

    pub still_carried : CanBeCarried a.present.names items → CanBeCarried b.present.names items
    still_carried can = (run_keeps items a b spared can).present

    pub still_devices : HaveOneDevice a.present items → HaveOneDevice b.present items
    still_devices have = (run_keeps_devices items a b spared have).present
