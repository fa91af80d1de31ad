-- The places of an upgrade that may begin.
use Rattle.std.proofs.Common.{◌∷◌, [], List, inl, inr, refl}
use Rattle.std.specs.Prelude.{codes}
use Rattle.fs_model.specs.Names.{Path}
use Rattle.fs_model.specs.State.{FsState}
use Rattle.fs_model.specs.Crash.{Settled}
use Rattle.control_file.specs.declared.job.Job.{Job}
use Rattle.crash_safety.specs.Frame.{IsInside, IsOutside}
use Rattle.crash_safety.specs.Upgrade.{IsReady}
use Rattle.crash_safety.specs.Places.{control_at, disabled_at}
use Rattle.crash_safety.proofs.Placing.{apart_outside}
use Rattle.crash_safety.proofs.Runs.{inside_of}
use Rattle.phase_facts.specs.Places.{upgrade_in, mark_at}
use Rattle.phase_facts.specs.CanUpgrade.{CanBegin}

pub first_inside : (top : Path) (tops : List Path) (path : Path) → IsInside (top ∷ []) path → IsInside (top ∷ tops) path
first_inside top tops path (inl under) = inl under
first_inside top tops path (inr none) = absurd none

module _ (job : Job) (s : FsState) (begins : CanBegin job s) where
  pub apart_of : (path : Path) → IsInside (upgrade_in job s).old_tops path → IsOutside (upgrade_in job s).new_tops path
  apart_of path inside = apart_outside (upgrade_in job s).old_tops (upgrade_in job s).new_tops begins.apart path inside

  pub control_outside : IsOutside (upgrade_in job s).new_tops (control_at job.old)
  control_outside = apart_of (control_at job.old) (inl (codes "global" ∷ codes "pg_control" ∷ [], refl))

  pub disabled_outside : IsOutside (upgrade_in job s).new_tops (disabled_at job.old)
  disabled_outside = apart_of (disabled_at job.old) (inl (codes "global" ∷ codes "pg_control.old" ∷ [], refl))

  pub mark_inside : IsInside (upgrade_in job s).new_tops (mark_at job.new)
  mark_inside = inl (codes "pg_profile" ∷ codes "done" ∷ [], refl)

  pub new_control_inside : IsInside (upgrade_in job s).new_tops (control_at job.new)
  new_control_inside = inl (codes "global" ∷ codes "pg_control" ∷ [], refl)

  pub ready_of : Settled s → IsReady (upgrade_in job s)
  ready_of settled = record {
    settled = settled;
    well_formed = begins.well_formed;
    apart = apart_of;
    control_old = inl (codes "global" ∷ codes "pg_control" ∷ [], refl);
    control_new = new_control_inside;
    can_disable = λ disabling. record { renamed_old = inl (codes "global" ∷ codes "pg_control.old" ∷ [], refl); free = begins.can_disable disabling };
  }

  -- the mark is none of the names of the rename, and below none
  pub mark_apart : IsOutside (control_at job.old ∷ disabled_at job.old ∷ []) (mark_at job.new)
  mark_apart (inl under) = apart_of (mark_at job.new) (first_inside _ _ (mark_at job.new) (inside_of job.old (control_at job.old) (codes "global" ∷ codes "pg_control" ∷ []) refl (mark_at job.new) (inl under))) mark_inside
  mark_apart (inr (inl under)) = apart_of (mark_at job.new) (first_inside _ _ (mark_at job.new) (inside_of job.old (disabled_at job.old) (codes "global" ∷ codes "pg_control.old" ∷ []) refl (mark_at job.new) (inl under))) mark_inside
  mark_apart (inr (inr none)) = none
