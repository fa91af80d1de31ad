-- The frame of a run, from step to step.
use Rattle.std.proofs.Common.{◌≡◌, sym, subst}
use Rattle.fs_model.specs.State.{FsState}
use Rattle.fs_model.specs.Trail.{Trail, Since, Unchanged}
use Rattle.fs_model.proofs.Runs.{since_then, since_weaker}
use Rattle.control_file.specs.declared.job.Job.{Job}
use Rattle.phase_frames.specs.Framed.{IsFramed}

-- a step before, and then one of a phase with the same job
pub framed_then : (job later : Job) (start : FsState) (a b c : Trail) → later ≡ job → Since (IsFramed job start) a b → (IsFramed later start b.present → Since (IsFramed later start) b c) → Since (IsFramed job start) a c
framed_then job later start a b c same front back =
    since_then (IsFramed job start) a b c front
    (subst (λ (j : Job). Since (IsFramed j start) b c) same (back (subst (λ (j : Job). IsFramed j start b.present) (sym same) front.present)))

-- where no state is another
pub framed_unchanged : (job : Job) (a b : Trail) → IsFramed job a.present a.present → Unchanged a b → Since (IsFramed job a.present) a b
framed_unchanged job a b framed unchanged = since_weaker (λ s. s ≡ a.present) (IsFramed job a.present) (λ s is. subst (IsFramed job a.present) (sym is) framed) a b unchanged
