-- Runs that only read.
use Rattle.std.proofs.Common.{◌≡◌, ◌∙◌, sym, ap, subst}
use Rattle.std.specs.FinMap.{get}
use Rattle.fs_model.specs.State.{FsState}
use Rattle.fs_model.specs.Trail.{Trail, Unchanged}
use Rattle.fs_model.proofs.Runs.{since_weaker}
use Rattle.control_file.specs.declared.job.Job.{Job}
use Rattle.crash_safety.specs.Sound.{Stage, Moving, Sound}
use Rattle.crash_safety.specs.Lacks.{Lacks}
use Rattle.phase_facts.specs.Places.{upgrade_in, mark_at}
use Rattle.phase_facts.specs.Held.{NeedsNew, Held}
use Rattle.phase_facts.proofs.Holding.{held_on}

pub reads_held : (job : Job) (stage : Stage) → (stage ≡ Moving → ⊥) → (opening a b : Trail) → Held job stage opening a → Unchanged a b → Held job stage opening b
reads_held job stage still opening a b held unchanged =
    let u = upgrade_in job opening.present in
    held_on job stage opening a b held still
    (λ path outside. ap (λ (s : FsState). get s.names path) unchanged.present ∙ held.names path outside)
    (ap (λ (s : FsState). get s.names (mark_at job.new)) unchanged.present ∙ held.unmarked)
    (λ dir there. ap (λ (s : FsState). get s.names dir) unchanged.present ∙ there)
    (λ settled. since_weaker (λ s. s ≡ a.present) (Sound u stage) (λ s same. subst (Sound u stage) (sym same) (held.sound settled)) a b unchanged)
    (λ lacks. since_weaker (λ s. s ≡ a.present) (Lacks (mark_at job.new)) (λ s same. subst (Lacks (mark_at job.new)) (sym same) lacks) a b unchanged)
    (λ needs. subst (NeedsNew job opening.present) (sym unchanged.present) needs)
