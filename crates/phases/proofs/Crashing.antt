-- Every crash of an upgrade that shows the mark shows an upgraded cluster.
use Rattle.std.proofs.Common.{◌≡◌, ◌∙◌, ◌⊎◌, inl, inr, None, subst}
use Rattle.std.specs.FinMap.{get}
use Rattle.fs_model.specs.State.{FsState}
use Rattle.fs_model.specs.Crash.{Settled, Image}
use Rattle.fs_model.specs.Trail.{Trail, Goes, EachCrash}
use Rattle.fs_model.proofs.Runs.{since_then, since_weaker}
use Rattle.fs_model.proofs.Going.{since_both}
use Rattle.control_file.specs.declared.job.Job.{Job}
use Rattle.crash_safety.specs.Lacks.{Lacks}
use Rattle.crash_safety.specs.Marked.{SameButMark, Marks}
use Rattle.crash_safety.specs.Sound.{Stage}
use Rattle.last_sync.specs.declared.places.Places.{Places}
use Rattle.last_sync.specs.Finished.{MarksAfterSync}
use Rattle.upgraded.specs.Upgrades as upgrades
use Rattle.upgraded.specs.Upgrades.{IsOwnMark}
use Rattle.upgraded.specs.Places.{mark_at as their_mark_at}
use Rattle.upgraded.proofs.Marking.{own_crashes}
use Rattle.phase_facts.specs.Places.{mark_at}
use Rattle.phase_facts.specs.Held.{Held, ShowsNoMark}
use Rattle.phase_facts.specs.Finishing.{IsMarkedSince, IsMarkedSafe}
use Rattle.phase_facts.proofs.Crashing.{no_mark}
use Rattle.phases.proofs.Ending.{one_mark}

module _ (job : Job) (stage : Stage) (opening old new : Trail) (held : Held job stage opening old) (settled : Settled opening.present) (places : Places) (is : places.mark ≡ mark_at job.new) (run : MarksAfterSync places old new) where
  -- before the last phase no crash shows the mark, and in it the mark has a file of its own
  own_marks : EachCrash (IsOwnMark (their_mark_at job.new) old.present) opening new
  own_marks =
      let same = one_mark job.new in
      since_then (λ s. (x : FsState) → Image s x → IsOwnMark (their_mark_at job.new) old.present x) opening old new
      (since_weaker (λ s. (x : FsState) → Image s x → ShowsNoMark job x) (λ s. (x : FsState) → Image s x → IsOwnMark (their_mark_at job.new) old.present x)
      (λ s shows x image inode named. (let none : get x.names (their_mark_at job.new) ≡ None = subst (λ path. get x.names path ≡ None) same (shows x image) in absurd (cc (none, named)))) opening old (no_mark job opening old held.begins settled held.safe))
      (own_crashes (their_mark_at job.new) old run.middle new (subst (λ path. Lacks path old.present) same (held.safe.each settled).present.1) run.syncs (subst (λ path. Goes (Marks path) run.middle new) (is ∙ same) run.marks))

  -- what follows from the states behind it holds of each crash that shows the mark
  pub crashes_have : (P : FsState → Type 0) → ((x : FsState) → upgrades.Marks job old.present x → P x) → IsMarkedSince job opening old new → EachCrash (λ x. (get x.names (mark_at job.new) ≡ None) ⊎ P x) opening new
  crashes_have P gives marked =
      since_weaker (λ s. ((x : FsState) → Image s x → IsMarkedSafe job opening.present old.present x) × ((x : FsState) → Image s x → IsOwnMark (their_mark_at job.new) old.present x)) (λ s. (x : FsState) → Image s x → (get x.names (mark_at job.new) ≡ None) ⊎ P x)
      (λ s both x image. elim (both.0 x image).1 [
        | inl none ↦ inl none
        | inr rest ↦ inr (gives x (record { rest = subst (λ path. SameButMark path old.present x) (one_mark job.new) rest; own = both.1 x image }))
      ]) opening new
      (since_both (λ s. (x : FsState) → Image s x → IsMarkedSafe job opening.present old.present x) (λ s. (x : FsState) → Image s x → IsOwnMark (their_mark_at job.new) old.present x) opening new (marked.each settled) own_marks)
