-- The last phase.
use Rattle.std.proofs.Common.{◌≡◌, ◌∙◌, ◌++◌, ◌∷◌, [], inl, inr, refl, ap, subst, append_assoc}
use Rattle.std.proofs.lemmas.List.{append_cancel_left}
use Rattle.std.specs.Prelude.{codes}
use Rattle.fs_model.specs.Names.{Path}
use Rattle.fs_model.specs.State.{FsState}
use Rattle.fs_model.specs.Calls.{Call, Stats, Lists, ReadsAt, ReadsLink, Creates, SyncsFile, SyncsDir}
use Rattle.fs_model.specs.Trail.{Trail, Goes, Since}
use Rattle.fs_model.proofs.Going.{goes_then, goes_weaker}
use Rattle.control_file.specs.declared.job.Job.{Job}
use Rattle.crash_safety.specs.Frame.{IsInside, IsOutside, StaysWithin}
use Rattle.crash_safety.specs.Calling.{Syncs}
use Rattle.crash_safety.specs.Marked.{Marks}
use Rattle.crash_safety.specs.Places.{control_at}
use Rattle.last_sync.specs.declared.places.Places.{Places}
use Rattle.last_sync.specs.Finished.{MarksAfterSync}
use Rattle.phase_facts.specs.Places.{upgrade_in, mark_at}
use Rattle.phase_frames.specs.Framed.{IsFramed}
use Rattle.phase_frames.proofs.Widths.{goes_framed}

append-nil : (path : Path) → path ≡ path ++ []
append-nil [] = refl
append-nil (name ∷ path) = ap (λ rest. name ∷ rest) (append-nil path)

module _ (mark : Path) (a s : FsState) where
  syncs_stay : (call : Call) → Syncs s call → StaysWithin (mark ∷ []) a s call
  syncs_stay (Stats path) allowed = tt
  syncs_stay (Lists path) allowed = tt
  syncs_stay (ReadsAt path) allowed = tt
  syncs_stay (ReadsLink path) allowed = tt
  syncs_stay (SyncsFile path) allowed = tt
  syncs_stay (SyncsDir path) allowed = tt
  syncs_stay call allowed = absurd allowed

  marks_stay : (call : Call) → Marks mark s call → StaysWithin (mark ∷ []) a s call
  marks_stay (Creates path) same = inl ([], same ∙ append-nil mark)
  marks_stay (Stats path) allowed = tt
  marks_stay (Lists path) allowed = tt
  marks_stay (ReadsAt path) allowed = tt
  marks_stay (ReadsLink path) allowed = tt
  marks_stay (SyncsFile path) allowed = tt
  marks_stay (SyncsDir path) allowed = tt
  marks_stay call allowed = absurd allowed

-- what is at the mark is below the new cluster's root
mark_below : (root rest : Path) → mark_at root ++ rest ≡ root ++ codes "pg_profile" ∷ codes "done" ∷ rest
mark_below root rest = append_assoc root (codes "pg_profile" ∷ codes "done" ∷ []) rest

no_control_there : (root : Path) → IsOutside (mark_at root ∷ []) (control_at root)
no_control_there root (inl (rest, is)) =
    let same : codes "global" ∷ codes "pg_control" ∷ [] ≡ codes "pg_profile" ∷ codes "done" ∷ rest =
    append_cancel_left root (codes "global" ∷ codes "pg_control" ∷ []) (codes "pg_profile" ∷ codes "done" ∷ rest) (is ∙ mark_below root rest) in
    cc same
no_control_there root (inr none) = none

pub ended_framed : (job : Job) (opening a b : Trail) (places : Places) → places.mark ≡ mark_at job.new → IsFramed job opening.present a.present → MarksAfterSync places a b → Since (IsFramed job opening.present) a b
ended_framed job opening a b places at framed run =
    let mark = mark_at job.new in
    let marks = subst (λ path. Goes (Marks path) run.middle b) at run.marks in
    goes_framed job opening a b (mark ∷ []) inside (no_control_there job.new) framed
    (goes_then (StaysWithin (mark ∷ []) a.present) (goes_weaker Syncs (StaysWithin (mark ∷ []) a.present) (λ s call is. syncs_stay mark a.present s call is) run.syncs)
    (goes_weaker (Marks mark) (StaysWithin (mark ∷ []) a.present) (λ s call is. marks_stay mark a.present s call is) marks))
  where
    inside : (path : Path) → IsInside (mark_at job.new ∷ []) path → IsInside (upgrade_in job opening.present).new_tops path
    inside path (inl (rest, is)) = inl (codes "pg_profile" ∷ codes "done" ∷ rest, is ∙ mark_below job.new rest)
    inside path (inr none) = absurd none
