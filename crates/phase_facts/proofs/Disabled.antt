-- The rename of the old control file, and its sync.
use Rattle.std.proofs.Common.{◌≡◌, ◌∙◌, ◌++◌, ◌∷◌, [], ℕ, true, false, Option, Some, None, inl, inr, refl, sym, ap, subst}
use Rattle.std.specs.FinMap.{get}
use Rattle.fs_model.specs.declared.node.Node.{Node}
use Rattle.fs_model.specs.declared.node.Node.TheVariants.{File}
use Rattle.fs_model.specs.declared.error.FsError.TheVariants.{CrossDir}
use Rattle.fs_model.specs.Names.{Path}
use Rattle.fs_model.specs.State.{FsState, Names}
use Rattle.fs_model.specs.Effects.{changed, set_name}
use Rattle.fs_model.specs.Calls.{Call, Renames, SyncsDir, refusal, or_else, no_file, taken, refuse_if, crosses}
use Rattle.fs_model.specs.WellFormed.{Each}
use Rattle.fs_model.specs.Trail.{Trail, Goes, Since}
use Rattle.fs_model.proofs.Going.{goes_weaker}
use Rattle.fs_model.proofs.Lookups.{set_name_other}
use Rattle.control_file.specs.declared.job.Job.{Job}
use Rattle.crash_safety.specs.Frame.{IsOutside, StaysWithin}
use Rattle.crash_safety.specs.Upgrade.{Upgrade}
use Rattle.crash_safety.specs.Sound.{Whole, Moved, AsAtStart, Sound, IsSound}
use Rattle.crash_safety.specs.Lasting.{Lasts, IsOffDisk}
use Rattle.crash_safety.specs.Places.{control_at, disabled_at}
use Rattle.crash_safety.proofs.Renamed.{may_rename}
use Rattle.crash_safety.proofs.WithinImages.{blocked_alike}
use Rattle.crash_safety.proofs.Waiting.{renamed_as}
use Rattle.crash_safety.proofs.Tracking.{goes_tracked}
use Rattle.crash_safety.proofs.Needing.{renamed_needs}
use Rattle.crash_safety.proofs.Going.{goes_lacks}
use Rattle.disable_old.specs.Renamed.{IsRenamed, Disables}
use Rattle.phase_facts.specs.Places.{disables, upgrade_in, mark_at, holders_in}
use Rattle.phase_facts.specs.Held.{IsSafeSince, Held}
use Rattle.phase_facts.specs.Disabling.{ForEachUpgrade}
use Rattle.phase_facts.proofs.Grounds.{ready_of, control_outside, disabled_outside, new_control_inside, mark_apart}
use Rattle.phase_facts.proofs.Holding.{safe_on}
use Rattle.phase_facts.proofs.Standing.{dir_stays, disabling_keeps}

-- where outside names are as at the start, the rename is as free as it was
free_still : (u : Upgrade) (s : FsState) → IsOutside u.new_tops u.control → IsOutside u.new_tops u.renamed → Each (AsAtStart u false) s.names → refusal u.start (Renames u.control u.renamed) ≡ None → refusal s (Renames u.control u.renamed) ≡ None
free_still u s outside outside_renamed each free =
    (λ i. or_else (blocked_alike u.new_tops s.names u.start.names each [] u.control outside i) (or_else (blocked_alike u.new_tops s.names u.start.names each [] u.renamed outside_renamed i)
    (or_else (refuse_if (crosses u.control u.renamed) CrossDir) (or_else (no_file (each u.control outside i)) (taken (each u.renamed outside_renamed i))))))
    ∙ free

pub rename_free : (job : Job) (opening a : Trail) → disables job.mode ≡ true → Held job Whole opening a → refusal a.present (Renames (control_at job.old) (disabled_at job.old)) ≡ None
rename_free job opening a disabling held =
    free_still (upgrade_in job opening.present) a.present (control_outside job opening.present held.begins) (disabled_outside job opening.present held.begins) held.names (held.begins.can_disable disabling)

-- the names after the rename
names_moved : (u : Upgrade) (names after : Names) (inode : ℕ) → IsOutside u.new_tops u.control → Each (AsAtStart u false) names → get names u.control ≡ Some (File inode)
    → after ≡ changed names ((u.control, None) ∷ (u.renamed, Some (File inode)) ∷ []) → Each (AsAtStart u true) after
names_moved u names after inode outside each named is =
    subst (Each (AsAtStart u true)) (sym (is ∙ ap (λ (node : Option Node). changed names ((u.control, None) ∷ (u.renamed, node) ∷ [])) (sym named ∙ each u.control outside)))
    (renamed_as u false names each)

module _ (control renamed dir : Path) (a s : FsState) where
  disables_within : (call : Call) → Disables control renamed dir s call → StaysWithin (control ∷ renamed ∷ []) a s call
  disables_within (Renames from to) (is_from, is_to) = (inl (subst_under control from is_from), inr (inl (subst_under renamed to is_to)))
    where
      append-nil : (path : Path) → path ≡ path ++ []
      append-nil [] = refl
      append-nil (name ∷ path) = ap (λ rest. name ∷ rest) (append-nil path)

      subst_under : (top path : Path) → path ≡ top → (rest : Path) × (path ≡ top ++ rest)
      subst_under top path is = ([], is ∙ append-nil top)
  disables_within (SyncsDir path) is = tt
  disables_within call is = absurd is

module _ (job : Job) (opening a b : Trail) (disabling : disables job.mode ≡ true) (held : Held job Whole opening a) (dir : Path)
    (sound : ForEachUpgrade (control_at job.old) (disabled_at job.old) a.present (λ u. Since (IsSound u) a b))
    (lasts : ForEachUpgrade (control_at job.old) (disabled_at job.old) a.present (λ u. Lasts (IsOffDisk u.control) a b))
    (goes : Goes (Disables (control_at job.old) (disabled_at job.old) dir) a b) where
  pub disabling_safe : IsSafeSince job opening b
  disabling_safe =
      let u = upgrade_in job opening.present in
      safe_on job Whole opening a b held
      (λ settled. sound u (ready_of job opening.present held.begins settled) disabling refl refl (held.sound settled))
      (λ lacks. goes_lacks (control_at job.old ∷ disabled_at job.old ∷ []) (mark_at job.new) (mark_apart job opening.present held.begins) a b lacks
      (goes_weaker (Disables (control_at job.old) (disabled_at job.old) dir) (StaysWithin (control_at job.old ∷ disabled_at job.old ∷ []) a.present) (λ s call is. disables_within (control_at job.old) (disabled_at job.old) dir a.present s call is) goes))
      (λ settled. lasts u (ready_of job opening.present held.begins settled) disabling refl refl (held.sound settled))

  module _ (moved : ForEachUpgrade (control_at job.old) (disabled_at job.old) a.present (λ u. Sound u Moved b.present)) (done : IsRenamed a.present (control_at job.old) (disabled_at job.old) dir b.present) where
    no_mark : get b.present.names (mark_at job.new) ≡ None
    no_mark =
        let apart = mark_apart job opening.present held.begins in
        ap (λ (m : Names). get m (mark_at job.new)) done.names
        ∙ set_name_other (set_name a.present.names (control_at job.old) None) (disabled_at job.old) (Some (File done.inode)) (mark_at job.new) (λ same. apart (inr (inl (under_itself (disabled_at job.old) same))))
        ∙ set_name_other a.present.names (control_at job.old) None (mark_at job.new) (λ same. apart (inl (under_itself (control_at job.old) same)))
        ∙ held.unmarked
      where
        append-nil : (path : Path) → path ≡ path ++ []
        append-nil [] = refl
        append-nil (name ∷ path) = ap (λ rest. name ∷ rest) (append-nil path)

        under_itself : (top : Path) → mark_at job.new ≡ top → (rest : Path) × (mark_at job.new ≡ top ++ rest)
        under_itself top same = ([], same ∙ append-nil top)

    pub disabled_held : Held job Moved opening b
    disabled_held =
        let u = upgrade_in job opening.present in
        let outside = control_outside job opening.present held.begins in
        record {
          begins = held.begins;
          names = names_moved u a.present.names b.present.names done.inode outside held.names done.named done.names;
          unmarked = no_mark;
          dirs = λ path there. (dir_stays a b path (disabling_keeps (control_at job.old) (disabled_at job.old) dir a b goes) (held.dirs path there)).present;
          safe = disabling_safe;
          sound = λ settled. moved u (ready_of job opening.present held.begins settled) disabling refl refl (held.sound settled);
          needs = λ settled.
              let needs = held.needs settled in
              record {
                tracked = (goes_tracked (Disables (control_at job.old) (disabled_at job.old) dir) needs.tracked goes).present;
                needs = renamed_needs u.new_tops (holders_in job opening.present) (control_at job.new) a.present b.present (control_at job.old) (disabled_at job.old) dir done.inode needs.needs
                    (new_control_inside job opening.present held.begins) outside (disabled_outside job opening.present held.begins) done.named
                    (may_rename a.present (control_at job.old) (disabled_at job.old) (rename_free job opening a disabling held)).free done.names done.pending done.dirty;
              };
        }
