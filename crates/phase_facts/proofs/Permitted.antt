-- A rename that is put on the disk: no crash brings the old name back.
use Rattle.std.proofs.Common.{◌≡◌, ◌≢◌, ◌∙◌, ◌++◌, ◌∷◌, [], List, Option, Some, None, inl, inr, refl, sym, ap, subst}
use Rattle.std.specs.Prelude.{not}
use Rattle.std.specs.List.{AllByRecursion}
use Rattle.std.specs.FinMap.{get}
use Rattle.fs_model.specs.declared.node.Node.{Node}
use Rattle.fs_model.specs.declared.node.Node.TheVariants.{File}
use Rattle.fs_model.specs.declared.effect.Effect.{Effect}
use Rattle.fs_model.specs.declared.effect.Effect.TheVariants.{Nothing}
use Rattle.fs_model.specs.declared.error.FsError.{FsError}
use Rattle.fs_model.specs.Names.{Path, parent}
use Rattle.fs_model.specs.State.{FsState, Names, Change}
use Rattle.fs_model.specs.Effects.{apply, changed, all_changed, set_name, is_in}
use Rattle.fs_model.specs.Calls.{Call, Renames, SyncsDir, MayDo, Does, refusal}
use Rattle.fs_model.specs.WellFormed.{WellFormed, EachPair, IsOfOneDir}
use Rattle.fs_model.specs.Trail.{Trail, Goes}
use Rattle.fs_model.proofs.Runs.{all_append, all_weaker}
use Rattle.fs_model.proofs.Going.{goes_since}
use Rattle.fs_model.proofs.Lookups.{set_name_here, set_name_other}
use Rattle.crash_safety.specs.Frame.{IsUntouched}
use Rattle.crash_safety.specs.Lacks.{Lacks, IsGoneAt}
use Rattle.crash_safety.proofs.Called.{nothing_or_done}
use Rattle.crash_safety.proofs.Keeping.{all_filter, all_changed_other, each_pair_weaker}
use Rattle.crash_safety.proofs.Renamed.{may_rename}
use Rattle.crash_safety.proofs.Tracking.{reordered, untouched_out}
use Rattle.disable_old.specs.Renamed.{IsRenamed, Disables}

-- a change at the end
changed_last : (names : Names) (changes : List Change) (change : Change) → all_changed names (changes ++ change ∷ []) ≡ changed (all_changed names changes) change
changed_last names [] change = refl
changed_last names (c ∷ changes) change = changed_last (changed names c) changes change

-- where the name is gone now, it is gone once the waiting changes are there
record IsLeftGone (control : Path) (s : FsState) : Type 0 where
  together : AllByRecursion IsOfOneDir s.pending
  gone : get s.names control ≡ None → get (all_changed s.names_kept s.pending) control ≡ None

module _ (control renamed : Path) (differ : control ≢ renamed) (one_dir : parent control ≡ parent renamed) where
  renamed_gone : (names : Names) (node : Option Node) → get (changed names ((control, None) ∷ (renamed, node) ∷ [])) control ≡ None
  renamed_gone names node = set_name_other (set_name names control None) renamed node control differ ∙ set_name_here names control None

  module _ (s : FsState) (left : IsLeftGone control s) where
    at_effect : (effect e : Effect) → effect ≡ e → IsLeftGone control (apply s e) → IsLeftGone control (apply s effect)
    at_effect effect e is holds = subst (λ f. IsLeftGone control (apply s f)) (sym is) holds

    renames : (from to : Path) (effect : Effect) → from ≡ control → to ≡ renamed → Does s (Renames from to) effect → IsLeftGone control (apply s effect)
    renames from to effect is_from is_to (inode, named, is) =
        let change : Change = (from, None) ∷ (to, Some (File inode)) ∷ [] in
        let same : change ≡ (control, None) ∷ (renamed, Some (File inode)) ∷ [] = (λ i. (is_from i, None) ∷ (is_to i, Some (File inode)) ∷ []) in
        at_effect effect _ is (record {
          together = all_append IsOfOneDir s.pending (change ∷ []) left.together ((parent from, (refl, (ap parent is_to ∙ sym one_dir ∙ ap parent (sym is_from), tt))), tt);
          gone = λ _. ap (λ (names : Names). get names control) (changed_last s.names_kept s.pending change) ∙ ap (λ (c : Change). get (changed (all_changed s.names_kept s.pending) c) control) same ∙ renamed_gone (all_changed s.names_kept s.pending) (Some (File inode));
        })

    syncs : (path : Path) (effect : Effect) → Does s (SyncsDir path) effect → IsLeftGone control (apply s effect)
    syncs path effect is =
        at_effect effect _ is (record {
          together = all_filter IsOfOneDir (λ c. not (is_in path c)) s.pending left.together;
          gone = λ none. sym (reordered control path s.names_kept s.pending left.together) ∙ left.gone none;
        })

    one_call : (call : Call) (answer : Option FsError) (effect : Effect) (dir : Path) → Disables control renamed dir s call → MayDo s call answer effect → IsLeftGone control (apply s effect)
    one_call (Renames from to) answer effect dir allowed may =
        elim (nothing_or_done s (Renames from to) answer effect (λ path place bytes e. cc e) may) [ inl nothing ↦ at_effect effect Nothing nothing left | inr does ↦ renames from to effect allowed.0 allowed.1 does ]
    one_call (SyncsDir path) answer effect dir allowed may =
        elim (nothing_or_done s (SyncsDir path) answer effect (λ path place bytes e. cc e) may) [ inl nothing ↦ at_effect effect Nothing nothing left | inr does ↦ syncs path effect does ]
    one_call call answer effect dir allowed may = absurd allowed

-- whatever waited at the beginning
pub disabled_lacks : (control renamed dir : Path) (a b : Trail) → dir ≡ parent control → WellFormed a.present → refusal a.present (Renames control renamed) ≡ None → Goes (Disables control renamed dir) a b → IsRenamed a.present control renamed dir b.present → Lacks control b.present
disabled_lacks control renamed dir a b dir_is formed free goes done =
    let may = may_rename a.present control renamed free in
    let differ : control ≢ renamed = λ same. (let there : get a.present.names control ≡ None = ap (get a.present.names) same ∙ may.free in let named = done.named in cc (there, named)) in
    let start : IsLeftGone control a.present = record { together = formed.together; gone = λ none. absurd (let named = done.named in cc (none, named)) } in
    let left = (goes_since (Disables control renamed dir) (IsLeftGone control) (λ s call answer effect here allowed may_do. one_call control renamed differ may.together s here call answer effect dir allowed may_do) start goes).present in
    let none : get b.present.names control ≡ None = ap (λ (names : Names). get names control) done.names ∙ renamed_gone control renamed differ may.together a.present.names (Some (File done.inode)) in
    let untouched : IsUntouched b.present.pending control = subst (λ changes. IsUntouched changes control) (sym done.pending) (untouched_out control dir a.present.pending formed.together (sym dir_is)) in
    record {
      now = none;
      kept = sym (all_changed_other b.present.names_kept b.present.pending control untouched) ∙ left.gone none;
      waiting = all_weaker (EachPair (λ name _. name ≢ control)) (EachPair (IsGoneAt control)) (λ change. each_pair_weaker (λ name _. name ≢ control) (IsGoneAt control) (λ name node other same. absurd (other same)) change) b.present.pending untouched;
    }
