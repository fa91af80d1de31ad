-- A mark that is made and put on the disk leaves a settled state settled.
use Rattle.std.proofs.Common.{◌≡◌, ◌≢◌, ◌⊎◌, inl, inr, ℕ, Bool, true, false, not, cond, List, [], ◌∷◌, ◌++◌, Option, Some, None, refl, sym, ◌∙◌, ap, subst}
use Rattle.std.specs.Prelude.{is_some}
use Rattle.std.specs.List.{filter}
use Rattle.std.specs.Option.{unwrap_or}
use Rattle.std.specs.Ordering.{eq_by_cmp, nat_cmp, is_eq}
use Rattle.std.specs.Cmp.{nat_cmp_total, tied_itself}
use Rattle.std.specs.FinMap.{get, insert, remove, get-insert, get-remove}
use Rattle.fs_model.specs.declared.node.Node.TheVariants.{File}
use Rattle.fs_model.specs.declared.effect.Effect.TheVariants.{NewFile, KeepBytes, KeepNames}
use Rattle.fs_model.specs.Names.{Path, parent}
use Rattle.fs_model.specs.PathLaws.{same_path_refl}
use Rattle.fs_model.specs.State.{Names, Change, FsState}
use Rattle.fs_model.specs.Effects.{apply, bytes_of, is_in, all_changed, set_name}
use Rattle.fs_model.specs.Calls.{Creates, SyncsFile, SyncsDir}
use Rattle.fs_model.specs.Crash.{Settled}
use Rattle.fs_model.specs.WellFormed.{IsKnown, WellFormed}
use Rattle.fs_model.specs.Trail.{Trail, Steps}
use Rattle.fs_model.proofs.Lookups.{get-set_name, same_path_or, set_name_here, insert_here, insert_other}
use Rattle.fs_model.proofs.Runs.{present_after}

-- the three effects
abbrev pub marked : FsState → Path → ℕ → FsState
marked s mark inode = apply (apply (apply s (NewFile mark inode)) (KeepBytes inode)) (KeepNames (parent mark))

module _ (s : FsState) (settled : Settled s) (well_formed : WellFormed s) (mark : Path) (i : ℕ) (none : get s.bytes i ≡ None) where
  change : Change
  change = (mark, Some (File i)) ∷ []

  -- what has a name afterwards is the mark, or had it
  named_before : (path : Path) (inode : ℕ) → get (set_name s.names mark (Some (File i))) path ≡ Some (File inode) → (inode ≡ i) ⊎ (get s.names path ≡ Some (File inode))
  named_before path inode named =
      same_path_or path mark (λ b. cond b (Some (File i)) (get s.names path) ≡ Some (File inode) → (inode ≡ i) ⊎ (get s.names path ≡ Some (File inode)))
      (λ _ is. inl (cc is)) (λ is. inr is) (sym (get-set_name s.names mark (Some (File i)) path) ∙ named)

  other_inode : (path : Path) (inode : ℕ) → get s.names path ≡ Some (File inode) → inode ≢ i
  other_inode path inode named same = (let has : is_some (get s.bytes inode) ≡ true = subst (IsKnown s.bytes s.devices path) named (well_formed.names path) in let there : get s.bytes inode ≡ None = ap (get s.bytes) same ∙ none in cc (has, there))

  removed_here : is_some (get (remove (insert s.dirty i tt) i) i) ≡ false
  removed_here = ap is_some (get-remove nat_cmp_total (insert s.dirty i tt) i i ∙ ap (λ r. cond (is_eq r) None (get (insert s.dirty i tt) i)) (tied_itself nat_cmp_total i))

  still_clean : (b : Bool) (found : Option (Unit {0})) → is_some found ≡ false → is_some (cond b None (cond b (Some tt) found)) ≡ false
  still_clean true found e = refl
  still_clean false found e = e

  pub marked_settled : Settled (marked s mark i)
  unfolding change
  marked_settled = record {
    nothing_pending =
        ap (λ (p : List Change). filter (λ c. not (is_in (parent mark) c)) (p ++ change ∷ [])) settled.nothing_pending
        ∙ ap (λ b. cond (not b) (change ∷ []) []) (same_path_refl (parent mark));
    names =
        ap (λ (p : List Change). all_changed s.names_kept (filter (is_in (parent mark)) (p ++ change ∷ []))) settled.nothing_pending
        ∙ ap (λ b. all_changed s.names_kept (cond b (change ∷ []) [])) (same_path_refl (parent mark))
        ∙ ap (λ (m : Names). set_name m mark (Some (File i))) settled.names;
    clean = λ path inode named. elim (named_before path inode named) [
      | inl same ↦ ap (λ j. is_some (get (remove (insert s.dirty i tt) i) j)) same ∙ removed_here
      | inr before ↦
          ap is_some (get-remove nat_cmp_total (insert s.dirty i tt) i inode ∙ ap (cond (eq_by_cmp nat_cmp inode i) None) (get-insert nat_cmp_total s.dirty i tt inode))
          ∙ still_clean (eq_by_cmp nat_cmp inode i) (get s.dirty inode) (settled.clean path inode before)
    ];
    bytes = λ path inode named. elim (named_before path inode named) [
      | inl same ↦
          ap (get (insert s.bytes_kept i (bytes_of (insert s.bytes i []) i))) same ∙ insert_here s.bytes_kept i (bytes_of (insert s.bytes i []) i)
          ∙ ap (λ (found : Option (List ℕ)). Some (unwrap_or found [])) (insert_here s.bytes i []) ∙ sym (ap (get (insert s.bytes i [])) same ∙ insert_here s.bytes i [])
      | inr before ↦
          insert_other s.bytes_kept i (bytes_of (insert s.bytes i []) i) inode (other_inode path inode before) ∙ settled.bytes path inode before
          ∙ sym (insert_other s.bytes i [] inode (other_inode path inode before))
    ];
  }

-- the three calls
module _ (mark dir : Path) (dir_is : dir ≡ parent mark) (a b c d : Trail) (creates : Steps (Creates mark) None a b) (keeps : Steps (SyncsFile mark) None b c) (syncs : Steps (SyncsDir dir) None c d) where
  pub mark_made : (i : ℕ) × (get a.present.bytes i ≡ None) × (d.present ≡ marked a.present mark i)
  mark_made =
      let (first, free_1, (i, none, is_1), at_1) = present_after (Creates mark) a b creates in
      let (second, free_2, (j, named, is_2), at_2) = present_after (SyncsFile mark) b c keeps in
      let (third, free_3, is_3, at_3) = present_after (SyncsDir dir) c d syncs in
      let after : b.present ≡ apply a.present (NewFile mark i) = at_1 ∙ ap (apply a.present) is_1 in
      let here : get b.present.names mark ≡ Some (File i) = ap (λ (s : FsState). get s.names mark) after ∙ set_name_here a.present.names mark (Some (File i)) in
      let same : j ≡ i = (let e = sym named ∙ here in cc e) in
      (i, none, at_3 ∙ (λ k. apply ((at_2 ∙ (λ l. apply (after l) ((is_2 ∙ ap (λ n. KeepBytes n) same) l))) k) ((is_3 ∙ ap (λ p. KeepNames p) dir_is) k)))

  pub mark_settled : Settled a.present → WellFormed a.present → Settled d.present
  mark_settled settled well_formed = let (i, none, is) = mark_made in subst Settled (sym is) (marked_settled a.present settled well_formed mark i none)

  pub mark_stands : (i : ℕ) × (get d.present.names mark ≡ Some (File i))
  mark_stands = let (i, none, is) = mark_made in (i, ap (λ (s : FsState). get s.names mark) is ∙ set_name_here a.present.names mark (Some (File i)))
