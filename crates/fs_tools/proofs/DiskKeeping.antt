-- What the sync of a tree leaves of the disk.
use Rattle.std.proofs.Common.{◌≡◌, ◌≢◌, inl, inr, ◌∙◌, ℕ, true, false, cond, List, [], ◌∷◌, Option, Some, None, refl, sym, ap, subst, MatchOption}
use Rattle.std.specs.List.{AllByRecursion, filter}
use Rattle.std.specs.FinMap.{get}
use Rattle.fs_model.specs.declared.node.Node.TheVariants.{File}
use Rattle.fs_model.specs.declared.effect.Effect.{Effect}
use Rattle.fs_model.specs.declared.effect.Effect.TheVariants.{Nothing, KeepBytes, KeepNames}
use Rattle.fs_model.specs.declared.error.FsError.{FsError}
use Rattle.fs_model.specs.declared.error.FsError.TheVariants.{Failed}
use Rattle.fs_model.specs.Names.{Path, IsUnder, parent}
use Rattle.fs_model.specs.PathLaws.{same_path_true}
use Rattle.fs_model.specs.State.{FsState, Change}
use Rattle.fs_model.specs.Effects.{apply, is_in, bytes_of}
use Rattle.fs_model.specs.Calls.{Call, Stats, Lists, SyncsFile, SyncsDir, MayDo, MayFail, Does, refusal}
use Rattle.fs_model.specs.WellFormed.{EachPair, IsOfOneDir}
use Rattle.fs_model.specs.Trail.{Trail, Since}
use Rattle.fs_model.proofs.Lookups.{insert_other}
use Rattle.fs_model.proofs.Going.{goes_since, goes_then, goes_weaker}
use Rattle.fs_model.proofs.Runs.{all_weaker}
use Rattle.crash_safety.specs.Frame.{IsUntouched}
use Rattle.crash_safety.proofs.Keeping.{all_changed_other}
use Rattle.fs_tools.specs.TreeSync.{SyncsFiles, SyncsDirs, SyncsTree}
use Rattle.fs_tools.specs.DiskKept.{SyncsUnder, KeepsDisk}
use Rattle.fs_tools.proofs.TreeSyncing.{filter_keeps}

under_of_files : (top : Path) (s : FsState) (call : Call) → SyncsFiles top s call → SyncsUnder top s call
under_of_files top s (Stats path) allowed = tt
under_of_files top s (Lists path) allowed = tt
under_of_files top s (SyncsFile path) allowed = allowed
under_of_files top s call allowed = absurd allowed

under_of_dirs : (top : Path) (s : FsState) (call : Call) → SyncsDirs top s call → SyncsUnder top s call
under_of_dirs top s (SyncsDir path) allowed = allowed
under_of_dirs top s call allowed = absurd allowed

-- what such a call keeps, whatever it answers
module _ (P : FsState → Type 0) (top : Path) (s : FsState) (here : P s) (bytes : (path : Path) (inode : ℕ) → IsUnder top path → get s.names path ≡ Some (File inode) → P (apply s (KeepBytes inode))) (names : (dir : Path) → IsUnder top dir → P (apply s (KeepNames dir))) where
  done : (call : Call) (effect : Effect) → SyncsUnder top s call → Does s call effect → P (apply s effect)
  done (Stats path) effect allowed does = subst (λ e. P (apply s e)) (sym does) here
  done (Lists path) effect allowed does = subst (λ e. P (apply s e)) (sym does) here
  done (SyncsFile path) effect allowed (inode, named, is) = subst (λ e. P (apply s e)) (sym is) (bytes path inode allowed named)
  done (SyncsDir path) effect allowed does = subst (λ e. P (apply s e)) (sym does) (names path allowed)
  done call effect allowed does = absurd allowed

  failed : (call : Call) (effect : Effect) → SyncsUnder top s call → MayFail s call effect → P (apply s effect)
  failed (Stats path) effect allowed fails = elim fails [ inl nothing ↦ subst (λ e. P (apply s e)) (sym nothing) here | inr does ↦ done (Stats path) effect allowed does ]
  failed (Lists path) effect allowed fails = elim fails [ inl nothing ↦ subst (λ e. P (apply s e)) (sym nothing) here | inr does ↦ done (Lists path) effect allowed does ]
  failed (SyncsFile path) effect allowed fails = elim fails [ inl nothing ↦ subst (λ e. P (apply s e)) (sym nothing) here | inr does ↦ done (SyncsFile path) effect allowed does ]
  failed (SyncsDir path) effect allowed fails = elim fails [ inl nothing ↦ subst (λ e. P (apply s e)) (sym nothing) here | inr does ↦ done (SyncsDir path) effect allowed does ]
  failed call effect allowed fails = absurd allowed

  refused_or : (call : Call) (effect : Effect) (refused : Option FsError) → SyncsUnder top s call → MatchOption refused (MayFail s call effect) (λ _. effect ≡ Nothing) → P (apply s effect)
  refused_or call effect None allowed may = failed call effect allowed may
  refused_or call effect (Some error) allowed may = subst (λ e. P (apply s e)) (sym may) here

  sync_keeps : (call : Call) (answer : Option FsError) (effect : Effect) → SyncsUnder top s call → MayDo s call answer effect → P (apply s effect)
  sync_keeps call None effect allowed may = done call effect allowed may.1
  sync_keeps call (Some Failed) effect allowed may = refused_or call effect (refusal s call) allowed may
  sync_keeps call (Some error) effect allowed may = subst (λ e. P (apply s e)) (sym may.1) here

-- the changes of one directory are none of a name in another
module _ (top dir path : Path) (under : IsUnder top dir) (outside : IsUnder top (parent path) → ⊥) where
  differs : (p : Path) → parent p ≡ dir → p ≢ path
  differs p is same = outside (subst (IsUnder top) (sym is ∙ ap parent same) under)

  one_untouched : (change : Change) → is_in dir change ≡ true → IsOfOneDir change → EachPair (λ name _. name ≢ path) change
  one_untouched [] is together = tt
  one_untouched (pair ∷ pairs) is (d, each) =
      let here : parent pair.0 ≡ dir = same_path_true (parent pair.0) dir is in
      all_weaker (λ pair. parent pair.0 ≡ d) (λ pair. pair.0 ≢ path) (λ other e. differs other.0 (e ∙ sym each.0 ∙ here)) (pair ∷ pairs) each

  filter_untouched : (changes : List Change) → AllByRecursion IsOfOneDir changes → IsUntouched (filter (is_in dir) changes) path
  filter_untouched [] together = tt
  filter_untouched (change ∷ changes) together =
      elim (is_in dir change) as (λ b. is_in dir change ≡ b → IsUntouched (cond b (change ∷ filter (is_in dir) changes) (filter (is_in dir) changes)) path) [
        | true ↦ λ is. (one_untouched change is together.0, filter_untouched changes together.1)
        | false ↦ λ _. filter_untouched changes together.1
      ] refl

disk_start : (top : Path) (a : FsState) → AllByRecursion IsOfOneDir a.pending → KeepsDisk top a a
disk_start top a together = record { now = refl; together = together; bytes = λ _ _. refl; names = λ _ _. refl }

disk_step : (top : Path) (a s : FsState) (call : Call) (answer : Option FsError) (effect : Effect) → KeepsDisk top a s → SyncsUnder top s call → MayDo s call answer effect → KeepsDisk top a (apply s effect)
disk_step top a s call answer effect here allowed may =
    sync_keeps (KeepsDisk top a) top s here
    (λ path inode under named. record {
      now = here.now;
      together = here.together;
      bytes = λ other none.
          insert_other s.bytes_kept inode (bytes_of s.bytes inode) other (λ same. none path under (ap (λ m. get m path) (sym here.now) ∙ named ∙ ap (λ i. Some (File i)) (sym same)))
          ∙ here.bytes other none;
      names = here.names;
    })
    (λ dir under. record {
      now = here.now;
      together = filter_keeps IsOfOneDir _ s.pending here.together;
      bytes = here.bytes;
      names = λ path outside. all_changed_other s.names_kept (filter (is_in dir) s.pending) path (filter_untouched top dir path under outside s.pending here.together) ∙ here.names path outside;
    })
    call answer effect allowed may

-- so does the sync of a whole tree, in every state on the way
pub tree_keeps_disk : (top : Path) (a b : Trail) → AllByRecursion IsOfOneDir a.present.pending → SyncsTree top a b → Since (KeepsDisk top a.present) a b
tree_keeps_disk top a b together (mid, files, dirs) =
    goes_since (SyncsUnder top) (KeepsDisk top a.present) (λ s call answer effect here allowed may. disk_step top a.present s call answer effect here allowed may) (disk_start top a.present together)
    (goes_then (SyncsUnder top) (goes_weaker (SyncsFiles top) (SyncsUnder top) (under_of_files top) files) (goes_weaker (SyncsDirs top) (SyncsUnder top) (under_of_dirs top) dirs))
