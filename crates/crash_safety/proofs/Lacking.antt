-- A name that no crash brings back stays so, unless a call makes it.
use Rattle.std.proofs.Common.{◌≡◌, ◌≢◌, inl, inr, ℕ, Bool, true, false, not, cond, List, [], ◌∷◌, Option, Some, None, refl, sym, ◌∙◌, ap, MatchOption}
use Rattle.std.specs.List.{filter}
use Rattle.std.specs.FinMap.{get}
use Rattle.fs_model.specs.declared.node.Node.{Node}
use Rattle.fs_model.specs.declared.node.Node.TheVariants.{Dir, File, Sym}
use Rattle.fs_model.specs.declared.effect.Effect.{Effect}
use Rattle.fs_model.specs.declared.effect.Effect.TheVariants.{Nothing, NewFile, Bytes, KeepBytes, KeepNames}
use Rattle.fs_model.specs.declared.error.FsError.{FsError}
use Rattle.fs_model.specs.declared.error.FsError.TheVariants.{Failed}
use Rattle.fs_model.specs.Names.{Path}
use Rattle.fs_model.specs.State.{Names, Change, FsState}
use Rattle.fs_model.specs.Effects.{apply, with_change, is_in, all_changed}
use Rattle.fs_model.specs.Calls.{Call, Stats, Lists, ReadsAt, ReadsLink, Creates, WritesAt, MakesDir, MakesSymlink, Links, Renames, Unlinks, RemovesDir, SyncsFile, SyncsDir, Does, MayFail, MayDo, refusal}
use Rattle.fs_model.specs.Crash.{Image, is_reached}
use Rattle.fs_model.specs.WellFormed.{Each, EachPair}
use Rattle.fs_model.proofs.Lookups.{each_changed, each_all_changed}
use Rattle.fs_model.proofs.Runs.{all_append, all_weaker}
use Rattle.crash_safety.specs.Frame.{IsUntouched}
use Rattle.crash_safety.specs.Tracked.{Tracked}
use Rattle.crash_safety.specs.Lacks.{Lacks, IsGoneAt, MakesNone}
use Rattle.crash_safety.proofs.Keeping.{all_filter, all_changed_other, each_pair_weaker}
use Rattle.crash_safety.proofs.WithinImages.{picked_all, get-reached}
use Rattle.crash_safety.proofs.Called.{same_effect}

module _ (gone : Path) where
  each_gone : (names : Names) → get names gone ≡ None → Each (IsGoneAt gone) names
  each_gone names none path same = ap (get names) same ∙ none

  other : (path : Path) (node : Option Node) → path ≢ gone → IsGoneAt gone path node
  other path node differs same = absurd (differs same)

  module _ (s : FsState) (lacks : Lacks gone s) where
    pub change_lacks : (change : Change) → EachPair (IsGoneAt gone) change → Lacks gone (with_change s change)
    change_lacks change none = record {
      now = each_changed (IsGoneAt gone) s.names change (each_gone s.names lacks.now) none gone refl;
      kept = lacks.kept;
      waiting = all_append (EachPair (IsGoneAt gone)) s.pending (change ∷ []) lacks.waiting (none, tt);
    }

    sync_lacks : (dir : Path) → Lacks gone (apply s (KeepNames dir))
    sync_lacks dir = record {
      now = lacks.now;
      kept = each_all_changed (IsGoneAt gone) s.names_kept (filter (is_in dir) s.pending) (each_gone s.names_kept lacks.kept) (all_filter (EachPair (IsGoneAt gone)) (is_in dir) s.pending lacks.waiting) gone refl;
      waiting = all_filter (EachPair (IsGoneAt gone)) (λ change. not (is_in dir change)) s.pending lacks.waiting;
    }

    done : (effect e : Effect) → effect ≡ e → Lacks gone (apply s e) → Lacks gone (apply s effect)
    done effect e is holds = same_effect (Lacks gone) s effect e is holds

    bytes_lacks : (inode : ℕ) (bytes : List ℕ) → Lacks gone (apply s (Bytes inode bytes))
    bytes_lacks inode bytes = record { now = lacks.now; kept = lacks.kept; waiting = lacks.waiting }

    does_lacks : (call : Call) (effect : Effect) → MakesNone gone call → Does s call effect → Lacks gone (apply s effect)
    does_lacks (Stats path) effect makes does = done effect Nothing does lacks
    does_lacks (Lists path) effect makes does = done effect Nothing does lacks
    does_lacks (ReadsAt path) effect makes does = done effect Nothing does lacks
    does_lacks (ReadsLink path) effect makes does = done effect Nothing does lacks
    does_lacks (Creates path) effect makes (inode, none, is) =
        let there = change_lacks ((path, Some (File inode)) ∷ []) (other path (Some (File inode)) makes, tt) in
        done effect (NewFile path inode) is (record { now = there.now; kept = there.kept; waiting = there.waiting })
    does_lacks (WritesAt path from bytes) effect makes (inode, named, is) = done effect _ is (bytes_lacks inode _)
    does_lacks (MakesDir path) effect makes does =
        let there = change_lacks ((path, Some Dir) ∷ []) (other path (Some Dir) makes, tt) in
        done effect _ does (record { now = there.now; kept = there.kept; waiting = there.waiting })
    does_lacks (MakesSymlink path target) effect makes does = done effect _ does (change_lacks ((path, Some (Sym target)) ∷ []) (other path (Some (Sym target)) makes, tt))
    does_lacks (Links from to) effect makes (inode, named, is) = done effect _ is (change_lacks ((to, Some (File inode)) ∷ []) (other to (Some (File inode)) makes, tt))
    does_lacks (Renames from to) effect makes (inode, named, is) = done effect _ is (change_lacks ((from, None) ∷ (to, Some (File inode)) ∷ []) ((λ _. refl), (other to (Some (File inode)) makes, tt)))
    does_lacks (Unlinks path) effect makes does = done effect _ does (change_lacks ((path, None) ∷ []) ((λ _. refl), tt))
    does_lacks (RemovesDir path) effect makes does = done effect _ does (change_lacks ((path, None) ∷ []) ((λ _. refl), tt))
    does_lacks (SyncsFile path) effect makes (inode, named, is) = done effect (KeepBytes inode) is (record { now = lacks.now; kept = lacks.kept; waiting = lacks.waiting })
    does_lacks (SyncsDir dir) effect makes does = done effect (KeepNames dir) does (sync_lacks dir)

    fails_lacks : (call : Call) (effect : Effect) → MakesNone gone call → MayFail s call effect → Lacks gone (apply s effect)
    fails_lacks (WritesAt path from bytes) effect makes (inode, any, named, are_bytes, is) = done effect (Bytes inode any) is (bytes_lacks inode any)
    fails_lacks call effect makes fails = elim fails [ inl nothing ↦ done effect Nothing nothing lacks | inr does ↦ does_lacks call effect makes does ]

    failed_lacks : (call : Call) (effect : Effect) (refused : Option FsError) → MakesNone gone call → MatchOption refused (MayFail s call effect) (λ _. effect ≡ Nothing) → Lacks gone (apply s effect)
    failed_lacks call effect None makes may = fails_lacks call effect makes may
    failed_lacks call effect (Some error) makes may = done effect Nothing may lacks

    pub call_lacks : (call : Call) (answer : Option FsError) (effect : Effect) → MakesNone gone call → MayDo s call answer effect → Lacks gone (apply s effect)
    call_lacks call None effect makes may = does_lacks call effect makes may.1
    call_lacks call (Some Failed) effect makes may = failed_lacks call effect (refusal s call) makes may
    call_lacks call (Some error) effect makes may = done effect Nothing may.1 lacks

    cond_none : (b : Bool) (node : Option Node) → node ≡ None → cond b node None ≡ None
    cond_none true node e = e
    cond_none false node e = refl

    -- no crash brings it back
    pub image_lacks : (x : FsState) → Image s x → get x.names gone ≡ None
    image_lacks x image =
        let left = all_changed s.names_kept image.picked in
        let none = each_all_changed (IsGoneAt gone) s.names_kept image.picked (each_gone s.names_kept lacks.kept) (picked_all (EachPair (IsGoneAt gone)) image.some lacks.waiting) gone refl in
        ap (λ (m : Names). get m gone) image.names ∙ get-reached left gone ∙ cond_none (is_reached left gone) (get left gone) none

-- a name that is gone, and for which nothing waits, no crash brings back
pub untouched_lacks : (gone : Path) (s : FsState) → Tracked s → get s.names gone ≡ None → IsUntouched s.pending gone → Lacks gone s
untouched_lacks gone s t none untouched = record {
  now = none;
  kept = sym (all_changed_other s.names_kept s.pending gone untouched) ∙ sym (t.names gone) ∙ none;
  waiting = all_weaker (EachPair (λ name _. name ≢ gone)) (EachPair (IsGoneAt gone)) (λ change. each_pair_weaker (λ name _. name ≢ gone) (IsGoneAt gone) (λ name node differs same. absurd (differs same)) change) s.pending untouched;
}
