-- What making the mark leaves as it was, and on the disk.
use Rattle.std.proofs.Common.{◌≡◌, ◌≢◌, inl, inr, ℕ, true, not, cond, List, [], ◌∷◌, Option, Some, None, refl, sym, ◌∙◌, ap, subst, MatchOption}
use Rattle.std.specs.Prelude.{is_some}
use Rattle.std.specs.List.{AllByRecursion, filter}
use Rattle.std.specs.Ordering.{eq_by_cmp, nat_cmp}
use Rattle.std.specs.Cmp.{nat_cmp_total}
use Rattle.std.specs.FinMap.{get, get-insert, get-remove}
use Rattle.fs_model.specs.declared.node.Node.TheVariants.{File}
use Rattle.fs_model.specs.declared.effect.Effect.{Effect}
use Rattle.fs_model.specs.declared.effect.Effect.TheVariants.{Nothing, NewFile, KeepBytes, KeepNames}
use Rattle.fs_model.specs.declared.error.FsError.{FsError}
use Rattle.fs_model.specs.declared.error.FsError.TheVariants.{Failed}
use Rattle.fs_model.specs.Names.{Path}
use Rattle.fs_model.specs.State.{Names, Change, FsState}
use Rattle.fs_model.specs.Effects.{apply, bytes_of, is_in, all_changed}
use Rattle.fs_model.specs.Calls.{Call, Stats, Lists, ReadsAt, ReadsLink, Creates, WritesAt, MakesDir, MakesSymlink, Links, Renames, Unlinks, RemovesDir, SyncsFile, SyncsDir, Does, MayFail, MayDo, refusal, blocked}
use Rattle.fs_model.specs.Crash.{Image, is_reached, Settled}
use Rattle.fs_model.specs.WellFormed.{EachPair, IsKnown, WellFormed}
use Rattle.fs_model.specs.Trail.{Trail, Goes, Since}
use Rattle.fs_model.proofs.Lookups.{set_name_other, insert_other, same_number_or}
use Rattle.fs_model.proofs.Runs.{all_append}
use Rattle.crash_safety.specs.Frame.{IsUntouched}
use Rattle.crash_safety.specs.Marked.{AllButMark, SameButMark, Marks}
use Rattle.crash_safety.proofs.Keeping.{all_filter, all_changed_other, each_pair_weaker, whole, cleaned}
use Rattle.crash_safety.proofs.WithinImages.{picked_all, get-reached, reached_or_none}
use Rattle.crash_safety.proofs.Renamed.{blocked_same, dir_on_way}
use Rattle.fs_model.proofs.Going.{goes_since}
use Rattle.crash_safety.proofs.Called.{same_effect}

-- where all is on the disk, all but the mark is
pub settled_all : (mark : Path) (b : FsState) → Settled b → AllButMark mark b b
settled_all mark b settled = record {
  now = λ path other. refl;
  kept = λ path other. ap (λ (m : Names). get m path) settled.names;
  waiting = subst (AllByRecursion (EachPair (λ path _. path ≡ mark))) (sym settled.nothing_pending) tt;
  files = λ path inode named. record { clean = settled.clean path inode named; now = refl; kept = settled.bytes path inode named };
}

module _ (mark : Path) (b : FsState) (well_formed : WellFormed b) where
  module _ (s : FsState) (all : AllButMark mark b s) where
    -- the names that wait are none but the mark
    others : (path : Path) → path ≢ mark → (changes : List Change) → AllByRecursion (EachPair (λ p _. p ≡ mark)) changes → IsUntouched changes path
    others path other [] each = tt
    others path other (change ∷ changes) each =
        (each_pair_weaker (λ p _. p ≡ mark) (λ p _. p ≢ path) (λ p _ is same. other (sym same ∙ is)) change each.0, others path other changes each.1)

    has_bytes : (path : Path) (inode : ℕ) → get b.names path ≡ Some (File inode) → is_some (get s.bytes inode) ≡ true
    has_bytes path inode named = ap is_some (all.files path inode named).now ∙ subst (IsKnown b.bytes b.devices path) named (well_formed.names path)

    create_all : (inode : ℕ) → get s.bytes inode ≡ None → AllButMark mark b (apply s (NewFile mark inode))
    create_all inode none = record {
      now = λ path other. set_name_other s.names mark (Some (File inode)) path other ∙ all.now path other;
      kept = all.kept;
      waiting = all_append (EachPair (λ path _. path ≡ mark)) s.pending (((mark, Some (File inode)) ∷ []) ∷ []) all.waiting ((refl, tt), tt);
      files = λ path i named.
          let f = all.files path i named in
          let differs : i ≢ inode = λ same. (let has = has_bytes path i named in let there : get s.bytes i ≡ None = ap (get s.bytes) same ∙ none in cc (has, there)) in
          record {
            clean = ap is_some (insert_other s.dirty inode tt i differs) ∙ f.clean;
            now = insert_other s.bytes inode [] i differs ∙ f.now;
            kept = f.kept;
          };
    }

    keep_bytes_all : (inode : ℕ) → AllButMark mark b (apply s (KeepBytes inode))
    keep_bytes_all inode = record {
      now = all.now;
      kept = all.kept;
      waiting = all.waiting;
      files = λ path i named.
          let f = all.files path i named in
          record {
            clean = ap is_some (get-remove nat_cmp_total s.dirty inode i) ∙ cleaned (eq_by_cmp nat_cmp i inode) (get s.dirty i) f.clean;
            now = f.now;
            kept = get-insert nat_cmp_total s.bytes_kept inode (bytes_of s.bytes inode) i
                ∙ same_number_or i inode (λ t. cond t (Some (bytes_of s.bytes inode)) (get s.bytes_kept i) ≡ get b.bytes i)
                (λ e. ap (λ j. Some (bytes_of s.bytes j)) (sym e) ∙ whole (get s.bytes i) (has_bytes path i named) ∙ f.now) f.kept;
          };
    }

    keep_names_all : (dir : Path) → AllButMark mark b (apply s (KeepNames dir))
    keep_names_all dir = record {
      now = all.now;
      kept = λ path other.
          all_changed_other s.names_kept (filter (is_in dir) s.pending) path (others path other (filter (is_in dir) s.pending) (all_filter (EachPair (λ p _. p ≡ mark)) (is_in dir) s.pending all.waiting)) ∙ all.kept path other;
      waiting = all_filter (EachPair (λ p _. p ≡ mark)) (λ change. not (is_in dir change)) s.pending all.waiting;
      files = all.files;
    }

    done : (effect e : Effect) → effect ≡ e → AllButMark mark b (apply s e) → AllButMark mark b (apply s effect)
    done effect e is holds = same_effect (AllButMark mark b) s effect e is holds

    does_all : (call : Call) (effect : Effect) → Marks mark s call → Does s call effect → AllButMark mark b (apply s effect)
    does_all (Stats path) effect marks does = done effect Nothing does all
    does_all (Lists path) effect marks does = done effect Nothing does all
    does_all (ReadsAt path) effect marks does = done effect Nothing does all
    does_all (ReadsLink path) effect marks does = done effect Nothing does all
    does_all (Creates path) effect marks (inode, none, is) = done effect (NewFile mark inode) (is ∙ ap (λ p. NewFile p inode) marks) (create_all inode none)
    does_all (SyncsFile path) effect marks (inode, named, is) = done effect (KeepBytes inode) is (keep_bytes_all inode)
    does_all (SyncsDir dir) effect marks does = done effect (KeepNames dir) does (keep_names_all dir)
    does_all (WritesAt path from bytes) effect marks does = absurd marks
    does_all (MakesDir path) effect marks does = absurd marks
    does_all (MakesSymlink path target) effect marks does = absurd marks
    does_all (Links from to) effect marks does = absurd marks
    does_all (Renames from to) effect marks does = absurd marks
    does_all (Unlinks path) effect marks does = absurd marks
    does_all (RemovesDir path) effect marks does = absurd marks

    fails_all : (call : Call) (effect : Effect) → Marks mark s call → MayFail s call effect → AllButMark mark b (apply s effect)
    fails_all (WritesAt path from bytes) effect marks fails = absurd marks
    fails_all call effect marks fails = elim fails [ inl nothing ↦ done effect Nothing nothing all | inr does ↦ does_all call effect marks does ]

    failed_all : (call : Call) (effect : Effect) (refused : Option FsError) → Marks mark s call → MatchOption refused (MayFail s call effect) (λ _. effect ≡ Nothing) → AllButMark mark b (apply s effect)
    failed_all call effect None marks may = fails_all call effect marks may
    failed_all call effect (Some error) marks may = done effect Nothing may all

    pub call_all : (call : Call) (answer : Option FsError) (effect : Effect) → Marks mark s call → MayDo s call answer effect → AllButMark mark b (apply s effect)
    call_all call None effect marks may = does_all call effect marks may.1
    call_all call (Some Failed) effect marks may = failed_all call effect (refusal s call) marks may
    call_all call (Some error) effect marks may = done effect Nothing may.1 all

    -- so each crash leaves b, but for the mark
    module _ (lacks : get b.names mark ≡ None) (x : FsState) (image : Image s x) where
      left : Names
      left = all_changed s.names_kept image.picked

      left_names : (path : Path) → path ≢ mark → get left path ≡ get b.names path
      unfolding left
      left_names path other =
          all_changed_other s.names_kept image.picked path (others path other image.picked (picked_all (EachPair (λ p _. p ≡ mark)) image.some all.waiting)) ∙ all.kept path other

      stands_free : (path : Path) → is_some (get b.names path) ≡ true → blocked left path ≡ None
      stands_free path stands =
          let free = well_formed.tree path stands in
          blocked_same left b.names [] path
          (λ front back is filled. left_names front (λ same. (let dir = dir_on_way b.names [] path front back is filled free in let gone : get b.names front ≡ None = ap (get b.names) same ∙ lacks in cc (dir, gone)))) ∙ free

      pub image_same : SameButMark mark b x
      unfolding left
      image_same = record {
        names = λ path other.
            ap (λ (m : Names). get m path) image.names ∙ get-reached left path ∙ ap (λ node. cond (is_reached left path) node None) (left_names path other)
            ∙ reached_or_none (get b.names path) (is_reached left path) (λ stands. ap (λ r. not (is_some r)) (stands_free path stands));
        bytes = λ path inode named. let f = all.files path inode named in image.clean inode f.clean ∙ f.kept;
      }

  pub goes_all : (a c : Trail) → AllButMark mark b a.present → Goes (Marks mark) a c → Since (AllButMark mark b) a c
  goes_all a c all goes = goes_since (Marks mark) (AllButMark mark b) (λ s call answer effect here marks may. call_all s here call answer effect marks may) all goes
