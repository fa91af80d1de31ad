-- Every call keeps track: what isn't on the disk yet waits.
use Rattle.std.proofs.Common.{◌≡◌, ◌≢◌, inl, inr, ℕ, Bool, true, false, not, cond, List, [], ◌∷◌, ◌++◌, Option, Some, None, refl, sym, ◌∙◌, ap, subst, MatchOption}
use Rattle.std.specs.Prelude.{is_some}
use Rattle.std.specs.List.{AllByRecursion, filter}
use Rattle.std.specs.Ordering.{eq_by_cmp, nat_cmp, is_eq}
use Rattle.std.specs.Cmp.{nat_cmp_total, tied_itself}
use Rattle.std.specs.FinMap.{get, contains_key, get-insert, get-remove}
use Rattle.fs_model.specs.declared.node.Node.{Node}
use Rattle.fs_model.specs.declared.node.Node.TheVariants.{Dir, File, Sym}
use Rattle.fs_model.specs.declared.effect.Effect.{Effect}
use Rattle.fs_model.specs.declared.effect.Effect.TheVariants.{Nothing, NewFile, Bytes, KeepBytes, KeepNames}
use Rattle.fs_model.specs.declared.error.FsError.{FsError}
use Rattle.fs_model.specs.declared.error.FsError.TheVariants.{Failed}
use Rattle.fs_model.specs.Names.{Path, parent, same_path}
use Rattle.fs_model.specs.PathLaws.{same_path_true, same_path_refl}
use Rattle.fs_model.specs.State.{Names, Change, FsState}
use Rattle.fs_model.specs.Effects.{apply, with_change, with_bytes, bytes_of, is_in, changed, all_changed}
use Rattle.fs_model.specs.Calls.{Call, Stats, Lists, ReadsAt, ReadsLink, Creates, WritesAt, MakesDir, MakesSymlink, Links, Renames, Unlinks, RemovesDir, SyncsFile, SyncsDir, Does, MayFail, MayDo, refusal}
use Rattle.fs_model.specs.Crash.{Settled}
use Rattle.fs_model.specs.WellFormed.{Each, EachPair, IsKnown, IsOfOneDir, WellFormed}
use Rattle.fs_model.specs.Trail.{Trail, Goes, Since}
use Rattle.fs_model.proofs.Lookups.{each_changed, same_number_or}
use Rattle.fs_model.proofs.Runs.{all_append}
use Rattle.crash_safety.specs.Frame.{IsUntouched}
use Rattle.crash_safety.specs.Tracked.{Tracked}
use Rattle.crash_safety.proofs.Keeping.{all_filter, all_changed_other, each_pair_weaker, whole}
use Rattle.crash_safety.proofs.Renamed.{changed_alike, may_rename}
use Rattle.fs_model.proofs.Going.{goes_since}
use Rattle.crash_safety.proofs.Called.{same_effect}

-- changes at the end
all_changed_push : (names : Names) (changes : List Change) (change : Change) → all_changed names (changes ++ change ∷ []) ≡ changed (all_changed names changes) change
all_changed_push names [] change = refl
all_changed_push names (c ∷ changes) change = all_changed_push (changed names c) changes change

all_changed_alike : (a b : Names) (changes : List Change) (q : Path) → get a q ≡ get b q → get (all_changed a changes) q ≡ get (all_changed b changes) q
all_changed_alike a b [] q e = e
all_changed_alike a b (c ∷ changes) q e = all_changed_alike (changed a c) (changed b c) changes q (changed_alike a b c q e)

-- the changes that don't touch a path may be left out
module _ (p : Path) (test : Change → Bool) where
  left_out : (names : Names) (changes : List Change) → AllByRecursion (λ c. test c ≡ false → EachPair (λ name _. name ≢ p) c) changes → get (all_changed names changes) p ≡ get (all_changed names (filter test changes)) p
  left_out names [] untouched = refl
  left_out names (c ∷ changes) untouched =
      elim (test c) as (λ b. test c ≡ b → get (all_changed (changed names c) changes) p ≡ get (all_changed names (cond b (c ∷ filter test changes) (filter test changes))) p) [
        | true ↦ λ e. left_out (changed names c) changes untouched.1
        | false ↦ λ e. all_changed_alike (changed names c) names changes p (all_changed_other names (c ∷ []) p (untouched.0 e, tt)) ∙ left_out names changes untouched.1
      ] refl

-- a change in another directory than the path's doesn't touch it
module _ (p dir : Path) where
  pairs_differ : (change : Change) (d : Path) → EachPair (λ path _. parent path ≡ d) change → parent p ≢ d → EachPair (λ name _. name ≢ p) change
  pairs_differ change d each other = each_pair_weaker (λ path _. parent path ≡ d) (λ name _. name ≢ p) (λ name _ is same. other (ap parent (sym same) ∙ is)) change each

  in_other : (change : Change) → IsOfOneDir change → is_in dir change ≡ true → parent p ≢ dir → EachPair (λ name _. name ≢ p) change
  in_other [] one is other = tt
  in_other (pair ∷ pairs) (d, each) is other = pairs_differ (pair ∷ pairs) d each (λ same. other (same ∙ sym each.0 ∙ same_path_true (parent pair.0) dir is))

  not_in_own : (change : Change) → IsOfOneDir change → is_in dir change ≡ false → parent p ≡ dir → EachPair (λ name _. name ≢ p) change
  not_in_own [] one is own = tt
  not_in_own (pair ∷ pairs) (d, each) is own =
      pairs_differ (pair ∷ pairs) d each (λ same. (let here : same_path (parent pair.0) dir ≡ true = (λ i. same_path ((each.0 ∙ sym same ∙ own) i) dir) ∙ same_path_refl dir in cc (here, is)))

  untouched_in : (changes : List Change) → AllByRecursion IsOfOneDir changes → parent p ≢ dir → IsUntouched (filter (is_in dir) changes) p
  untouched_in [] one other = tt
  untouched_in (c ∷ changes) one other =
      elim (is_in dir c) as (λ b. is_in dir c ≡ b → IsUntouched (cond b (c ∷ filter (is_in dir) changes) (filter (is_in dir) changes)) p) [
        | true ↦ λ e. (in_other c one.0 e other, untouched_in changes one.1 other)
        | false ↦ λ e. untouched_in changes one.1 other
      ] refl

  pub untouched_out : (changes : List Change) → AllByRecursion IsOfOneDir changes → parent p ≡ dir → IsUntouched (filter (λ c. not (is_in dir c)) changes) p
  untouched_out [] one own = tt
  untouched_out (c ∷ changes) one own =
      elim (is_in dir c) as (λ b. is_in dir c ≡ b → IsUntouched (cond (not b) (c ∷ filter (λ c. not (is_in dir c)) changes) (filter (λ c. not (is_in dir c)) changes)) p) [
        | true ↦ λ e. untouched_out changes one.1 own
        | false ↦ λ e. (not_in_own c one.0 e own, untouched_out changes one.1 own)
      ] refl

  each_left : (changes : List Change) → AllByRecursion IsOfOneDir changes → parent p ≡ dir → AllByRecursion (λ c. is_in dir c ≡ false → EachPair (λ name _. name ≢ p) c) changes
  each_left [] one own = tt
  each_left (c ∷ changes) one own = ((λ e. not_in_own c one.0 e own), each_left changes one.1 own)

  not_false : (b : Bool) → not b ≡ false → b ≡ true
  not_false true e = refl
  not_false false e = absurd (cc e)

  each_kept : (changes : List Change) → AllByRecursion IsOfOneDir changes → parent p ≢ dir → AllByRecursion (λ c. not (is_in dir c) ≡ false → EachPair (λ name _. name ≢ p) c) changes
  each_kept [] one other = tt
  each_kept (c ∷ changes) one other = ((λ e. in_other c one.0 (not_false (is_in dir c) e) other), each_kept changes one.1 other)

  -- putting a directory on the disk leaves what there is at last
  pub reordered : (names : Names) (changes : List Change) → AllByRecursion IsOfOneDir changes
      → get (all_changed names changes) p ≡ get (all_changed (all_changed names (filter (is_in dir) changes)) (filter (λ c. not (is_in dir c)) changes)) p
  reordered names changes one =
      elim (same_path (parent p) dir) as (λ b. same_path (parent p) dir ≡ b → get (all_changed names changes) p ≡ get (all_changed (all_changed names (filter (is_in dir) changes)) (filter (λ c. not (is_in dir c)) changes)) p) [
        | true ↦ λ e.
            let own = same_path_true (parent p) dir e in
            left_out p (is_in dir) names changes (each_left changes one own)
            ∙ sym (all_changed_other (all_changed names (filter (is_in dir) changes)) (filter (λ c. not (is_in dir c)) changes) p (untouched_out changes one own))
        | false ↦ λ e.
            let other : parent p ≢ dir = λ same. (let here : same_path (parent p) dir ≡ true = ap (λ q. same_path q dir) same ∙ same_path_refl dir in cc (here, e)) in
            left_out p (λ c. not (is_in dir c)) names changes (each_kept changes one other)
            ∙ all_changed_alike names (all_changed names (filter (is_in dir) changes)) (filter (λ c. not (is_in dir c)) changes) p (sym (all_changed_other names (filter (is_in dir) changes) p (untouched_in changes one other)))
      ] refl

-- a file that the state knows: it has bytes, and they are on the disk if it isn't dirty
abbrev pub IsTracked : FsState → Path → Option Node → Type 0
IsTracked s path node = (inode : ℕ) → node ≡ Some (File inode) → (is_some (get s.bytes inode) ≡ true) × (contains_key s.dirty inode ≡ false → get s.bytes_kept inode ≡ get s.bytes inode)

module _ (s : FsState) (t : Tracked s) where
  each_tracked : Each (IsTracked s) s.names
  each_tracked path inode named = (t.has_bytes path inode named, t.bytes path inode named)

  change_tracked : (change : Change) → IsOfOneDir change → EachPair (IsTracked s) change → Tracked (with_change s change)
  change_tracked change one known =
      let each = each_changed (IsTracked s) s.names change each_tracked known in
      record {
        names = λ path. changed_alike s.names (all_changed s.names_kept s.pending) change path (t.names path) ∙ ap (λ (m : Names). get m path) (sym (all_changed_push s.names_kept s.pending change));
        together = all_append IsOfOneDir s.pending (change ∷ []) t.together (one, tt);
        has_bytes = λ path inode named. (each path inode named).0;
        bytes = λ path inode named. (each path inode named).1;
      }

  -- one inode's bytes change, and it is dirty
  wrote_has : (b : Bool) (bytes : List ℕ) (found : Option (List ℕ)) → is_some found ≡ true → is_some (cond b (Some bytes) found) ≡ true
  wrote_has true bytes found has = refl
  wrote_has false bytes found has = has

  wrote_kept : (b : Bool) (bytes : List ℕ) (mark : Option (Unit {0})) (now kept : Option (List ℕ)) → (is_some mark ≡ false → kept ≡ now) → is_some (cond b (Some tt) mark) ≡ false → kept ≡ cond b (Some bytes) now
  wrote_kept true bytes mark now kept same clean = absurd (cc clean)
  wrote_kept false bytes mark now kept same clean = same clean

  pub bytes_tracked : (inode : ℕ) (bytes : List ℕ) → Tracked (with_bytes s inode bytes)
  bytes_tracked inode bytes = record {
    names = t.names;
    together = t.together;
    has_bytes = λ path i named. ap is_some (get-insert nat_cmp_total s.bytes inode bytes i) ∙ wrote_has (eq_by_cmp nat_cmp i inode) bytes (get s.bytes i) (t.has_bytes path i named);
    bytes = λ path i named clean.
        wrote_kept (eq_by_cmp nat_cmp i inode) bytes (get s.dirty i) (get s.bytes i) (get s.bytes_kept i) (t.bytes path i named) (sym (ap is_some (get-insert nat_cmp_total s.dirty inode tt i)) ∙ clean)
        ∙ sym (get-insert nat_cmp_total s.bytes inode bytes i);
  }

  -- a new file is dirty
  create_tracked : (path : Path) (inode : ℕ) → Tracked (apply s (NewFile path inode))
  create_tracked path inode =
      let t1 = bytes_tracked inode [] in
      let change : Change = (path, Some (File inode)) ∷ [] in
      new_tracked path inode t1
    where
      new_tracked : (path : Path) (inode : ℕ) → Tracked (with_bytes s inode []) → Tracked (apply s (NewFile path inode))
      new_tracked path inode t1 =
          let w = with_bytes s inode [] in
          let change : Change = (path, Some (File inode)) ∷ [] in
          let known : IsTracked w path (Some (File inode)) = λ i is.
          let same : i ≡ inode = cc is in (
            ap (λ j. is_some (get w.bytes j)) same ∙ ap is_some (get-insert nat_cmp_total s.bytes inode [] inode) ∙ wrote_here (eq_by_cmp nat_cmp inode inode) (get s.bytes inode) (own inode),
            λ clean. absurd (let dirty : contains_key w.dirty inode ≡ true = ap is_some (get-insert nat_cmp_total s.dirty inode tt inode) ∙ dirty_here (eq_by_cmp nat_cmp inode inode) (get s.dirty inode) (own inode) in let no : contains_key w.dirty inode ≡ false = ap (λ j. contains_key w.dirty j) (sym same) ∙ clean in cc (dirty, no)),
          ) in
          let each = each_changed (IsTracked w) w.names change (λ q i named. (t1.has_bytes q i named, t1.bytes q i named)) (known, tt) in
          record {
            names = λ q. changed_alike s.names (all_changed s.names_kept s.pending) change q (t.names q) ∙ ap (λ (m : Names). get m q) (sym (all_changed_push s.names_kept s.pending change));
            together = all_append IsOfOneDir s.pending (change ∷ []) t.together ((parent path, (refl, tt)), tt);
            has_bytes = λ q i named. (each q i named).0;
            bytes = λ q i named. (each q i named).1;
          }
        where
          own : (i : ℕ) → eq_by_cmp nat_cmp i i ≡ true
          own i = ap is_eq (tied_itself nat_cmp_total i)

          wrote_here : (b : Bool) (found : Option (List ℕ)) → b ≡ true → is_some (cond b (Some []) found) ≡ true
          wrote_here true found e = refl
          wrote_here false found e = absurd (cc e)

          dirty_here : (b : Bool) (found : Option (Unit {0})) → b ≡ true → is_some (cond b (Some tt) found) ≡ true
          dirty_here true found e = refl
          dirty_here false found e = absurd (cc e)

  keep_bytes_tracked : (inode : ℕ) → Tracked (apply s (KeepBytes inode))
  keep_bytes_tracked inode = record {
    names = t.names;
    together = t.together;
    has_bytes = t.has_bytes;
    bytes = λ path i named clean.
        get-insert nat_cmp_total s.bytes_kept inode (bytes_of s.bytes inode) i
        ∙ same_number_or i inode (λ b. is_some (cond b None (get s.dirty i)) ≡ false → cond b (Some (bytes_of s.bytes inode)) (get s.bytes_kept i) ≡ get s.bytes i)
        (λ e _. ap (λ j. Some (bytes_of s.bytes j)) (sym e) ∙ whole (get s.bytes i) (t.has_bytes path i named))
        (λ still. t.bytes path i named still)
        (sym (ap is_some (get-remove nat_cmp_total s.dirty inode i)) ∙ clean);
  }

  keep_names_tracked : (dir : Path) → Tracked (apply s (KeepNames dir))
  keep_names_tracked dir = record {
    names = λ path. t.names path ∙ reordered path dir s.names_kept s.pending t.together;
    together = all_filter IsOfOneDir (λ change. not (is_in dir change)) s.pending t.together;
    has_bytes = t.has_bytes;
    bytes = t.bytes;
  }

  done : (effect e : Effect) → effect ≡ e → Tracked (apply s e) → Tracked (apply s effect)
  done effect e is holds = same_effect Tracked s effect e is holds

  no_file : (path : Path) (node : Option Node) → ((inode : ℕ) → node ≡ Some (File inode) → ⊥) → IsTracked s path node
  no_file path node differs inode is = absurd (differs inode is)

  -- a second name of a file that has one
  named_tracked : (from path : Path) (inode : ℕ) → get s.names from ≡ Some (File inode) → IsTracked s path (Some (File inode))
  named_tracked from path inode named i is = each_tracked from i (named ∙ is)

  does_tracked : (call : Call) (effect : Effect) → refusal s call ≡ None → Does s call effect → Tracked (apply s effect)
  does_tracked (Stats path) effect free does = done effect Nothing does t
  does_tracked (Lists path) effect free does = done effect Nothing does t
  does_tracked (ReadsAt path) effect free does = done effect Nothing does t
  does_tracked (ReadsLink path) effect free does = done effect Nothing does t
  does_tracked (Creates path) effect free (inode, none, is) = done effect (NewFile path inode) is (create_tracked path inode)
  does_tracked (WritesAt path from bytes) effect free (inode, named, is) = done effect _ is (bytes_tracked inode _)
  does_tracked (MakesDir path) effect free does =
      let there = change_tracked ((path, Some Dir) ∷ []) (parent path, (refl, tt)) (no_file path (Some Dir) (λ i is. cc is), tt) in
      done effect _ does (record { names = there.names; together = there.together; has_bytes = there.has_bytes; bytes = there.bytes })
  does_tracked (MakesSymlink path target) effect free does = done effect _ does (change_tracked ((path, Some (Sym target)) ∷ []) (parent path, (refl, tt)) (no_file path (Some (Sym target)) (λ i is. cc is), tt))
  does_tracked (Links from to) effect free (inode, named, is) = done effect _ is (change_tracked ((to, Some (File inode)) ∷ []) (parent to, (refl, tt)) (named_tracked from to inode named, tt))
  does_tracked (Renames from to) effect free (inode, named, is) =
      done effect _ is (change_tracked ((from, None) ∷ (to, Some (File inode)) ∷ []) (parent from, (refl, (sym (may_rename s from to free).together, tt))) (no_file from None (λ i is. cc is), (named_tracked from to inode named, tt)))
  does_tracked (Unlinks path) effect free does = done effect _ does (change_tracked ((path, None) ∷ []) (parent path, (refl, tt)) (no_file path None (λ i is. cc is), tt))
  does_tracked (RemovesDir path) effect free does = done effect _ does (change_tracked ((path, None) ∷ []) (parent path, (refl, tt)) (no_file path None (λ i is. cc is), tt))
  does_tracked (SyncsFile path) effect free (inode, named, is) = done effect (KeepBytes inode) is (keep_bytes_tracked inode)
  does_tracked (SyncsDir dir) effect free does = done effect (KeepNames dir) does (keep_names_tracked dir)

  fails_tracked : (call : Call) (effect : Effect) → refusal s call ≡ None → MayFail s call effect → Tracked (apply s effect)
  fails_tracked (WritesAt path from bytes) effect free (inode, any, named, are_bytes, is) = done effect (Bytes inode any) is (bytes_tracked inode any)
  fails_tracked call effect free fails = elim fails [ inl nothing ↦ done effect Nothing nothing t | inr does ↦ does_tracked call effect free does ]

  failed_tracked : (call : Call) (effect : Effect) (refused : Option FsError) → refusal s call ≡ refused → MatchOption refused (MayFail s call effect) (λ _. effect ≡ Nothing) → Tracked (apply s effect)
  failed_tracked call effect None free may = fails_tracked call effect free may
  failed_tracked call effect (Some error) free may = done effect Nothing may t

  pub call_tracked : (call : Call) (answer : Option FsError) (effect : Effect) → MayDo s call answer effect → Tracked (apply s effect)
  call_tracked call None effect may = does_tracked call effect may.0 may.1
  call_tracked call (Some Failed) effect may = failed_tracked call effect (refusal s call) refl may
  call_tracked call (Some error) effect may = done effect Nothing may.1 t

-- whatever calls were made
pub goes_tracked : (Allowed : FsState → Call → Type 0) {a b : Trail} → Tracked a.present → Goes Allowed a b → Since Tracked a b
goes_tracked Allowed t goes = goes_since Allowed Tracked (λ s call answer effect here allowed may. call_tracked s here call answer effect may) t goes

-- a settled state keeps track
all_one_dir : (changes : List Change) → changes ≡ [] → AllByRecursion IsOfOneDir changes
all_one_dir changes none = subst (AllByRecursion IsOfOneDir) (sym none) tt

pub settled_tracked : (s : FsState) → Settled s → WellFormed s → Tracked s
settled_tracked s settled well_formed = record {
  names = λ path. ap (λ (m : Names). get m path) (sym settled.names) ∙ ap (λ (changes : List Change). get (all_changed s.names_kept changes) path) (sym settled.nothing_pending);
  together = all_one_dir s.pending settled.nothing_pending;
  has_bytes = λ path inode named. subst (IsKnown s.bytes s.devices path) named (well_formed.names path);
  bytes = λ path inode named clean. settled.bytes path inode named;
}
