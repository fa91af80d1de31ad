-- What still has to be put on the disk stays inside the directories that a run keeps to.
use Rattle.std.proofs.Common.{◌≡◌, ◌≢◌, ◌⊎◌, inl, inr, ℕ, Bool, true, false, not, cond, List, [], ◌∷◌, ◌++◌, ◌-◌, length, take, drop, Option, Some, None, refl, sym, ◌∙◌, ap, subst, arith, MatchOption, length-drop, append_assoc, length-append}
use Rattle.std.proofs.Math.Seq.{take-append_seam}
use Rattle.std.proofs.lemmas.List.{take-append-drop}
use Rattle.std.specs.Prelude.{is_some, ◌==◌}
use Rattle.std.specs.List.{AllByRecursion, filter}
use Rattle.std.specs.Ordering.{eq_by_cmp, nat_cmp, is_eq}
use Rattle.std.specs.Cmp.{nat_cmp_total, tied_itself}
use Rattle.std.specs.FinMap.{FinMap, get, contains_key, get-remove}
use Rattle.fs_model.specs.declared.node.Node.{Node}
use Rattle.fs_model.specs.declared.node.Node.TheVariants.{Dir, File, Sym}
use Rattle.fs_model.specs.declared.effect.Effect.{Effect}
use Rattle.fs_model.specs.declared.effect.Effect.TheVariants.{Nothing, NewFile, Bytes, KeepBytes, KeepNames}
use Rattle.fs_model.specs.declared.error.FsError.{FsError}
use Rattle.fs_model.specs.declared.error.FsError.TheVariants.{CrossDevice, Failed}
use Rattle.fs_model.specs.Names.{Path, parent, IsUnder, same_path}
use Rattle.fs_model.specs.PathLaws.{same_path_refl}
use Rattle.fs_model.specs.State.{Names, Change, FsState}
use Rattle.fs_model.specs.Effects.{apply, with_change, with_bytes, is_in, set_name, changed}
use Rattle.fs_model.specs.Calls.{Call, Stats, Lists, ReadsAt, ReadsLink, Creates, WritesAt, MakesDir, MakesSymlink, Links, Renames, Unlinks, RemovesDir, SyncsFile, SyncsDir, Does, MayFail, MayDo, refusal, blocked, or_else, taken, no_leaf, no_file, refuse_if, device_of, is_root}
use Rattle.fs_model.specs.Crash.{Settled}
use Rattle.fs_model.specs.Trail.{Trail, Goes, Since}
use Rattle.fs_model.proofs.Lookups.{set_name_other, insert_other, same_number_or}
use Rattle.fs_model.proofs.Runs.{all_append, all_weaker}
use Rattle.fs_model.proofs.Ways.{none_first, none_second}
use Rattle.crash_safety.specs.Frame.{IsInside, IsOutside, Within}
use Rattle.crash_safety.specs.Calling.{KeepsWithin}
use Rattle.crash_safety.specs.Tracked.{Tracked}
use Rattle.crash_safety.specs.Synced.{IsHeld, WaitsInside, NeedsOnly}
use Rattle.crash_safety.proofs.Keeping.{all_filter, cleaned, call_within, within_start, inside_differs}
use Rattle.crash_safety.proofs.Renamed.{get_two, dir_on_way, may_rename, MayRename}
use Rattle.crash_safety.proofs.Tracking.{call_tracked}
use Rattle.fs_model.proofs.Going.{goes_since}
use Rattle.crash_safety.proofs.Called.{same_effect}

-- the directory of a path whose way is free stands
some_name : (path : Path) → is_root path ≡ false → 0 ≢ length (drop (length path - 1) path)
some_name [] e z = absurd (cc e)
some_name (name ∷ rest) e z = absurd (omega (arith, length-drop {A = List ℕ}))

pub parent_stands : (names : Names) (path : Path) → blocked names path ≡ None → is_root path ≡ false → get names (parent path) ≡ Some Dir
parent_stands names path free below = dir_on_way names [] path (parent path) (drop (length path - 1) path) (sym (take-append-drop (length path - 1) path)) (some_name path below) free

none_taken : (node : Option Node) → taken node ≡ None → node ≡ None
none_taken None e = refl
none_taken (Some node) e = absurd (cc e)

-- a name that a file can get is free
link_free : (s : FsState) (from to : Path) → refusal s (Links from to) ≡ None → (blocked s.names to ≡ None) × (get s.names to ≡ None)
link_free s from to free =
    let cross = refuse_if (not (device_of s (parent from) == device_of s (parent to))) CrossDevice in
    let ends = or_else (taken (get s.names to)) cross in
    let rest = or_else (no_file (get s.names from)) ends in
    let behind : or_else (blocked s.names to) rest ≡ None = none_second (blocked s.names from) (or_else (blocked s.names to) rest) free in
    let last : ends ≡ None = none_second (no_file (get s.names from)) ends (none_second (blocked s.names to) rest behind) in
    (none_first (blocked s.names to) rest behind, none_taken (get s.names to) (none_first (taken (get s.names to)) cross last))

-- a name that can be unlinked is no directory
leaf_no_dir : (node : Option Node) → no_leaf node ≡ None → node ≡ Some Dir → ⊥
leaf_no_dir None e is = cc e
leaf_no_dir (Some Dir) e is = cc e
leaf_no_dir (Some (File inode)) e is = cc is
leaf_no_dir (Some (Sym target)) e is = cc is

all_false : (test : Change → Bool) (changes : List Change) → AllByRecursion (λ c. test c ≡ true) changes → AllByRecursion (λ c. test c ≡ true) changes
all_false test changes all = all

module _ (tops holders : List Path) (rewritten : Path) where
  -- a change of one name, which was no directory, in a directory inside
  pub change_needs : (s : FsState) (path : Path) (node : Option Node) → NeedsOnly tops holders rewritten s → path ≢ rewritten → IsInside tops path → IsHeld tops holders (parent path) → get s.names (parent path) ≡ Some Dir → (get s.names path ≡ Some Dir → ⊥) → NeedsOnly tops holders rewritten (with_change s ((path, node) ∷ []))
  change_needs s path node needs differs inside above stands no_dir_there =
      record {
        waiting = all_append (WaitsInside tops holders (with_change s change)) s.pending (change ∷ [])
            (all_weaker (WaitsInside tops holders s) (WaitsInside tops holders (with_change s change)) (λ c (dir, in_it, there, is). (dir, in_it, still dir there, is)) s.pending needs.waiting)
            ((parent path, above, still (parent path) stands, same_path_refl (parent path)), tt);
        clean = λ q inode outside named. elim (needs.clean q inode outside (sym (set_name_other s.names path node q (λ same. outside (subst (IsInside tops) (sym same) inside))) ∙ named)) [
          | inl clean ↦ inl clean
          | inr there ↦ inr (set_name_other s.names path node rewritten (λ same. differs (sym same)) ∙ there)
        ];
      }
    where
      change : Change
      change = (path, node) ∷ []

      still : (dir : Path) → get s.names dir ≡ Some Dir → get (set_name s.names path node) dir ≡ Some Dir
      still dir there = set_name_other s.names path node dir (λ same. no_dir_there (ap (get s.names) (sym same) ∙ there)) ∙ there

  -- an inode that no name outside has
  pub bytes_needs : (s : FsState) (i : ℕ) (bytes : List ℕ) → NeedsOnly tops holders rewritten s → ((path : Path) (inode : ℕ) → IsOutside tops path → get s.names path ≡ Some (File inode) → (inode ≢ i) ⊎ (get s.names rewritten ≡ Some (File inode))) → NeedsOnly tops holders rewritten (with_bytes s i bytes)
  bytes_needs s i bytes needs apart = record {
    waiting = needs.waiting;
    clean = λ path inode outside named. elim (apart path inode outside named) [
      | inl differs ↦ elim (needs.clean path inode outside named) [ inl clean ↦ inl (ap is_some (insert_other s.dirty i tt inode differs) ∙ clean) | inr there ↦ inr there ]
      | inr there ↦ inr there
    ];
  }

  pub keep_bytes_needs : (s : FsState) (i : ℕ) → NeedsOnly tops holders rewritten s → NeedsOnly tops holders rewritten (apply s (KeepBytes i))
  keep_bytes_needs s i needs = record {
    waiting = needs.waiting;
    clean = λ path inode outside named. elim (needs.clean path inode outside named) [
      | inl clean ↦ inl (ap is_some (get-remove nat_cmp_total s.dirty i inode) ∙ cleaned (eq_by_cmp nat_cmp inode i) (get s.dirty inode) clean)
      | inr there ↦ inr there
    ];
  }

  pub keep_names_needs : (s : FsState) (dir : Path) → NeedsOnly tops holders rewritten s → NeedsOnly tops holders rewritten (apply s (KeepNames dir))
  keep_names_needs s dir needs = record {
    waiting = all_filter (WaitsInside tops holders s) (λ change. not (is_in dir change)) s.pending needs.waiting;
    clean = needs.clean;
  }

-- a run within inner directories, whose names stand in directories inside
module _ (tops holders : List Path) (rewritten : Path) (inner : List Path) (apart : IsOutside inner rewritten) (inside : (path : Path) → IsInside inner path → IsInside tops path × IsHeld tops holders (parent path) × (is_root path ≡ false)) (a : FsState) (known : Tracked a) where
  module _ (s : FsState) (within : Within inner a s) (t : Tracked s) (needs : NeedsOnly tops holders rewritten s) where
    done : (effect e : Effect) → effect ≡ e → NeedsOnly tops holders rewritten (apply s e) → NeedsOnly tops holders rewritten (apply s effect)
    done effect e is holds = same_effect (NeedsOnly tops holders rewritten) s effect e is holds

    -- a name that can be made
    made_free : (path : Path) (node : Option Node) → IsInside inner path → blocked s.names path ≡ None → get s.names path ≡ None → NeedsOnly tops holders rewritten (with_change s ((path, node) ∷ []))
    made_free path node in_it way none =
        let (here, above, below) = inside path in_it in
        change_needs tops holders rewritten s path node needs (inside_differs inner rewritten apart path in_it) here above (parent_stands s.names path way below) (λ dir. cc (none, dir))

    made : (path : Path) (node : Option Node) → IsInside inner path → or_else (blocked s.names path) (taken (get s.names path)) ≡ None → NeedsOnly tops holders rewritten (with_change s ((path, node) ∷ []))
    made path node in_it free =
        made_free path node in_it (none_first (blocked s.names path) (taken (get s.names path)) free) (none_taken (get s.names path) (none_second (blocked s.names path) (taken (get s.names path)) free))

    outside_inner : (path : Path) → IsOutside tops path → IsOutside inner path
    outside_inner path outside in_it = outside (inside path in_it).0

    -- a new inode has no name outside
    new_apart : (i : ℕ) → get s.bytes i ≡ None → (path : Path) (inode : ℕ) → IsOutside tops path → get s.names path ≡ Some (File inode) → (inode ≢ i) ⊎ (get s.names rewritten ≡ Some (File inode))
    new_apart i none path inode outside named = inl (λ same. let has = t.has_bytes path inode named in let there : get s.bytes inode ≡ None = ap (get s.bytes) same ∙ none in cc (has, there))

    since_apart : (i : ℕ) → get a.bytes i ≡ None → (path : Path) (inode : ℕ) → IsOutside tops path → get s.names path ≡ Some (File inode) → (inode ≢ i) ⊎ (get s.names rewritten ≡ Some (File inode))
    since_apart i none path inode outside named = inl (λ same. let has = known.has_bytes path inode (sym (within.names path (outside_inner path outside)) ∙ named) in let there : get a.bytes inode ≡ None = ap (get a.bytes) same ∙ none in cc (has, there))

    does_need : (call : Call) (effect : Effect) → KeepsWithin inner a s call → refusal s call ≡ None → Does s call effect → NeedsOnly tops holders rewritten (apply s effect)
    does_need (Stats path) effect allowed free does = done effect Nothing does needs
    does_need (Lists path) effect allowed free does = done effect Nothing does needs
    does_need (ReadsAt path) effect allowed free does = done effect Nothing does needs
    does_need (ReadsLink path) effect allowed free does = done effect Nothing does needs
    does_need (Creates path) effect allowed free (inode, none, is) =
        let there = made path (Some (File inode)) allowed.0 free in
        let (here, above, below) = inside path allowed.0 in
        done effect (NewFile path inode) is
        (bytes_needs tops holders rewritten (with_change s ((path, Some (File inode)) ∷ [])) inode [] there
        (λ q i outside named. elim (new_apart inode none q i outside (sym (set_name_other s.names path (Some (File inode)) q (λ same. outside (subst (IsInside tops) (sym same) here))) ∙ named)) [
          | inl differs ↦ inl differs
          | inr there ↦ inr (set_name_other s.names path (Some (File inode)) rewritten (λ same. inside_differs inner rewritten apart path allowed.0 (sym same)) ∙ there)
        ]))
    does_need (WritesAt path from bytes) effect allowed free (inode, named, is) = done effect _ is (bytes_needs tops holders rewritten s inode _ needs (since_apart inode (allowed.0 inode named)))
    does_need (MakesDir path) effect allowed free does =
        let there = made path (Some Dir) allowed.0 free in
        done effect _ does (record { waiting = there.waiting; clean = there.clean })
    does_need (MakesSymlink path target) effect allowed free does = done effect _ does (made path (Some (Sym target)) allowed.0 free)
    does_need (Links from to) effect allowed free (inode, named, is) = let (way, none) = link_free s from to free in done effect _ is (made_free to (Some (File inode)) allowed.0 way none)
    does_need (Renames from to) effect allowed free (inode, named, is) =
        let may = may_rename s from to free in
        let (here, above, below) = inside from allowed.0.0 in
        let (here_to, above_to, below_to) = inside to allowed.0.1 in
        let file = named in
        done effect _ is (two_need may here here_to above (parent_stands s.names from may.way below) inode named)
      where
        two_need : MayRename s from to → IsInside tops from → IsInside tops to → IsHeld tops holders (parent from) → get s.names (parent from) ≡ Some Dir → (inode : ℕ) → get s.names from ≡ Some (File inode) → NeedsOnly tops holders rewritten (with_change s ((from, None) ∷ (to, Some (File inode)) ∷ []))
        two_need may here here_to above stands inode named = record {
          waiting = all_append (WaitsInside tops holders (with_change s ((from, None) ∷ (to, Some (File inode)) ∷ []))) s.pending (((from, None) ∷ (to, Some (File inode)) ∷ []) ∷ [])
              (all_weaker (WaitsInside tops holders s) (WaitsInside tops holders (with_change s ((from, None) ∷ (to, Some (File inode)) ∷ []))) (λ c (dir, in_it, there, is). (dir, in_it, still dir there, is)) s.pending needs.waiting)
              ((parent from, above, still (parent from) stands, same_path_refl (parent from)), tt);
          clean = λ q i outside there. elim (needs.clean q i outside (sym (set_name_other (set_name s.names from None) to (Some (File inode)) q (λ same. outside (subst (IsInside tops) (sym same) here_to)) ∙ set_name_other s.names from None q (λ same. outside (subst (IsInside tops) (sym same) here))) ∙ there)) [
            | inl clean ↦ inl clean
            | inr still_named ↦ inr (set_name_other (set_name s.names from None) to (Some (File inode)) rewritten (λ same. inside_differs inner rewritten apart to allowed.0.1 (sym same)) ∙ set_name_other s.names from None rewritten (λ same. inside_differs inner rewritten apart from allowed.0.0 (sym same)) ∙ still_named)
          ];
        }
          where
            still : (dir : Path) → get s.names dir ≡ Some Dir → get (changed s.names ((from, None) ∷ (to, Some (File inode)) ∷ [])) dir ≡ Some Dir
            still dir there =
                set_name_other (set_name s.names from None) to (Some (File inode)) dir (λ same. (let none = may.free in let dir_there : get s.names to ≡ Some Dir = ap (get s.names) (sym same) ∙ there in cc (none, dir_there)))
                ∙ set_name_other s.names from None dir (λ same. (let dir_there : get s.names from ≡ Some Dir = ap (get s.names) (sym same) ∙ there in cc (named, dir_there))) ∙ there
    does_need (Unlinks path) effect allowed free does =
        let (here, above, below) = inside path allowed.0 in
        let leaf = none_second (blocked s.names path) (no_leaf (get s.names path)) free in
        done effect _ does (change_needs tops holders rewritten s path None needs (inside_differs inner rewritten apart path allowed.0) here above (parent_stands s.names path (none_first (blocked s.names path) (no_leaf (get s.names path)) free) below) (leaf_no_dir (get s.names path) leaf))
    does_need (RemovesDir path) effect allowed free does = absurd allowed.1
    does_need (SyncsFile path) effect allowed free (inode, named, is) = done effect (KeepBytes inode) is (keep_bytes_needs tops holders rewritten s inode needs)
    does_need (SyncsDir dir) effect allowed free does = done effect (KeepNames dir) does (keep_names_needs tops holders rewritten s dir needs)

    fails_need : (call : Call) (effect : Effect) → KeepsWithin inner a s call → refusal s call ≡ None → MayFail s call effect → NeedsOnly tops holders rewritten (apply s effect)
    fails_need (WritesAt path from bytes) effect allowed free (inode, any, named, are_bytes, is) = done effect (Bytes inode any) is (bytes_needs tops holders rewritten s inode any needs (since_apart inode (allowed.0 inode named)))
    fails_need call effect allowed free fails = elim fails [ inl nothing ↦ done effect Nothing nothing needs | inr does ↦ does_need call effect allowed free does ]

    failed_need : (call : Call) (effect : Effect) (refused : Option FsError) → refusal s call ≡ refused → KeepsWithin inner a s call → MatchOption refused (MayFail s call effect) (λ _. effect ≡ Nothing) → NeedsOnly tops holders rewritten (apply s effect)
    failed_need call effect None free allowed may = fails_need call effect allowed free may
    failed_need call effect (Some error) free allowed may = done effect Nothing may needs

    pub call_needs : (call : Call) (answer : Option FsError) (effect : Effect) → KeepsWithin inner a s call → MayDo s call answer effect → NeedsOnly tops holders rewritten (apply s effect)
    call_needs call None effect allowed may = does_need call effect allowed may.0 may.1
    call_needs call (Some Failed) effect allowed may = failed_need call effect (refusal s call) refl allowed may
    call_needs call (Some error) effect allowed may = done effect Nothing may.1 needs

-- in every state of such a run
pub goes_needs : (tops holders : List Path) (rewritten : Path) (inner : List Path) → IsOutside inner rewritten → ((path : Path) → IsInside inner path → IsInside tops path × IsHeld tops holders (parent path) × (is_root path ≡ false)) → (a b : Trail) → Tracked a.present → NeedsOnly tops holders rewritten a.present → Goes (KeepsWithin inner a.present) a b
    → Since (λ s. Within inner a.present s × Tracked s × NeedsOnly tops holders rewritten s) a b
goes_needs tops holders rewritten inner apart inside a b tracked needs goes =
    goes_since (KeepsWithin inner a.present) (λ s. Within inner a.present s × Tracked s × NeedsOnly tops holders rewritten s)
    (λ s call answer effect here allowed may. (
      call_within inner a.present s here.0 call answer effect allowed.0 may,
      call_tracked s here.1 call answer effect may,
      call_needs tops holders rewritten inner apart inside a.present tracked s here.0 here.1 here.2 call answer effect allowed may,
    )) (within_start inner a.present, tracked, needs) goes

-- where all is on the disk, nothing is needed
pub settled_needs : (tops holders : List Path) (rewritten : Path) (s : FsState) → Settled s → NeedsOnly tops holders rewritten s
settled_needs tops holders rewritten s settled = record {
  waiting = subst (AllByRecursion (WaitsInside tops holders s)) (sym settled.nothing_pending) tt;
  clean = λ path inode outside named. inl (settled.clean path inode named);
}

append-nil : (path : Path) → path ++ [] ≡ path
append-nil [] = refl
append-nil (name ∷ path) = ap (λ rest. name ∷ rest) (append-nil path)

-- a path below a directory: the directory that it stands in is below it too
last_of : (top : Path) (name : List ℕ) (rest : Path) → (dir : Path) × (last : List ℕ) × (top ++ (name ∷ rest) ≡ dir ++ (last ∷ [])) × IsUnder top dir
last_of top name [] = (top, name, refl, ([], sym (append-nil top)))
last_of top name (next ∷ rest) =
    let (dir, last, is, (more, under)) = last_of (top ++ name ∷ []) next rest in
    (dir, last, sym (append_assoc top (name ∷ []) (next ∷ rest)) ∙ is, (name ∷ more, under ∙ append_assoc top (name ∷ []) more))

pub parent_of : (dir : Path) (last : List ℕ) → parent (dir ++ last ∷ []) ≡ dir
parent_of dir last = ap (λ n. take n (dir ++ last ∷ [])) (count dir last) ∙ take-append_seam dir (last ∷ [])
  where
    count : (dir : Path) (last : List ℕ) → length (dir ++ last ∷ []) - 1 ≡ length dir
    count dir last = omega (arith, length-append dir (last ∷ []))

pub no_root : (dir : Path) (last : List ℕ) → is_root (dir ++ last ∷ []) ≡ false
no_root [] last = refl
no_root (name ∷ dir) last = refl

pub below_stands : (top path : Path) (name : List ℕ) (rest : Path) → path ≡ top ++ (name ∷ rest) → IsUnder top (parent path) × (is_root path ≡ false)
below_stands top path name rest is =
    let (dir, last, whole, under) = last_of top name rest in
    let all : path ≡ dir ++ (last ∷ []) = is ∙ whole in
    (subst (IsUnder top) (sym (ap parent all ∙ parent_of dir last)) under, ap is_root all ∙ no_root dir last)

-- the directory of the control file is put on the disk, with the rename
pub renamed_needs : (tops holders : List Path) (rewritten : Path) (s t : FsState) (control renamed dir : Path) (inode : ℕ) → NeedsOnly tops holders rewritten s → IsInside tops rewritten → IsOutside tops control → IsOutside tops renamed → get s.names control ≡ Some (File inode) → get s.names renamed ≡ None
    → t.names ≡ changed s.names ((control, None) ∷ (renamed, Some (File inode)) ∷ []) → t.pending ≡ filter (λ c. not (is_in dir c)) s.pending → t.dirty ≡ s.dirty → NeedsOnly tops holders rewritten t
renamed_needs tops holders rewritten s t control renamed dir inode needs inside_too outside outside_renamed named free names pending dirty = record {
  waiting = subst (AllByRecursion (WaitsInside tops holders t)) (sym pending)
      (all_weaker (WaitsInside tops holders s) (WaitsInside tops holders t) (λ c (d, in_it, there, is). (d, in_it, still d there, is)) (filter (λ c. not (is_in dir c)) s.pending) (all_filter (WaitsInside tops holders s) (λ c. not (is_in dir c)) s.pending needs.waiting));
  clean = λ path i out there. elim (clean_before path i out (ap (λ (m : Names). get m path) (sym names) ∙ there)) [
    | inl clean ↦ inl (ap (λ (marks : FinMap nat_cmp (Unit {0})). contains_key marks i) dirty ∙ clean)
    | inr before ↦ inr (ap (λ (m : Names). get m rewritten) names
        ∙ set_name_other (set_name s.names control None) renamed (Some (File inode)) rewritten (λ same. outside_renamed (subst (IsInside tops) same inside_too))
        ∙ set_name_other s.names control None rewritten (λ same. outside (subst (IsInside tops) same inside_too)) ∙ before)
  ];
}
  where
    still : (d : Path) → get s.names d ≡ Some Dir → get t.names d ≡ Some Dir
    still d there =
        ap (λ (m : Names). get m d) names
        ∙ set_name_other (set_name s.names control None) renamed (Some (File inode)) d (λ same. (let dir_there : get s.names renamed ≡ Some Dir = ap (get s.names) (sym same) ∙ there in cc (free, dir_there)))
        ∙ set_name_other s.names control None d (λ same. (let dir_there : get s.names control ≡ Some Dir = ap (get s.names) (sym same) ∙ there in cc (named, dir_there))) ∙ there

    clean_before : (path : Path) (i : ℕ) → IsOutside tops path → get (changed s.names ((control, None) ∷ (renamed, Some (File inode)) ∷ [])) path ≡ Some (File i) → (contains_key s.dirty i ≡ false) ⊎ (get s.names rewritten ≡ Some (File i))
    clean_before path i out there =
        cases (same_path path renamed) (same_path path control) (sym (get_two s.names control renamed None (Some (File inode)) path) ∙ there)
      where
        cases : (a b : Bool) → cond a (Some (File inode)) (cond b None (get s.names path)) ≡ Some (File i) → (contains_key s.dirty i ≡ false) ⊎ (get s.names rewritten ≡ Some (File i))
        cases true b is = (let same : inode ≡ i = cc is in subst (λ j. (contains_key s.dirty j ≡ false) ⊎ (get s.names rewritten ≡ Some (File j))) same (needs.clean control inode outside named))
        cases false true is = absurd (cc is)
        cases false false is = needs.clean path i out is

-- the one file may be written to
same_or_differs : (i j : ℕ) → (i ≡ j) ⊎ (i ≢ j)
same_or_differs i j =
    elim (eq_by_cmp nat_cmp i j) as (λ b. eq_by_cmp nat_cmp i j ≡ b → (i ≡ j) ⊎ (i ≢ j)) [
      | true ↦ λ e. inl (same_number_or i j (λ b. b ≡ true → i ≡ j) (λ same _. same) (λ f. absurd (cc f)) e)
      | false ↦ λ e. inr (λ same. let own : eq_by_cmp nat_cmp i j ≡ true = ap (λ k. eq_by_cmp nat_cmp k j) same ∙ ap is_eq (tied_itself nat_cmp_total j) in cc (own, e))
    ] refl

pub rewrite_needs : (tops holders : List Path) (rewritten : Path) (s : FsState) (i : ℕ) (bytes : List ℕ) → get s.names rewritten ≡ Some (File i) → NeedsOnly tops holders rewritten s → NeedsOnly tops holders rewritten (with_bytes s i bytes)
rewrite_needs tops holders rewritten s i bytes here needs =
    bytes_needs tops holders rewritten s i bytes needs (λ path inode outside named. elim (same_or_differs inode i) [ inl same ↦ inr (here ∙ ap (λ j. Some (File j)) (sym same)) | inr differs ↦ inl differs ])
