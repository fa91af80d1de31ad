-- Each call that makes a listed name keeps to the listed names, whether it succeeds or fails.
use Rattle.std.proofs.Common.{◌≡◌, ◌≢◌, ◌⊎◌, inl, inr, ℕ, Bool, true, false, not, cond, List, [], ◌∷◌, ◌++◌, ◌-◌, length, take, Option, Some, None, refl, sym, ◌∙◌, ap, subst, MatchOption, suc, arith, length-take}
use Rattle.std.specs.Prelude.{is_some}
use Rattle.std.specs.List.{AllByRecursion, Contains, filter}
use Rattle.std.specs.Option.{unwrap_or}
use Rattle.std.specs.Ordering.{eq_by_cmp, nat_cmp}
use Rattle.std.specs.Cmp.{nat_cmp_total}
use Rattle.std.specs.FinMap.{get, insert, get-insert, get-remove}
use Rattle.fs_model.specs.declared.node.Node.{Node}
use Rattle.fs_model.specs.declared.node.Node.TheVariants as node
use Rattle.fs_model.specs.declared.effect.Effect.{Effect}
use Rattle.fs_model.specs.declared.effect.Effect.TheVariants.{Nothing, NewFile, NewDir, Bytes, KeepBytes, KeepNames}
use Rattle.fs_model.specs.declared.error.FsError.{FsError}
use Rattle.fs_model.specs.declared.error.FsError.TheVariants.{Failed}
use Rattle.fs_model.specs.Names.{Path, parent, same_path}
use Rattle.fs_model.specs.PathLaws.{path_total, same_path_true, same_path_refl}
use Rattle.fs_model.specs.State.{Change, FsState}
use Rattle.fs_model.specs.Effects.{apply, with_change, with_bytes, bytes_of, is_in}
use Rattle.fs_model.specs.Calls.{Call, Stats, Lists, ReadsAt, ReadsLink, Creates, WritesAt, MakesDir, MakesSymlink, Links, Renames, Unlinks, RemovesDir, SyncsFile, SyncsDir, Does, MayFail, MayDo, refusal, blocked, no_dir, taken, device_of}
use Rattle.fs_model.specs.WellFormed.{EachPair, WellFormed}
use Rattle.fs_model.proofs.Lookups.{each_set, each_all_changed, get-set_name, set_name_other, insert_other, same_number_or, same_path_or}
use Rattle.fs_model.proofs.Runs.{all_append, all_weaker}
use Rattle.fs_model.proofs.Ways.{none_second, no_dir_none, blocked_push}
use Rattle.crash_safety.specs.Frame.{IsUntouched}
use Rattle.crash_safety.proofs.Keeping.{all_at, each_pair_weaker}
use Rattle.new_names.specs.declared.names.NewName.{NewName}
use Rattle.new_names.specs.declared.names.NewNode.TheVariants.{Dir, File, Sym}
use Rattle.new_names.specs.Frame.{IsListed, IsOwn, IsOldOrOwn, HasParentsDevice, MakesOnly, MakesListed}

all_filter : {A : Type 0} (P : A → Type 0) (test : A → Bool) (xs : List A) → AllByRecursion P xs → AllByRecursion P (filter test xs)
all_filter P test [] all = tt
all_filter P test (x ∷ xs) all =
    elim (test x) as (λ b. AllByRecursion P (cond b (x ∷ filter test xs) (filter test xs))) [ true ↦ (all.0, all_filter P test xs all.1) | false ↦ all_filter P test xs all.1 ]

whole : (bytes : Option (List ℕ)) → is_some bytes ≡ true → Some (unwrap_or bytes []) ≡ bytes
whole None has = absurd (cc has)
whole (Some bytes) has = refl

cleaned : (b : Bool) (mark : Option (Unit {0})) → is_some mark ≡ false → is_some (cond b None mark) ≡ false
cleaned true mark e = refl
cleaned false mark e = e

pub free_name : (found : Option Node) → taken found ≡ None → found ≡ None
free_name None e = refl
free_name (Some node) e = absurd (cc e)

-- a path that isn't the root is its parent with one name more
pub last_name : (path : Path) → (path ≡ []) ⊎ ((name : List ℕ) × (path ≡ parent path ++ name ∷ []))
last_name [] = inl refl
last_name (first ∷ rest) = inr (split first rest)
  where
    split : (first : List ℕ) (rest : Path) → (name : List ℕ) × (first ∷ rest ≡ parent (first ∷ rest) ++ name ∷ [])
    split first [] = (first, refl)
    split first (second ∷ rest) =
        let (name, is) = split second rest in
        let one : length (first ∷ second ∷ rest) - 1 ≡ suc (length (second ∷ rest) - 1) = omega arith in
        (name, ap (λ p. first ∷ p) is ∙ sym (ap (λ n. take n (first ∷ second ∷ rest) ++ name ∷ []) one))

-- in a well-formed state the parent of what stands is a directory
parent_stands : (s : FsState) → WellFormed s → (path : Path) → is_some (get s.names path) ≡ true → get s.names (parent path) ≡ Some node.Dir
parent_stands s formed path stands = by (last_name path)
  where
    by : (path ≡ []) ⊎ ((name : List ℕ) × (path ≡ parent path ++ name ∷ [])) → get s.names (parent path) ≡ Some node.Dir
    by (inl root) = ap (λ p. get s.names (parent p)) root ∙ formed.root
    by (inr (name, is)) =
        no_dir_none (get s.names (parent path))
        (none_second (blocked s.names (parent path)) (no_dir (get s.names (parent path)))
        (sym (blocked_push s.names (parent path) name) ∙ ap (blocked s.names) (sym is) ∙ formed.tree path stands))

path_cases : (q p : Path) → (q ≡ p) ⊎ (q ≢ p)
path_cases q p =
    elim (same_path q p) as (λ b. same_path q p ≡ b → (q ≡ p) ⊎ (q ≢ p))
    [ true ↦ λ e. inl (same_path_true q p e) | false ↦ λ e. inr (λ same. let t : same_path q p ≡ true = ap (λ x. same_path x p) same ∙ same_path_refl p in cc (t, e)) ] refl

-- what isn't the root isn't its own parent
own_parent : (path : Path) → parent path ≡ path → path ≡ []
own_parent [] e = refl
own_parent (first ∷ rest) e = absurd (
    let shorter : length (parent (first ∷ rest)) ≡ length (first ∷ rest) = ap length e in
    let taken_length = length-take (length (first ∷ rest) - 1) (first ∷ rest) in omega (arith, shorter, taken_length))

module _ (listed : List NewName) (start : FsState) where
  pub only_start : MakesOnly listed start start
  only_start = record {
    names = λ path. inl refl;
    names_kept = λ path _. inl refl;
    pending = each_is_one start.pending;
    bytes = λ inode _. refl;
    bytes_kept = λ inode _. inl refl;
    clean = λ inode _ is. is;
    devices = λ path. inl refl;
  }
    where
      later : (x change : Change) (xs : List Change) → Contains xs change → Contains (x ∷ xs) change
      later x change xs (k, below, is) = (suc k, omega arith, is)

      each_is_one : (changes : List Change) → AllByRecursion (λ change. Contains changes change ⊎ EachPair (IsOwn listed start) change) changes
      each_is_one [] = tt
      each_is_one (x ∷ xs) = (
        inl (0, omega arith, refl),
        all_weaker (λ change. Contains xs change ⊎ EachPair (IsOwn listed start) change) (λ change. Contains (x ∷ xs) change ⊎ EachPair (IsOwn listed start) change)
            (λ change one. elim one [ inl found ↦ inl (later x change xs found) | inr own ↦ inr own ]) xs (each_is_one xs),
      )

  module _ (s : FsState) (m : MakesOnly listed start s) where
    -- a change of one listed name, to what is no directory
    pub name_only : (path : Path) (found : Option Node) → IsOwn listed start path found → found ≢ Some node.Dir → MakesOnly listed start (with_change s ((path, found) ∷ []))
    name_only path found own other = record {
      names = each_set (IsOldOrOwn listed start) s.names path found m.names (inr own);
      names_kept = m.names_kept;
      pending = all_append (λ change. Contains start.pending change ⊎ EachPair (IsOwn listed start) change) s.pending (((path, found) ∷ []) ∷ []) m.pending (inr (own, tt), tt);
      bytes = m.bytes;
      bytes_kept = m.bytes_kept;
      clean = m.clean;
      devices = λ q. plain q (m.devices q);
    }
      where
        -- what stands as a directory now stood as one
        plain : (q : Path) → (get s.devices q ≡ get start.devices q) ⊎ HasParentsDevice listed s q → (get s.devices q ≡ get start.devices q) ⊎ HasParentsDevice listed (with_change s ((path, found) ∷ [])) q
        plain q (inl same) = inl same
        plain q (inr (is_listed, parents)) = inr (
          is_listed,
          λ stands.
              parents (same_path_or q path (λ b. cond b found (get s.names q) ≡ Some node.Dir → get s.names q ≡ Some node.Dir) (λ _ e. absurd (other e)) (λ e. e) (sym (get-set_name s.names path found q) ∙ stands)),
        )

    pub none_before : (inode : ℕ) → get s.bytes inode ≡ None → get start.bytes inode ≡ None
    none_before inode none = was (get start.bytes inode) (m.bytes inode)
      where
        was : (found : Option (List ℕ)) → (is_some found ≡ true → get s.bytes inode ≡ found) → found ≡ None
        was None same = refl
        was (Some bytes) same = absurd (let e = same refl in cc (e, none))

    other_inode : (inode i : ℕ) → get start.bytes inode ≡ None → is_some (get start.bytes i) ≡ true → i ≢ inode
    other_inode inode i none has same = let none_i : get start.bytes i ≡ None = ap (get start.bytes) same ∙ none in cc

    pub bytes_only : (inode : ℕ) (bytes : List ℕ) → get start.bytes inode ≡ None → MakesOnly listed start (with_bytes s inode bytes)
    bytes_only inode bytes none = record {
      names = m.names;
      names_kept = m.names_kept;
      pending = m.pending;
      bytes = λ i has. insert_other s.bytes inode bytes i (other_inode inode i none has) ∙ m.bytes i has;
      bytes_kept = m.bytes_kept;
      clean = λ i has is. ap is_some (insert_other s.dirty inode tt i (other_inode inode i none has)) ∙ m.clean i has is;
      devices = m.devices;
    }

    -- a listed directory, on its parent's device
    pub dir_only : (path : Path) → IsListed listed path Dir → WellFormed s → get s.names path ≡ None → MakesOnly listed start (apply s (NewDir path (device_of s (parent path))))
    dir_only path is_listed formed absent = record {
      names = each_set (IsOldOrOwn listed start) s.names path (Some node.Dir) m.names (inr own);
      names_kept = m.names_kept;
      pending = all_append (λ change. Contains start.pending change ⊎ EachPair (IsOwn listed start) change) s.pending (((path, Some node.Dir) ∷ []) ∷ []) m.pending (inr (own, tt), tt);
      bytes = m.bytes;
      bytes_kept = m.bytes_kept;
      clean = m.clean;
      devices = found;
    }
      where
        own : IsOwn listed start path (Some node.Dir)
        own = (Dir, is_listed, inr (inr refl))

        device : ℕ
        device = device_of s (parent path)

        -- the device of what isn't the new directory
        same_device : (d : Path) → d ≢ path → get (insert s.devices path device) d ≡ get s.devices d
        same_device d apart = get-insert path_total s.devices path device d ∙ same_path_or d path (λ b. cond b (Some device) (get s.devices d) ≡ get s.devices d) (λ e. absurd (apart e)) refl

        no_root : path ≢ []
        no_root root = let stands : get s.names path ≡ Some node.Dir = ap (get s.names) root ∙ formed.root in cc (stands, absent)

        here : get (insert s.devices path device) path ≡ Some device
        here = get-insert path_total s.devices path device path ∙ ap (λ b. cond b (Some device) (get s.devices path)) (same_path_refl path)

        at_path : (q : Path) → q ≡ path → HasParentsDevice listed (apply s (NewDir path device)) q
        at_path q is = (
          subst (λ p. IsListed listed p Dir) (sym is) is_listed,
          λ _. ap (get (insert s.devices path device)) is
              ∙ here
              ∙ ap (λ found. Some (unwrap_or found 0)) (sym (same_device (parent path) (λ e. no_root (own_parent path e))))
              ∙ ap (λ p. Some (unwrap_or (get (insert s.devices path device) (parent p)) 0)) (sym is),
        )

        elsewhere : (q : Path) → q ≢ path → (get s.devices q ≡ get start.devices q) ⊎ HasParentsDevice listed s q → (get (insert s.devices path device) q ≡ get start.devices q) ⊎ HasParentsDevice listed (apply s (NewDir path device)) q
        elsewhere q apart (inl same) = inl (same_device q apart ∙ same)
        elsewhere q apart (inr (listed_dir, parents)) = inr (
          listed_dir,
          λ stands.
              let stood : get s.names q ≡ Some node.Dir = sym (set_name_other s.names path (Some node.Dir) q apart) ∙ stands in
              same_device q apart ∙ parents stood ∙ ap (λ found. Some (unwrap_or found 0)) (sym (same_device (parent q) (λ e. absurd (
              let above : get s.names (parent q) ≡ Some node.Dir = parent_stands s formed q (ap is_some stood) in
              let none : get s.names (parent q) ≡ None = ap (get s.names) e ∙ absent in cc (above, none))))),
        )

        found : (q : Path) → (get (insert s.devices path device) q ≡ get start.devices q) ⊎ HasParentsDevice listed (apply s (NewDir path device)) q
        found q = by (path_cases q path)
          where
            by : (q ≡ path) ⊎ (q ≢ path) → (get (insert s.devices path device) q ≡ get start.devices q) ⊎ HasParentsDevice listed (apply s (NewDir path device)) q
            by (inl same) = inr (at_path q same)
            by (inr apart) = elsewhere q apart (m.devices q)

    pub keep_bytes_only : (inode : ℕ) → MakesOnly listed start (apply s (KeepBytes inode))
    keep_bytes_only inode = record {
      names = m.names;
      names_kept = m.names_kept;
      pending = m.pending;
      bytes = m.bytes;
      bytes_kept = λ i has. subst (λ kept. (kept ≡ get start.bytes_kept i) ⊎ (kept ≡ get start.bytes i)) (sym (get-insert nat_cmp_total s.bytes_kept inode (bytes_of s.bytes inode) i))
          (same_number_or i inode (λ b. (cond b (Some (bytes_of s.bytes inode)) (get s.bytes_kept i) ≡ get start.bytes_kept i) ⊎ (cond b (Some (bytes_of s.bytes inode)) (get s.bytes_kept i) ≡ get start.bytes i))
          (λ e. inr (ap (λ j. Some (bytes_of s.bytes j)) (sym e) ∙ whole (get s.bytes i) (ap is_some (m.bytes i has) ∙ has) ∙ m.bytes i has)) (m.bytes_kept i has));
      clean = λ i has is. ap is_some (get-remove nat_cmp_total s.dirty inode i) ∙ cleaned (eq_by_cmp nat_cmp i inode) (get s.dirty i) (m.clean i has is);
      devices = m.devices;
    }

    -- what is at a name now that a change which came onto the disk speaks of
    abbrev Came : Path → Path → Option Node → Type 0
    Came q name found = name ≡ q → (found ≡ get start.names_kept q) ⊎ IsOwn listed start q found

    came : (q : Path) → IsUntouched start.pending q → (change : Change) → Contains start.pending change ⊎ EachPair (IsOwn listed start) change → EachPair (Came q) change
    came q untouched change (inl waited) = each_pair_weaker (λ name _. name ≢ q) (Came q) (λ name found differs same. absurd (differs same)) change (all_at (EachPair (λ name _. name ≢ q)) start.pending change untouched waited)
    came q untouched change (inr own) = each_pair_weaker (IsOwn listed start) (Came q) (λ name found own same. inr (subst (λ p. IsOwn listed start p found) same own)) change own

    pub keep_names_only : (dir : Path) → MakesOnly listed start (apply s (KeepNames dir))
    keep_names_only dir = record {
      names = m.names;
      names_kept = λ q untouched.
          each_all_changed (Came q) s.names_kept (filter (is_in dir) s.pending)
          (λ name same. subst (λ p. (get s.names_kept name ≡ get start.names_kept p) ⊎ IsOwn listed start p (get s.names_kept name)) same (m.names_kept name (subst (IsUntouched start.pending) (sym same) untouched)))
          (all_filter (EachPair (Came q)) (is_in dir) s.pending (all_weaker (λ change. Contains start.pending change ⊎ EachPair (IsOwn listed start) change) (EachPair (Came q)) (came q untouched) s.pending m.pending))
          q refl;
      pending = all_filter (λ change. Contains start.pending change ⊎ EachPair (IsOwn listed start) change) (λ change. not (is_in dir change)) s.pending m.pending;
      bytes = m.bytes;
      bytes_kept = m.bytes_kept;
      clean = m.clean;
      devices = m.devices;
    }

-- every call
module _ (listed : List NewName) (start s : FsState) (m : MakesOnly listed start s) where
  same_effect : (effect e : Effect) → effect ≡ e → MakesOnly listed start (apply s e) → MakesOnly listed start (apply s effect)
  same_effect effect e is only = subst (λ x. MakesOnly listed start (apply s x)) (sym is) only

  pub new_file_only : (path : Path) (inode : ℕ) (bytes : List ℕ) → IsListed listed path (File bytes) → get s.bytes inode ≡ None → MakesOnly listed start (apply s (NewFile path inode))
  new_file_only path inode bytes is_listed none =
      let before = none_before listed start s m inode none in
      let change : Change = (path, Some (node.File inode)) ∷ [] in
      bytes_only listed start (with_change s change) (name_only listed start s m path (Some (node.File inode)) (File bytes, is_listed, inr (inr (inode, before, refl))) (λ e. cc e)) inode [] before

  does_only : (call : Call) (effect : Effect) → MakesListed listed start s call → refusal s call ≡ None → Does s call effect → MakesOnly listed start (apply s effect)
  does_only (Stats path) effect makes free does = same_effect effect Nothing does m
  does_only (Lists path) effect makes free does = same_effect effect Nothing does m
  does_only (ReadsAt path) effect makes free does = same_effect effect Nothing does m
  does_only (ReadsLink path) effect makes free does = same_effect effect Nothing does m
  does_only (Creates path) effect (bytes, is_listed) free (inode, none, is) = same_effect effect (NewFile path inode) is (new_file_only path inode bytes is_listed none)
  does_only (WritesAt path from bytes) effect makes free (inode, named, is) = same_effect effect _ is (bytes_only listed start s m inode _ (makes inode named))
  does_only (MakesDir path) effect (is_listed, formed) free does =
      same_effect effect _ does (dir_only listed start s m path is_listed formed (free_name (get s.names path) (none_second (blocked s.names path) (taken (get s.names path)) free)))
  does_only (MakesSymlink path target) effect makes free does =
      same_effect effect _ does (name_only listed start s m path (Some (node.Sym target)) (Sym target, makes, inr (inr refl)) (λ e. cc e))
  does_only (Links from to) effect makes free does = absurd makes
  does_only (Renames from to) effect makes free does = absurd makes
  does_only (Unlinks path) effect (what, is_listed) free does = same_effect effect _ does (name_only listed start s m path None (what, is_listed, inl refl) (λ e. cc e))
  does_only (RemovesDir path) effect makes free does = absurd makes
  does_only (SyncsFile path) effect makes free (inode, named, is) = same_effect effect (KeepBytes inode) is (keep_bytes_only listed start s m inode)
  does_only (SyncsDir path) effect makes free does = same_effect effect (KeepNames path) does (keep_names_only listed start s m path)

  -- a call that failed did nothing or all, and a write tore
  fails_only : (call : Call) (effect : Effect) → MakesListed listed start s call → refusal s call ≡ None → MayFail s call effect → MakesOnly listed start (apply s effect)
  fails_only (WritesAt path from bytes) effect makes free (inode, any, named, are_bytes, is) = same_effect effect (Bytes inode any) is (bytes_only listed start s m inode any (makes inode named))
  fails_only call effect makes free fails = elim fails [ inl nothing ↦ same_effect effect Nothing nothing m | inr does ↦ does_only call effect makes free does ]

  failed_only : (call : Call) (effect : Effect) (refused : Option FsError) → refusal s call ≡ refused → MakesListed listed start s call → MatchOption refused (MayFail s call effect) (λ _. effect ≡ Nothing) → MakesOnly listed start (apply s effect)
  failed_only call effect None is makes may = fails_only call effect makes is may
  failed_only call effect (Some error) is makes may = same_effect effect Nothing may m

  pub call_only : (call : Call) (answer : Option FsError) (effect : Effect) → MakesListed listed start s call → MayDo s call answer effect → MakesOnly listed start (apply s effect)
  call_only call None effect makes may = does_only call effect makes may.0 may.1
  call_only call (Some Failed) effect makes may = failed_only call effect (refusal s call) refl makes may
  call_only call (Some error) effect makes may = same_effect effect Nothing may.1 m
