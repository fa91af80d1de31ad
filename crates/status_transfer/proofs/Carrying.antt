-- Files of one directory that are copied into another, name by name.
use Rattle.std.proofs.Common.{◌≡◌, ◌≢◌, ◌++◌, ◌∙◌, ℕ, true, cond, inl, inr, ◌⊎◌, List, [], ◌∷◌, length, map, Option, Some, None, refl, sym, ap, subst, arith, length-append}
use Rattle.std.specs.Prelude.{is_some}
use Rattle.std.specs.Option.{option_map, unwrap_or}
use Rattle.std.specs.List.{AllByRecursion}
use Rattle.std.specs.Cmp.{tied_itself}
use Rattle.std.specs.declared.cmp.Ordering.TheVariants.{Less}
use Rattle.std.specs.FinMap.{get, insert}
use Rattle.fs_model.specs.declared.node.Node.{Node}
use Rattle.fs_model.specs.declared.node.Node.TheVariants.{Dir, File, Sym}
use Rattle.fs_model.specs.declared.effect.Effect.TheVariants.{NewFile}
use Rattle.fs_model.specs.Names.{Path, parent, path_cmp, same_path}
use Rattle.fs_model.specs.PathLaws.{path_total}
use Rattle.fs_model.specs.State.{Names, FsState}
use Rattle.fs_model.specs.Effects.{apply, bytes_of, with_bytes, with_change}
use Rattle.fs_model.specs.Calls.{Lists, ReadsAt, Creates, refusal, or_else, no_dir, no_file, taken, children}
use Rattle.fs_model.specs.Reading.{file_bytes, inode_of_node}
use Rattle.fs_model.specs.WellFormed.{WellFormed, IsKnown}
use Rattle.fs_model.proofs.Lookups.{get-set_name, set_name_here, set_name_other, same_path_or, insert_here, insert_other}
use Rattle.fs_model.proofs.Runs.{all_weaker}
use Rattle.fs_model.proofs.Ways.{blocked_set, free_below}
use Rattle.fs_tools.specs.Children.{child_of, IsIn}
use Rattle.fs_tools.specs.Cleared.{HasNoDirs}
use Rattle.fs_tools.specs.Walked.{IsAmong}
use Rattle.fs_tools.proofs.Naming.{IsRising, all_both, parent_child, path_among, paths_stand, paths_rise}
use Rattle.fs_tools.proofs.Copying.{still_readable}
use Rattle.status_transfer.specs.Carried.{IsInOne, ChangesOnlyIn, CarriesNode, CarriesDir, IsFileOrNone, HoldsFiles, HasNoNames, IsReady, AreApart, CopiesName, CopiesNames}
use Rattle.status_transfer.proofs.Framing.{none_before, keeps_itself, keeps_name, keeps_bytes}

push_same : (at : Path) (m n : List ℕ) → child_of at m ≡ child_of at n → m ≡ n
push_same [] m n same = cc same
push_same (a ∷ at) m n same = push_same at m n (cc same)

file_at : (node : Option Node) (f : ℕ → List ℕ) (bytes : List ℕ) → option_map f (inode_of_node node) ≡ Some bytes → (inode : ℕ) × (node ≡ Some (File inode)) × (bytes ≡ f inode)
file_at None f bytes e = absurd (cc e)
file_at (Some Dir) f bytes e = absurd (cc e)
file_at (Some (File inode)) f bytes e = (inode, refl, cc e)
file_at (Some (Sym target)) f bytes e = absurd (cc e)

-- a file that stands has bytes
pub file_known : (s : FsState) → WellFormed s → (path : Path) (inode : ℕ) → get s.names path ≡ Some (File inode) → is_some (get s.bytes inode) ≡ true
file_known s well path inode named = subst (IsKnown s.bytes s.devices path) named (well.names path)

module _ (from to : Path) (apart : from ≢ to) where
  -- a name of the one directory is none of the other
  pub outside : (name : List ℕ) → IsInOne (to ∷ []) (child_of from name) → ⊥
  outside name (inl (other, is)) = apart (sym (parent_child from name) ∙ ap parent is ∙ parent_child to other)
  outside name (inr none) = absurd none

  module _ (s : FsState) (well : WellFormed s) where
    module _ (m mid : FsState) (n : List ℕ) (keeps : ChangesOnlyIn (to ∷ []) s m) (copied : List ℕ) (source : file_bytes m (child_of from n) ≡ Some copied)
        (made : ℕ) (unused : get m.bytes made ≡ None) (mid_is : mid ≡ with_bytes (apply m (NewFile (child_of to n) made)) made copied) where
      has_bytes : get mid.bytes made ≡ Some copied
      has_bytes = ap (λ (x : FsState). get x.bytes made) mid_is ∙ insert_here (insert m.bytes made []) made copied

      copied_one : CarriesNode s mid (get s.names (child_of from n)) (Some (File made))
      copied_one =
          let (inode, named, same) = file_at (get m.names (child_of from n)) (bytes_of m.bytes) copied source in
          let before : get s.names (child_of from n) ≡ Some (File inode) = sym (keeps.names (child_of from n) (outside n)) ∙ named in
          let bytes_same : copied ≡ bytes_of s.bytes inode = same ∙ ap (λ found. unwrap_or found []) (keeps.bytes inode (file_known s well (child_of from n) inode before)) in
          subst (λ node. CarriesNode s mid node (Some (File made))) (sym before)
          (made, refl, none_before (to ∷ []) s m keeps made unused, has_bytes ∙ ap (λ b. Some b) bytes_same)

      other_bytes : (inode : ℕ) (bytes : List ℕ) → get m.bytes inode ≡ Some bytes → get mid.bytes inode ≡ Some bytes
      other_bytes inode bytes has =
          let differs : inode ≢ made = λ same. (let none = unused in let e : get m.bytes inode ≡ get m.bytes made = ap (get m.bytes) same in cc (none, e, has)) in
          ap (λ (x : FsState). get x.bytes inode) mid_is ∙ insert_other (insert m.bytes made []) made copied inode differs ∙ insert_other m.bytes made [] inode differs ∙ has

      later : (node found : Option Node) → CarriesNode s m node found → CarriesNode s mid node found
      later None found carried = carried
      later (Some Dir) found carried = absurd carried
      later (Some (File inode)) found (new, is, none, has) = (new, is, none, other_bytes new (bytes_of s.bytes inode) has)
      later (Some (Sym target)) found carried = absurd carried

      names_then : (q : Path) → get mid.names q ≡ cond (same_path q (child_of to n)) (Some (File made)) (get m.names q)
      names_then q = ap (λ (x : FsState). get x.names q) mid_is ∙ get-set_name m.names (child_of to n) (Some (File made)) q

      here : get mid.names (child_of to n) ≡ Some (File made)
      here = ap (λ (x : FsState). get x.names (child_of to n)) mid_is ∙ set_name_here m.names (child_of to n) (Some (File made))

      pub now_carried : CarriesNode s mid (get s.names (child_of from n)) (get mid.names (child_of to n))
      now_carried = subst (CarriesNode s mid (get s.names (child_of from n))) (sym here) copied_one

      pub still_carried : (name : List ℕ) → CarriesNode s m (get s.names (child_of from name)) (get m.names (child_of to name)) → CarriesNode s mid (get s.names (child_of from name)) (get mid.names (child_of to name))
      still_carried name carried =
          subst (CarriesNode s mid (get s.names (child_of from name))) (sym (names_then (child_of to name)))
          (same_path_or (child_of to name) (child_of to n) (λ b. CarriesNode s mid (get s.names (child_of from name)) (cond b (Some (File made)) (get m.names (child_of to name))))
          (λ e. subst (λ x. CarriesNode s mid (get s.names (child_of from x)) (Some (File made))) (sym (push_same to name n e)) copied_one)
          (later (get s.names (child_of from name)) (get m.names (child_of to name)) carried))

      pub keeps_then : ChangesOnlyIn (to ∷ []) s mid
      keeps_then =
          subst (ChangesOnlyIn (to ∷ []) s) (sym mid_is)
          (keeps_bytes (to ∷ []) s (apply m (NewFile (child_of to n) made)) made copied (none_before (to ∷ []) s m keeps made unused)
          (keeps_bytes (to ∷ []) s (with_change m ((child_of to n, Some (File made)) ∷ [])) made [] (none_before (to ∷ []) s m keeps made unused)
          (keeps_name (to ∷ []) s m (child_of to n) (Some (File made)) (inl (n, refl)) keeps)))

    -- each name that was carried, or is still to be
    carries_on : (names : List (List ℕ)) (m t : FsState) → ChangesOnlyIn (to ∷ []) s m → CopiesNames m from to names t → (name : List ℕ)
        → CarriesNode s m (get s.names (child_of from name)) (get m.names (child_of to name)) ⊎ IsAmong names name
        → CarriesNode s t (get s.names (child_of from name)) (get t.names (child_of to name))
    carries_on [] m t keeps same name (inl carried) = subst (λ x. CarriesNode s x (get s.names (child_of from name)) (get x.names (child_of to name))) (sym same) carried
    carries_on [] m t keeps same name (inr none) = absurd none
    carries_on (n ∷ names) m t keeps (mid, (number, (copied, source, size, (made, unused, mid_is))), rest) name (inl carried) =
        carries_on names mid t (keeps_then m mid n keeps copied source made unused mid_is) rest name (inl (still_carried m mid n keeps copied source made unused mid_is name carried))
    carries_on (n ∷ names) m t keeps (mid, (number, (copied, source, size, (made, unused, mid_is))), rest) name (inr (inl same)) =
        carries_on names mid t (keeps_then m mid n keeps copied source made unused mid_is) rest name
        (inl (subst (λ x. CarriesNode s mid (get s.names (child_of from x)) (get mid.names (child_of to x))) same (now_carried m mid n keeps copied source made unused mid_is)))
    carries_on (n ∷ names) m t keeps (mid, (number, (copied, source, size, (made, unused, mid_is))), rest) name (inr (inr among)) =
        carries_on names mid t (keeps_then m mid n keeps copied source made unused mid_is) rest name (inr among)

    among_names : (xs : List (List ℕ)) (name : List ℕ) → IsAmong (map (child_of from) xs) (child_of from name) → IsAmong xs name
    among_names [] name none = absurd none
    among_names (x ∷ xs) name (inl same) = inl (push_same from x name same)
    among_names (x ∷ xs) name (inr among) = inr (among_names xs name among)

    -- where all names of the one were copied into the other, which was empty, it is carried
    pub names_carried : (t : FsState) → HasNoNames s.names to → CopiesNames s from to (children s.names from) t → CarriesDir s from to t
    names_carried t is_empty copies name = carries_on (children s.names from) s t (keeps_itself (to ∷ []) s) copies name (status (get s.names (child_of from name)) refl)
      where
        status : (node : Option Node) → get s.names (child_of from name) ≡ node → CarriesNode s s (get s.names (child_of from name)) (get s.names (child_of to name)) ⊎ IsAmong (children s.names from) name
        status None e = inl (subst (λ o. CarriesNode s s o (get s.names (child_of to name))) (sym e) (is_empty name))
        status (Some node) e = inr (among_names (children s.names from) name (path_among s.names from name (ap is_some e)))

-- ---- no copy is refused

module _ (from to : Path) (m mid : FsState) (n : List ℕ) (copied : List ℕ) (made : ℕ) (mid_is : mid ≡ with_bytes (apply m (NewFile (child_of to n) made)) made copied) (ready : IsReady m from to n) where
  ready_still : (other : List ℕ) → n ≢ other → IsReady m from to other → IsReady mid from to other
  ready_still other differs (readable, creatable) = (
    ap (λ x. refusal x (ReadsAt (child_of from other))) mid_is ∙ still_readable m (child_of from other) (child_of to n) readable ready.1 (Some (File made)),
    ap (λ x. refusal x (Creates (child_of to other))) mid_is
        ∙ (λ i. or_else (blocked_set m.names (child_of to n) (Some (File made)) (child_of to other) longer i)
        (taken (set_name_other m.names (child_of to n) (Some (File made)) (child_of to other) (λ same. differs (sym (push_same to other n same))) i)))
        ∙ creatable,
  )
    where
      longer : (front back : Path) → child_of to other ≡ front ++ back → 0 ≢ length back → front ≢ child_of to n
      longer front back whole some same =
          let a = ap length whole in
          let b = ap length same in
          some (omega (arith, length-append front back, length-append to (other ∷ []), length-append to (n ∷ []), a, b))

  all_ready_still : (names : List (List ℕ)) → AllByRecursion (λ later. n ≢ later) names → AllByRecursion (IsReady m from to) names → AllByRecursion (IsReady mid from to) names
  all_ready_still names differ all =
      all_weaker (λ x. (n ≢ x) × IsReady m from to x) (IsReady mid from to) (λ x both. ready_still x both.0 both.1) names (all_both (λ x. n ≢ x) (IsReady m from to) names differ all)

-- the names behind the first are ready after its copy
pub ready_next : (m mid : FsState) (from to : Path) (n : List ℕ) (names : List (List ℕ)) → CopiesName m from to n mid → AllByRecursion (IsReady m from to) (n ∷ names) → AreApart (n ∷ names)
    → AllByRecursion (IsReady mid from to) names × AreApart names
ready_next m mid from to n names (number, (copied, source, size, (made, unused, mid_is))) ready apart =
    (all_ready_still from to m mid n copied made mid_is ready.0 names apart.0 ready.1, apart.1)

unmapped : (f : List ℕ → Path) (P : Path → Type 0) (xs : List (List ℕ)) → AllByRecursion P (map f xs) → AllByRecursion (λ x. P (f x)) xs
unmapped f P [] all = tt
unmapped f P (x ∷ xs) all = (all.0, unmapped f P xs all.1)

rise_apart : (p q : Path) → path_cmp p q ≡ Less → p ≢ q
rise_apart p q less same =
    let tied = tied_itself path_total p in
    let e : path_cmp p p ≡ Less = ap (path_cmp p) same ∙ less in
    cc (tied, e)

names_apart : (at : Path) (xs : List (List ℕ)) → IsRising (map (child_of at) xs) → AreApart xs
names_apart at [] rise = tt
names_apart at (x ∷ xs) rise = (
  all_weaker (λ y. path_cmp (child_of at x) (child_of at y) ≡ Less) (λ y. x ≢ y) (λ y less same. rise_apart (child_of at x) (child_of at y) less (ap (child_of at) same)) xs
      (unmapped (child_of at) (λ q. path_cmp (child_of at x) q ≡ Less) xs rise.0),
  names_apart at xs rise.1,
)

file_free : (node : Option Node) → IsFileOrNone node → is_some node ≡ true → no_file node ≡ None
file_free None file stands = absurd (cc stands)
file_free (Some Dir) file stands = absurd file
file_free (Some (File inode)) file stands = refl
file_free (Some (Sym target)) file stands = absurd file

-- the names of a directory of files are ready to be copied into an empty one
module _ (s : FsState) (from to : Path) (well : WellFormed s) (holds : HoldsFiles s.names from) (stands : get s.names to ≡ Some Dir) (is_empty : HasNoNames s.names to) where
  pub names_ready : AllByRecursion (IsReady s from to) (children s.names from)
  names_ready =
      all_weaker (λ x. IsIn from (child_of from x) × (is_some (get s.names (child_of from x)) ≡ true)) (IsReady s from to)
      (λ x both. (
        (λ i. or_else (well.tree (child_of from x) both.1 i) (file_free (get s.names (child_of from x)) (holds.files x) both.1 i)),
        (λ i. or_else (free_below s.names well.tree to x stands i) (taken (is_empty x i))),
      ))
      (children s.names from) (unmapped (child_of from) (λ p. IsIn from p × (is_some (get s.names p) ≡ true)) (children s.names from) (paths_stand s.names from))

  pub names_differ : AreApart (children s.names from)
  names_differ = names_apart from (children s.names from) (paths_rise s.names from)

-- ---- before and after the directory is cleared

-- a directory that stands may be listed
pub dir_open : (s : FsState) → WellFormed s → (dir : Path) → get s.names dir ≡ Some Dir → refusal s (Lists dir) ≡ None
dir_open s well dir stands = λ i. or_else (well.tree dir (ap is_some stands) i) (no_dir (stands i))

pub no_dirs : (names : Names) (dir : Path) → HoldsFiles names dir → HasNoDirs names dir
no_dirs names dir holds name is = subst IsFileOrNone is (holds.files name)

pub no_names : (names : Names) (dir : Path) → children names dir ≡ [] → HasNoNames names dir
no_names names dir none name = found (get names (child_of dir name)) refl
  where
    found : (node : Option Node) → get names (child_of dir name) ≡ node → get names (child_of dir name) ≡ None
    found None e = e
    found (Some node) e = absurd (subst (λ xs. IsAmong (map (child_of dir) xs) (child_of dir name)) none (path_among names dir name (ap is_some e)))

module _ (to : Path) (s m : FsState) (keeps : ChangesOnlyIn (to ∷ []) s m) where
  -- a directory is none of its files
  pub stays_dir : (dir : Path) → HoldsFiles s.names to → get s.names dir ≡ Some Dir → get m.names dir ≡ Some Dir
  stays_dir dir holds stands = keeps.names dir is_other ∙ stands
    where
      is_other : IsInOne (to ∷ []) dir → ⊥
      is_other (inl (name, is)) = subst IsFileOrNone (ap (get s.names) (sym is) ∙ stands) (holds.files name)
      is_other (inr none) = absurd none

module _ (from to : Path) (apart : from ≢ to) (s m : FsState) (keeps : ChangesOnlyIn (to ∷ []) s m) where
  pub stays_held : HoldsFiles s.names from → HoldsFiles s.names to → HoldsFiles m.names from
  stays_held holds to_holds = record {
    stands = stays_dir to s m keeps from to_holds holds.stands;
    files = λ name. subst IsFileOrNone (sym (keeps.names (child_of from name) (outside from to apart name))) (holds.files name);
  }

-- what was carried since some names were removed was carried since before
pub carried_before : (from to : Path) → from ≢ to → (s : FsState) → WellFormed s → (m t : FsState) → ChangesOnlyIn (to ∷ []) s m → CarriesDir m from to t → CarriesDir s from to t
carried_before from to apart s well m t keeps carried name =
    earlier (get s.names (child_of from name)) refl (subst (λ node. CarriesNode m t node (get t.names (child_of to name))) (keeps.names (child_of from name) (outside from to apart name)) (carried name))
  where
    earlier : (node : Option Node) → get s.names (child_of from name) ≡ node → CarriesNode m t (get s.names (child_of from name)) (get t.names (child_of to name)) → CarriesNode s t (get s.names (child_of from name)) (get t.names (child_of to name))
    earlier node e was =
        subst (λ o. CarriesNode s t o (get t.names (child_of to name))) (sym e) (by_node node e (subst (λ o. CarriesNode m t o (get t.names (child_of to name))) e was))
      where
        by_node : (node : Option Node) → get s.names (child_of from name) ≡ node → CarriesNode m t node (get t.names (child_of to name)) → CarriesNode s t node (get t.names (child_of to name))
        by_node None e was = was
        by_node (Some Dir) e was = absurd was
        by_node (Some (File inode)) e (made, is, unused, has) =
            (made, is, none_before (to ∷ []) s m keeps made unused, has ∙ ap (λ found. Some (unwrap_or found [])) (keeps.bytes inode (file_known s well (child_of from name) inode e)))
        by_node (Some (Sym target)) e was = absurd was
