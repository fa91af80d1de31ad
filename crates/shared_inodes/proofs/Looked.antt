-- A walk of several directories, one after another.
use Rattle.std.proofs.Common.{◌≡◌, ◌<◌, ◌≤◌, ◌+◌, ◌++◌, ◌∙◌, ◌⊎◌, inl, inr, ℕ, true, List, [], ◌∷◌, length, take, drop, get_or, Option, Some, None, refl, sym, ap, subst, arith, add-one}
use Rattle.std.specs.Prelude.{is_some}
use Rattle.std.specs.List.{AllByRecursion}
use Rattle.std.specs.declared.cmp.Ordering.TheVariants.{Less}
use Rattle.std.specs.FinMap.{get}
use Rattle.std.proofs.Math.Seq.{take-suc}
use Rattle.std.proofs.lemmas.List.{append-nil, take-append-drop, take_all}
use Rattle.fs_model.specs.declared.node.Node.{Node}
use Rattle.fs_model.specs.declared.node.Node.TheVariants.{Dir, File, Sym}
use Rattle.fs_model.specs.declared.node.Stat.{Stat}
use Rattle.fs_model.specs.Names.{Path, path_cmp, IsUnder}
use Rattle.fs_model.specs.State.{FsState}
use Rattle.fs_model.specs.Calls.{blocked}
use Rattle.fs_model.specs.Reading.{stat_of, stat_of_node}
use Rattle.fs_model.specs.WellFormed.{IsTree}
use Rattle.fs_model.proofs.Runs.{all_append, all_weaker}
use Rattle.crash_safety.specs.Frame.{IsInside}
use Rattle.fs_tools.specs.Walked.{IsAscending, IsNameUnder, IsWalk}
use Rattle.fs_tools.proofs.Clearing.{next_of}
use Rattle.fs_tools.proofs.Copying.{prefix_is_dir}
use Rattle.fs_tools.proofs.Walking.{among_left, among_right}
use Rattle.shared_inodes.specs.Regions.{IsBefore, AreInTurn, IsNameIn, IsWalkIn}

-- what `stat` finds stands
pub stat_stands : (s : FsState) (path : Path) (stat : Stat) → stat_of s path ≡ Some stat → is_some (get s.names path) ≡ true
stat_stands s path stat found = of (get s.names path) found
  where
    of : (node : Option Node) → stat_of_node s path node ≡ Some stat → is_some node ≡ true
    of None found = absurd (cc found)
    of (Some node) found = refl

none_stands : (s : FsState) (path : Path) → None ≡ stat_of s path → is_some (get s.names path) ≡ true → ⊥
none_stands s path none stands = of (get s.names path) none stands
  where
    of : (node : Option Node) → None ≡ stat_of_node s path node → is_some node ≡ true → ⊥
    of None none stands = absurd (cc stands)
    of (Some Dir) none stands = absurd (cc none)
    of (Some (File inode)) none stands = absurd (cc none)
    of (Some (Sym target)) none stands = absurd (cc none)

-- the walk of one directory
pub walked_one : (s : FsState) (top : Path) (items : List (Path × Stat)) → IsWalk s top items → IsWalkIn s (top ∷ []) items
walked_one s top items walk = record {
  ascending = walk.ascending;
  each = all_weaker (IsNameUnder s top) (IsNameIn s (top ∷ [])) (λ item here. (inl here.0, here.1)) items walk.each;
  whole = λ path stat there found. elim there [ inl under ↦ walk.whole path stat under found | inr none ↦ absurd none ];
}

-- where nothing stands there are no names
pub walked_none : (s : FsState) (top : Path) → IsTree s.names → None ≡ stat_of s top → IsWalkIn s (top ∷ []) []
walked_none s top tree none = record {
  ascending = tt;
  each = tt;
  whole = λ path stat there found. elim there [ inl under ↦ absurd (nothing path under.0 under.1 (stat_stands s path stat found)) | inr empty ↦ absurd empty ];
}
  where
    nothing : (path rest : Path) → path ≡ top ++ rest → is_some (get s.names path) ≡ true → ⊥
    nothing path [] is stands = none_stands s top none (ap (λ p. is_some (get s.names p)) (sym (is ∙ append-nil top)) ∙ stands)
    nothing path (name ∷ rest) is stands =
        none_stands s top none (ap is_some (prefix_is_dir s.names top (name ∷ rest) (λ z. absurd (omega arith)) (ap (blocked s.names) (sym is) ∙ tree path stands)))

pub walked_no_tops : (s : FsState) → IsWalkIn s [] []
walked_no_tops s = record { ascending = tt; each = tt; whole = λ path stat there found. absurd there }

ascending_append : (xs ys : List (Path × Stat)) → IsAscending xs → IsAscending ys → AllByRecursion (λ x. AllByRecursion (λ y. path_cmp x.0 y.0 ≡ Less) ys) xs → IsAscending (xs ++ ys)
ascending_append [] ys front back each = back
ascending_append (x ∷ xs) ys front back each = (all_append (λ later. path_cmp x.0 later.0 ≡ Less) xs ys front.0 each.0, ascending_append xs ys front.1 back each.1)

-- inside some directories or others
inside_left : (tops others : List Path) (path : Path) → IsInside tops path → IsInside (tops ++ others) path
inside_left [] others path none = absurd none
inside_left (top ∷ tops) others path (inl here) = inl here
inside_left (top ∷ tops) others path (inr there) = inr (inside_left tops others path there)

inside_right : (tops others : List Path) (path : Path) → IsInside others path → IsInside (tops ++ others) path
inside_right [] others path there = there
inside_right (top ∷ tops) others path there = inr (inside_right tops others path there)

inside_either : (tops others : List Path) (path : Path) → IsInside (tops ++ others) path → IsInside tops path ⊎ IsInside others path
inside_either [] others path there = inr there
inside_either (top ∷ tops) others path (inl here) = inl (inl here)
inside_either (top ∷ tops) others path (inr there) = elim (inside_either tops others path there) [ inl front ↦ inl (inr front) | inr back ↦ inr back ]

-- the names of directories before another one come before its names
all_before : (front : List Path) (top : Path) (back : List Path) → AreInTurn (front ++ top ∷ back) → (path other : Path) → IsInside front path → IsUnder top other → path_cmp path other ≡ Less
all_before [] top back turn path other none under = absurd none
all_before (first ∷ front) top back turn path other (inl (rest, is)) (more, same) = (λ i. path_cmp (is i) (same i)) ∙ reach front turn.0 rest more
  where
    reach : (front : List Path) → AllByRecursion (IsBefore first) (front ++ top ∷ back) → IsBefore first top
    reach [] each = each.0
    reach (next ∷ front) each = reach front each.1
all_before (first ∷ front) top back turn path other (inr there) under = all_before front top back turn.1 path other there under

walked_then : (s : FsState) (front : List Path) (top : Path) (back : List Path) (items more : List (Path × Stat)) → AreInTurn (front ++ top ∷ back) → IsWalkIn s front items → IsWalkIn s (top ∷ []) more → IsWalkIn s (front ++ top ∷ []) (items ++ more)
walked_then s front top back items more turn so_far walk = record {
  ascending = ascending_append items more so_far.ascending walk.ascending
      (all_weaker (IsNameIn s front) (λ x. AllByRecursion (λ y. path_cmp x.0 y.0 ≡ Less) more)
      (λ x there. all_weaker (IsNameIn s (top ∷ [])) (λ y. path_cmp x.0 y.0 ≡ Less) (λ y here. elim (here.0) [ inl under ↦ all_before front top back turn x.0 y.0 there.0 under | inr none ↦ absurd none ]) more walk.each) items so_far.each);
  each = all_append (IsNameIn s (front ++ top ∷ [])) items more
      (all_weaker (IsNameIn s front) (IsNameIn s (front ++ top ∷ [])) (λ x there. (inside_left front (top ∷ []) x.0 there.0, there.1)) items so_far.each)
      (all_weaker (IsNameIn s (top ∷ [])) (IsNameIn s (front ++ top ∷ [])) (λ x there. (inside_right front (top ∷ []) x.0 there.0, there.1)) more walk.each);
  whole = λ path stat there found. elim (inside_either front (top ∷ []) path there) [
    | inl here ↦ among_left items more (path, stat) (so_far.whole path stat here found)
    | inr here ↦ among_right items more (path, stat) (walk.whole path stat here found)
  ];
}

-- the walk goes on with the next directory
pub walked_next : (s : FsState) (tops : List Path) (i : ℕ) (top : Path) → i < length tops → top ≡ get_or tops i top → AreInTurn tops → (items more : List (Path × Stat))
    → IsWalkIn s (take i tops) items → IsWalkIn s (top ∷ []) more → IsWalkIn s (take (i + 1) tops) (items ++ more)
walked_next s tops i top below is turn items more so_far walk =
    let split : tops ≡ take i tops ++ top ∷ drop (i + 1) tops = sym (take-append-drop i tops) ∙ ap (λ rest. take i tops ++ rest) (next_of tops i top below is) in
    let taken : take (i + 1) tops ≡ take i tops ++ top ∷ [] = ap (λ n. take n tops) (add-one i) ∙ take-suc tops i top below ∙ ap (λ t. take i tops ++ t ∷ []) (sym is) in
    subst (λ front. IsWalkIn s front (items ++ more)) (sym taken) (walked_then s (take i tops) top (drop (i + 1) tops) items more (subst AreInTurn split turn) so_far walk)

-- until all are done
pub walked_all : (s : FsState) (tops : List Path) (i : ℕ) (items : List (Path × Stat)) → length tops ≤ i → IsWalkIn s (take i tops) items → IsWalkIn s tops items
walked_all s tops i items all walk = subst (λ front. IsWalkIn s front items) (take_all i tops all) walk
