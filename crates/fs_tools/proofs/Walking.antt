-- A walk of a directory, one name of it after another.
use Rattle.std.proofs.Common.{◌≡◌, ◌≢◌, ◌≤◌, ◌<◌, ◌+◌, ◌++◌, ◌∙◌, ◌⊎◌, inl, inr, ℕ, true, List, [], ◌∷◌, length, take, drop, get_or, map, Option, Some, None, refl, sym, ap, subst, arith, append_assoc, length-append, add-one}
use Rattle.std.proofs.Math.Seq.{take-suc}
use Rattle.std.proofs.lemmas.List.{take-append-drop, take_all}
use Rattle.std.specs.Prelude.{is_some}
use Rattle.std.specs.List.{AllByRecursion}
use Rattle.std.specs.Ordering.{nat_cmp, ordering_then}
use Rattle.std.specs.Cmp.{tied_itself, nat_cmp_total}
use Rattle.std.specs.Cmp.Lexicographic.{slice_cmp, lists_total}
use Rattle.std.specs.declared.cmp.Ordering.{Ordering}
use Rattle.std.specs.declared.cmp.Ordering.TheVariants.{Less, Equal, Greater}
use Rattle.std.specs.FinMap.{get}
use Rattle.fs_model.specs.declared.node.Node.{Node}
use Rattle.fs_model.specs.declared.node.Node.TheVariants.{Dir}
use Rattle.fs_model.specs.declared.node.Stat.{Stat}
use Rattle.fs_model.specs.Names.{Path, path_cmp, IsUnder}
use Rattle.fs_model.specs.State.{Names, FsState}
use Rattle.fs_model.specs.Calls.{Stats, refusal, blocked, or_else, missing}
use Rattle.fs_model.specs.WellFormed.{IsTree}
use Rattle.fs_model.specs.Reading.{stat_of, stat_of_node}
use Rattle.fs_model.proofs.Runs.{all_append, all_weaker}
use Rattle.fs_tools.specs.Children.{child_of, paths_in, IsIn}
use Rattle.fs_tools.specs.Walked.{IsAmong, IsAscending, IsNameUnder, IsWalk, TakesAll, IsUnderOne, IsWalkSoFar}
use Rattle.fs_tools.proofs.Making.{append-nil}
use Rattle.fs_tools.proofs.Copying.{prefix_is_dir}
use Rattle.fs_tools.proofs.Clearing.{next_of, names_in}
use Rattle.fs_tools.proofs.Naming.{among_all, IsRising, path_among, paths_stand, paths_rise}

-- membership in two lists after each other
pub among_left : {A : Type 0} (xs ys : List A) (x : A) → IsAmong xs x → IsAmong (xs ++ ys) x
among_left [] ys x none = absurd none
among_left (y ∷ xs) ys x (inl same) = inl same
among_left (y ∷ xs) ys x (inr among) = inr (among_left xs ys x among)

pub among_right : {A : Type 0} (xs ys : List A) (x : A) → IsAmong ys x → IsAmong (xs ++ ys) x
among_right [] ys x among = among
among_right (y ∷ xs) ys x among = inr (among_right xs ys x among)

among_cases : {A : Type 0} (xs : List A) (y x : A) → IsAmong (xs ++ y ∷ []) x → IsAmong xs x ⊎ (y ≡ x)
among_cases [] y x (inl same) = inr same
among_cases [] y x (inr none) = absurd none
among_cases (z ∷ xs) y x (inl same) = inl (inl same)
among_cases (z ∷ xs) y x (inr among) = elim (among_cases xs y x among) [ inl here ↦ inl (inr here) | inr same ↦ inr same ]

-- the order of paths
name_tied : (name : List ℕ) → slice_cmp nat_cmp name name ≡ Equal
name_tied name = tied_itself (lists_total nat_cmp_total) name

below_after : (at : Path) (name : List ℕ) (rest : Path) → path_cmp at (at ++ name ∷ rest) ≡ Less
below_after [] name rest = refl
below_after (a ∷ at) name rest = ap (λ o. ordering_then o (path_cmp at (at ++ name ∷ rest))) (name_tied a) ∙ below_after at name rest

then_less : (o : Ordering) → ordering_then o Equal ≡ Less → o ≡ Less
then_less Less e = refl
then_less Equal e = absurd (cc e)
then_less Greater e = absurd (cc e)

apart_after : (at : Path) (m n : List ℕ) (front back : Path) → path_cmp (child_of at m) (child_of at n) ≡ Less → path_cmp (at ++ m ∷ front) (at ++ n ∷ back) ≡ Less
apart_after [] m n front back less = ap (λ o. ordering_then o (path_cmp front back)) (then_less (slice_cmp nat_cmp m n) less)
apart_after (a ∷ at) m n front back less =
    let inner : path_cmp (child_of at m) (child_of at n) ≡ Less = sym (ap (λ o. ordering_then o (path_cmp (child_of at m) (child_of at n))) (name_tied a)) ∙ less in
    ap (λ o. ordering_then o (path_cmp (at ++ m ∷ front) (at ++ n ∷ back))) (name_tied a) ∙ apart_after at m n front back inner

ascending_append : (xs ys : List (Path × Stat)) → IsAscending xs → IsAscending ys → AllByRecursion (λ x. AllByRecursion (λ y. path_cmp x.0 y.0 ≡ Less) ys) xs → IsAscending (xs ++ ys)
ascending_append [] ys front back each = back
ascending_append (x ∷ xs) ys front back each = (all_append (λ later. path_cmp x.0 later.0 ≡ Less) xs ys front.0 each.0, ascending_append xs ys front.1 back each.1)

-- what is before a path in a list that rises
pub rising_before : (front : List Path) (p : Path) (back : List Path) → IsRising (front ++ p ∷ back) → AllByRecursion (λ q. path_cmp q p ≡ Less) front
rising_before [] p back rise = tt
rising_before (q ∷ front) p back rise = (among_all (λ r. path_cmp q r ≡ Less) (front ++ p ∷ back) rise.0 p (among_right front (p ∷ back) p (inl refl)), rising_before front p back rise.1)

-- what is under a name of a directory
under_child : (at : Path) (name : List ℕ) (child path : Path) → child ≡ child_of at name → IsUnder child path → (rest : Path) × (path ≡ at ++ name ∷ rest)
under_child at name child path is (rest, below) = (rest, below ∙ ap (λ p. p ++ rest) is ∙ append_assoc at (name ∷ []) rest)

stat_same : (s : FsState) (path : Path) (a b : Stat) → stat_of s path ≡ Some a → stat_of s path ≡ Some b → a ≡ b
stat_same s path a b first second = cc (first, second)

-- the walk begins with the directory itself
pub walk_starts : (s : FsState) (at : Path) (stat : Stat) → stat_of s at ≡ Some stat → IsWalkSoFar s at [] ((at, stat) ∷ [])
walk_starts s at stat is = record {
  ascending = (tt, tt);
  each = ((([], sym (append-nil at)), is), tt);
  bounded = (inl refl, tt);
  whole = λ path other there found. elim there [
    | inl same ↦ inl (λ i. (sym same i, stat_same s at stat other is (ap (stat_of s) (sym same) ∙ found) i))
    | inr none ↦ absurd none.1
  ];
}

-- and goes on with the next name
pub walk_then : (s : FsState) (at : Path) (names_done : List Path) (child : Path) (items more : List (Path × Stat)) → AllByRecursion (IsIn at) names_done → IsIn at child → AllByRecursion (λ q. path_cmp q child ≡ Less) names_done
    → IsWalkSoFar s at names_done items → IsWalk s child more → IsWalkSoFar s at (names_done ++ child ∷ []) (items ++ more)
walk_then s at names_done child items more in_done (name, is) before so_far walk = record {
  ascending = ascending_append items more so_far.ascending walk.ascending (all_weaker (λ item. (item.0 ≡ at) ⊎ IsUnderOne names_done item.0) (λ x. AllByRecursion (λ y. path_cmp x.0 y.0 ≡ Less) more) (λ x there. after x.0 there) items so_far.bounded);
  each = all_append (IsNameUnder s at) items more so_far.each (all_weaker (IsNameUnder s child) (IsNameUnder s at) (λ item here. (let below = under_child at name child item.0 is here.0 in (name ∷ below.0, below.1), here.1)) more walk.each);
  bounded =
      all_append (λ item. (item.0 ≡ at) ⊎ IsUnderOne (names_done ++ child ∷ []) item.0) items more
      (all_weaker (λ item. (item.0 ≡ at) ⊎ IsUnderOne names_done item.0) (λ item. (item.0 ≡ at) ⊎ IsUnderOne (names_done ++ child ∷ []) item.0) (λ item there. wider item.0 there) items so_far.bounded)
      (all_weaker (IsNameUnder s child) (λ item. (item.0 ≡ at) ⊎ IsUnderOne (names_done ++ child ∷ []) item.0) (λ item here. inr (child, among_right names_done (child ∷ []) child (inl refl), here.0)) more walk.each);
  whole = λ path stat there found. elim there [
    | inl same ↦ among_left items more (path, stat) (so_far.whole path stat (inl same) found)
    | inr one ↦ elim (among_cases names_done child one.0 one.1) [
      | inl here ↦ among_left items more (path, stat) (so_far.whole path stat (inr (one.0, here, one.2)) found)
      | inr same ↦ among_right items more (path, stat) (walk.whole path stat (subst (λ top. IsUnder top path) (sym same) one.2) found)
    ]
  ];
}
  where
    wider : (path : Path) → (path ≡ at) ⊎ IsUnderOne names_done path → (path ≡ at) ⊎ IsUnderOne (names_done ++ child ∷ []) path
    wider path (inl same) = inl same
    wider path (inr (top, among, under)) = inr (top, among_left names_done (child ∷ []) top among, under)

    after : (path : Path) → (path ≡ at) ⊎ IsUnderOne names_done path → AllByRecursion (λ y. path_cmp path y.0 ≡ Less) more
    after path (inl same) =
        all_weaker (IsNameUnder s child) (λ y. path_cmp path y.0 ≡ Less)
        (λ y here. let below = under_child at name child y.0 is here.0 in (λ i. path_cmp (same i) (below.1 i)) ∙ below_after at name below.0) more walk.each
    after path (inr (top, among, under)) =
        let (other, top_is) = among_all (IsIn at) names_done in_done top among in
        let front = under_child at other top path top_is under in
        let less : path_cmp (child_of at other) (child_of at name) ≡ Less = (λ i. path_cmp (sym top_is i) (sym is i)) ∙ among_all (λ q. path_cmp q child ≡ Less) names_done before top among in
        all_weaker (IsNameUnder s child) (λ y. path_cmp path y.0 ≡ Less)
        (λ y here. let below = under_child at name child y.0 is here.0 in (λ i. path_cmp (front.1 i) (below.1 i)) ∙ apart_after at other name front.0 below.0 less) more walk.each

stat_stands : (s : FsState) (path : Path) (stat : Stat) → stat_of s path ≡ Some stat → is_some (get s.names path) ≡ true
stat_stands s path stat found = of (get s.names path) found
  where
    of : (node : Option Node) → stat_of_node s path node ≡ Some stat → is_some node ≡ true
    of None found = absurd (cc found)
    of (Some node) found = refl

-- in a tree, the first name on the way to what stands below a directory stands
pub child_stands : (names : Names) → IsTree names → (at : Path) (name : List ℕ) (rest : Path) → is_some (get names (at ++ name ∷ rest)) ≡ true → is_some (get names (child_of at name)) ≡ true
child_stands names tree at name [] stands = stands
child_stands names tree at name (next ∷ rest) stands =
    let whole : child_of at name ++ next ∷ rest ≡ at ++ name ∷ next ∷ rest = append_assoc at (name ∷ []) (next ∷ rest) in
    ap is_some (prefix_is_dir names (child_of at name) (next ∷ rest) (λ z. absurd (omega arith)) (ap (blocked names) whole ∙ tree (at ++ name ∷ next ∷ rest) stands))

-- all names of the directory are done
pub walk_ends : (s : FsState) (at : Path) (items : List (Path × Stat)) → IsTree s.names → IsWalkSoFar s at (paths_in s.names at) items → IsWalk s at items
walk_ends s at items tree so_far = record {
  ascending = so_far.ascending;
  each = so_far.each;
  whole = λ path stat under found. so_far.whole path stat (place path under.0 under.1 (stat_stands s path stat found)) found;
}
  where
    place : (path rest : Path) → path ≡ at ++ rest → is_some (get s.names path) ≡ true → (path ≡ at) ⊎ IsUnderOne (paths_in s.names at) path
    place path [] is stands = inl (is ∙ append-nil at)
    place path (name ∷ rest) is stands =
        inr (child_of at name, path_among s.names at name (child_stands s.names tree at name rest (ap (λ p. is_some (get s.names p)) (sym is) ∙ stands)), (rest, is ∙ sym (append_assoc at (name ∷ []) rest)))

-- of what is no directory the walk has itself alone
pub walk_alone : (s : FsState) (at : Path) (stat : Stat) → IsTree s.names → stat_of s at ≡ Some stat → get s.names at ≢ Some Dir → IsWalk s at ((at, stat) ∷ [])
walk_alone s at stat tree is other = record {
  ascending = (tt, tt);
  each = ((([], sym (append-nil at)), is), tt);
  whole = λ path found under stands. here path under.0 under.1 found stands;
}
  where
    here : (path rest : Path) → path ≡ at ++ rest → (found : Stat) → stat_of s path ≡ Some found → IsAmong {A = Path × Stat} ((at, stat) ∷ []) (path, found)
    here path [] same found stands =
        let e : path ≡ at = same ∙ append-nil at in
        inl (λ i. (sym e i, stat_same s at stat found is (ap (stat_of s) (sym e) ∙ stands) i))
    here path (name ∷ rest) same found stands =
        absurd (other (prefix_is_dir s.names at (name ∷ rest) (λ z. absurd (omega arith)) (ap (blocked s.names) (sym same) ∙ tree path (stat_stands s path found stands))))

-- in a tree, the `stat` of what stands is not refused
missing_none : (node : Option Node) → is_some node ≡ true → missing node ≡ None
missing_none None stands = absurd (cc stands)
missing_none (Some node) stands = refl

pub stat_free : (s : FsState) (path : Path) → IsTree s.names → is_some (get s.names path) ≡ true → refusal s (Stats path) ≡ None
stat_free s path tree stands = λ i. or_else (tree path stands i) (missing_none (get s.names path) stands i)

-- one of the names of a directory, by its place
module _ (paths : List Path) (i : ℕ) (path : Path) (below : i < length paths) (is : path ≡ get_or paths i path) where
  split : paths ≡ take i paths ++ path ∷ drop (i + 1) paths
  split = sym (take-append-drop i paths) ∙ ap (λ rest. take i paths ++ rest) (next_of paths i path below is)

  pub taken_next : take (i + 1) paths ≡ take i paths ++ path ∷ []
  taken_next = ap (λ n. take n paths) (add-one i) ∙ take-suc paths i path below ∙ ap (λ p. take i paths ++ p ∷ []) (sym is)

  pub nth_among : IsAmong paths path
  nth_among = subst (λ l. IsAmong l path) (sym split) (among_right (take i paths) (path ∷ drop (i + 1) paths) path (inl refl))

  pub nth_has : (P : Path → Type 0) → AllByRecursion P paths → P path
  nth_has P all = among_all P paths all path nth_among

  pub front_has : (P : Path → Type 0) → AllByRecursion P paths → AllByRecursion P (take i paths)
  front_has P all = front (take i paths) (path ∷ drop (i + 1) paths) (subst (AllByRecursion P) split all)
    where
      front : (xs ys : List Path) → AllByRecursion P (xs ++ ys) → AllByRecursion P xs
      front [] ys all = tt
      front (x ∷ xs) ys all = (all.0, front xs ys all.1)

  -- the walk goes on with it
  pub walk_next : (s : FsState) (at : Path) (items more : List (Path × Stat)) → paths ≡ paths_in s.names at → IsWalkSoFar s at (take i paths) items → IsWalk s path more → IsWalkSoFar s at (take (i + 1) paths) (items ++ more)
  walk_next s at items more names so_far walk =
      let all : AllByRecursion (IsIn at) paths = subst (AllByRecursion (IsIn at)) (sym names) (names_in s at) in
      let rise : IsRising (take i paths ++ path ∷ drop (i + 1) paths) = subst IsRising (sym names ∙ split) (paths_rise s.names at) in
      subst (λ front. IsWalkSoFar s at front (items ++ more)) (sym taken_next)
      (walk_then s at (take i paths) path items more (front_has (IsIn at) all) (nth_has (IsIn at) all) (rising_before (take i paths) path (drop (i + 1) paths) rise) so_far walk)

  -- in a tree, its `stat` is not refused
  pub nth_free : (s : FsState) (at : Path) → paths ≡ paths_in s.names at → IsTree s.names → refusal s (Stats path) ≡ None
  nth_free s at names tree =
      stat_free s path tree (nth_has (λ p. IsIn at p × (is_some (get s.names p) ≡ true)) (subst (AllByRecursion (λ p. IsIn at p × (is_some (get s.names p) ≡ true))) (sym names) (paths_stand s.names at))).1

-- names that are taken after others
pub takes_then : {A : Type 0} (takes : A → Path → Stat → A → Type 0) (a b c : A) (xs ys : List (Path × Stat)) → TakesAll takes a xs b → TakesAll takes b ys c → TakesAll takes a (xs ++ ys) c
takes_then takes a b c [] ys front back = subst (λ start. TakesAll takes start ys c) front back
takes_then takes a b c (x ∷ xs) ys (next, took, front) back = (next, took, takes_then takes next b c xs ys front back)

-- all names of the directory were taken
pub walk_done : (s : FsState) (at : Path) (paths : List Path) (i : ℕ) (items : List (Path × Stat)) → paths ≡ paths_in s.names at → length paths ≤ i → IsTree s.names → IsWalkSoFar s at (take i paths) items → IsWalk s at items
walk_done s at paths i items names all tree so_far = walk_ends s at items tree (subst (λ front. IsWalkSoFar s at front items) (take_all i paths all ∙ names) so_far)

-- a name of a directory has one name more than it
pub child_length : (at : Path) (names : List (List ℕ)) (paths : List Path) (i : ℕ) (path : Path) → paths ≡ map (child_of at) names → i < length paths → path ≡ get_or paths i path → length path ≡ length at + 1
child_length at names paths i path are below is = nth_has paths i path below is (λ p. length p ≡ length at + 1) (subst (AllByRecursion (λ p. length p ≡ length at + 1)) (sym are) (longer names))
  where
    longer : (names : List (List ℕ)) → AllByRecursion (λ p. length p ≡ length at + 1) (map (child_of at) names)
    longer [] = tt
    longer (name ∷ names) = (omega (arith, length-append at (name ∷ [])), longer names)
