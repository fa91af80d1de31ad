-- In the order of paths, what is under a directory stands together, from the directory itself on.
use Rattle.std.proofs.Common.{◌≡◌, ℕ, ◌-◌, Bool, true, false, List, [], ◌∷◌, ◌++◌, length, drop, cond, Option, Some, None, refl, sym, ◌∙◌, ap, subst}
use Rattle.std.specs.Prelude.{is_some, option_to_list, if◌then◌else◌, ◌||◌, ◌&&◌, slice_get}
use Rattle.std.specs.declared.ops.Bound.TheVariants.{Included, Unbounded}
use Rattle.std.specs.BTreeMap.Range.{range_contains, entries_between}
use Rattle.std.specs.declared.cmp.Ordering.{Ordering}
use Rattle.std.specs.declared.cmp.Ordering.TheVariants.{Less, Equal, Greater}
use Rattle.std.specs.Ordering.{is_le, ordering_then, ordering_reverse, nat_cmp}
use Rattle.std.specs.Cmp.{IsTotalOrder, tied_itself, nat_cmp_total}
use Rattle.std.specs.Cmp.Lexicographic.{slice_cmp, lists_total}
use Rattle.std.specs.FinMap.{IsAntisymmetric, nat_cmp-IsAntisymmetric, slice_cmp-IsAntisymmetric}
use Rattle.std.specs.List.{AllByRecursion, filter, filter_map, cons_option, list_any}
use Rattle.std.specs.List.Sorted.{IsStrictlySortedBy}
use Rattle.std.specs.Map.{keys_of}
use Rattle.std.specs.FinMap as map
use Rattle.std.proofs.lemmas.Map.Keys.{sorted_head, sorted_tail}
use Rattle.std.proofs.lemmas.List.Kept.{IsStrictlySortedBy-filter}
use Rattle.std.proofs.lemmas.List.{take-append-drop}
use Rattle.fs_model.specs.Names.{Path, path_cmp, parent, same_path, IsUnder, is_under}
use Rattle.fs_model.specs.PathLaws.{same_path_true, path_total, path_exact}
use Rattle.fs_model.specs.Calls.{child_name}
use Rattle.fs_model.proofs.Prefixes.{is_under_made}
use Rattle.fs_maps.proofs.Entries.{entries_made}

abbrev name_cmp : List ℕ → List ℕ → Ordering
name_cmp = slice_cmp nat_cmp

name_total : IsTotalOrder name_cmp
name_total = lists_total nat_cmp_total

name_exact : IsAntisymmetric name_cmp
name_exact = slice_cmp-IsAntisymmetric nat_cmp-IsAntisymmetric

-- a directory stands before what is under it
pub before_under : (dir rest : Path) → is_le (path_cmp dir (dir ++ rest)) ≡ true
before_under [] [] = refl
before_under [] (name ∷ rest) = refl
before_under (name ∷ dir) rest = ap (λ o. is_le (ordering_then o (path_cmp dir (dir ++ rest)))) (tied_itself name_total name) ∙ before_under dir rest

between_names : (d x : List ℕ) (dir q rest : Path) (o : Ordering) → name_cmp d x ≡ o → is_le (ordering_then (name_cmp d x) (path_cmp dir q)) ≡ true → ordering_then (name_cmp x d) (path_cmp q (dir ++ rest)) ≡ Less
    → (is_le (path_cmp dir q) ≡ true → path_cmp q (dir ++ rest) ≡ Less → IsUnder dir q) → IsUnder (d ∷ dir) (x ∷ q)
between_names d x dir q rest Less e from before more =
    let back : name_cmp x d ≡ Greater = name_total.antisymm x d ∙ ap ordering_reverse e in
    let clash : Greater ≡ Less = sym (ap (λ o. ordering_then o (path_cmp q (dir ++ rest))) back) ∙ before in
    absurd cc
between_names d x dir q rest Equal e from before more =
    let same : d ≡ x = name_exact d x e in
    let back : name_cmp x d ≡ Equal = name_total.antisymm x d ∙ ap ordering_reverse e in
    let under = more (sym (ap (λ o. is_le (ordering_then o (path_cmp dir q))) e) ∙ from) (sym (ap (λ o. ordering_then o (path_cmp q (dir ++ rest))) back) ∙ before) in
    (under.0, λ i. sym same i ∷ under.1 i)
between_names d x dir q rest Greater e from before more =
    let clash : false ≡ true = sym (ap (λ o. is_le (ordering_then o (path_cmp dir q))) e) ∙ from in
    absurd cc

-- what stands between a directory and what is under it is under it too
pub between : (dir q rest : Path) → is_le (path_cmp dir q) ≡ true → path_cmp q (dir ++ rest) ≡ Less → IsUnder dir q
between [] q rest from before = (q, refl)
between (d ∷ dir) [] rest from before = absurd cc
between (d ∷ dir) (x ∷ q) rest from before = between_names d x dir q rest (name_cmp d x) refl from before (between dir q rest)

-- a name of a directory is under it
pub child_under : (dir p : Path) → is_some (child_name dir p) ≡ true → IsUnder dir p
child_under dir p =
    elim (same_path (parent p) dir) as (λ b. same_path (parent p) dir ≡ b → is_some (if b then slice_get p (length p - 1) else None) ≡ true → IsUnder dir p)
    [ true ↦ λ e _. (drop (length p - 1) p, sym (take-append-drop (length p - 1) p) ∙ ap (λ front. front ++ drop (length p - 1) p) (same_path_true (parent p) dir e)) | false ↦ λ _ h. absurd cc ] refl

no_some : {X : Type 0} (o : Option X) → (is_some o ≡ true → ⊥) → o ≡ None
no_some None none = refl
no_some (Some x) none = absurd (none refl)

pub no_child : (dir p : Path) → (IsUnder dir p → ⊥) → child_name dir p ≡ None
no_child dir p out = no_some (child_name dir p) (λ some. out (child_under dir p some))

-- what stands before a directory is no name of it
pub no_child_before : (dir p : Path) → is_le (path_cmp dir p) ≡ false → child_name dir p ≡ None
no_child_before dir p earlier =
    no_child dir p (λ under.
    let clash : true ≡ false = sym (before_under dir under.0) ∙ sym (ap (λ q. is_le (path_cmp dir q)) under.1) ∙ earlier in
    cc)

-- what stands behind one that isn't under the directory is no name of it
pub no_child_after : (dir q p : Path) → is_le (path_cmp dir q) ≡ true → (IsUnder dir q → ⊥) → path_cmp q p ≡ Less → child_name dir p ≡ None
no_child_after dir q p from out later = no_child dir p (λ under. out (between dir q under.0 from (sym (ap (path_cmp q) under.1) ∙ later)))

pub none_after : (dir q : Path) (ps : List Path) → is_le (path_cmp dir q) ≡ true → (IsUnder dir q → ⊥) → AllByRecursion (λ p. path_cmp q p ≡ Less) ps → filter_map (child_name dir) ps ≡ []
none_after dir q [] from out all = refl
none_after dir q (p ∷ ps) from out all = ap (λ o. cons_option o (filter_map (child_name dir) ps)) (no_child_after dir q p from out all.0) ∙ none_after dir q ps from out all.1

-- what has no value may be left out
left_out : {K Y : Type 0} (h : K → Option Y) (test : K → Bool) → ((k : K) → test k ≡ false → h k ≡ None) → (ks : List K) → filter_map h (filter test ks) ≡ filter_map h ks
left_out h test none [] = refl
left_out h test none (k ∷ ks) =
    elim (test k) as (λ b. test k ≡ b → filter_map h (cond b (k ∷ filter test ks) (filter test ks)) ≡ cons_option (h k) (filter_map h ks))
    [ true ↦ λ _. ap (cons_option (h k)) (left_out h test none ks) | false ↦ λ fails. left_out h test none ks ∙ ap (λ o. cons_option o (filter_map h ks)) (sym (none k fails)) ] refl

keys_filter : {K X : Type 0} (test : K → Bool) (es : List (K × X)) → keys_of (filter (λ e. test e.0) es) ≡ filter test (keys_of es)
keys_filter test [] = refl
keys_filter {K} {X} test (e ∷ es) =
    elim (test e.0) as (λ b. keys_of (cond b (e ∷ filter (λ e. test e.0) es) (filter (λ e. test e.0) es)) ≡ cond b (e.0 ∷ filter test (keys_of es)) (filter test (keys_of es)))
    [ true ↦ ap (λ ks. e.0 ∷ ks) (keys_filter test es) | false ↦ keys_filter test es ]

each_passes : {K : Type 0} (test : K → Bool) (ks : List K) → AllByRecursion (λ k. test k ≡ true) (filter test ks)
each_passes test [] = tt
each_passes test (k ∷ ks) =
    elim (test k) as (λ b. test k ≡ b → AllByRecursion (λ k. test k ≡ true) (cond b (k ∷ filter test ks) (filter test ks)))
    [ true ↦ λ passes. (passes, each_passes test ks) | false ↦ λ _. each_passes test ks ] refl

-- paths in order from a directory on
pub record IsRest (dir : Path) (paths : List Path) : Type 0 where
  pub ordered : IsStrictlySortedBy path_cmp paths
  pub from : AllByRecursion (λ p. is_le (path_cmp dir p) ≡ true) paths

-- the test of a range that has no end
abbrev is_from : Path → Path → Bool
is_from dir = range_contains path_cmp (Included dir) Unbounded

from_start : (dir p : Path) → is_from dir p ≡ is_le (path_cmp dir p)
from_start dir p = elim (is_le (path_cmp dir p)) as (λ b. (b && true) ≡ b) [ true ↦ refl | false ↦ refl ]

from_starts : (dir : Path) (paths : List Path) → AllByRecursion (λ p. is_from dir p ≡ true) paths → AllByRecursion (λ p. is_le (path_cmp dir p) ≡ true) paths
from_starts dir [] all = tt
from_starts dir (p ∷ paths) all = (sym (from_start dir p) ∙ all.0, from_starts dir paths all.1)

module _ {X : Type 0} (dir : Path) (es : List (Path × X)) where
  -- the names of a directory are those of the range that begins with it
  pub range_names : filter_map (child_name dir) (keys_of (entries_between path_cmp (Included dir) Unbounded es)) ≡ filter_map (child_name dir) (keys_of es)
  range_names = ap (filter_map (child_name dir)) (keys_filter (is_from dir) es) ∙ left_out (child_name dir) (is_from dir) (λ p out. no_child_before dir p (sym (from_start dir p) ∙ out)) (keys_of es)

  pub range_rest : IsStrictlySortedBy path_cmp (keys_of es) → IsRest dir (keys_of (entries_between path_cmp (Included dir) Unbounded es))
  range_rest ordered = subst (IsRest dir) (sym (keys_filter (is_from dir) es)) (record {
    ordered = IsStrictlySortedBy-filter path_cmp (is_from dir) (keys_of es) ordered;
    from = from_starts dir (filter (is_from dir) (keys_of es)) (each_passes (is_from dir) (keys_of es));
  })

pub rest_tail : (dir p : Path) (paths : List Path) → IsRest dir (p ∷ paths) → IsRest dir paths
rest_tail dir p paths rest = record { ordered = sorted_tail path_cmp p paths rest.ordered; from = rest.from.1 }

-- behind one that isn't under the directory there is no name of it
pub rest_none : (dir p : Path) (paths : List Path) → IsRest dir (p ∷ paths) → is_under dir p ≡ false → filter_map (child_name dir) (p ∷ paths) ≡ []
rest_none dir p paths rest out =
    let not_under : IsUnder dir p → ⊥ = λ under. (let clash : true ≡ false = sym (is_under_made dir p under) ∙ out in cc) in
    ap (λ o. cons_option o (filter_map (child_name dir) paths)) (no_child dir p not_under) ∙ none_after dir p paths rest.from.0 not_under (sorted_head path_cmp p paths rest.ordered)

-- whether one has a value, by what has one
any_some : {K Y : Type 0} (h : K → Option Y) (ks : List K) → list_any (λ k. is_some (h k)) ks ≡ is_some (slice_get (filter_map h ks) 0)
any_some h [] = refl
any_some h (k ∷ ks) = elim (h k) as (λ o. (is_some o || list_any (λ k. is_some (h k)) ks) ≡ is_some (slice_get (cons_option o (filter_map h ks)) 0)) [ None ↦ any_some h ks | Some y ↦ refl ]

first_some : {Y : Type 0} (o : Option Y) (ys : List Y) → is_some o ≡ true → is_some (slice_get (cons_option o ys) 0) ≡ true
first_some None ys some = absurd cc
first_some (Some y) ys some = refl

module _ (dir : Path) (all : List Path) where
  -- paths with the same names of the directory answer alike whether there is one
  pub has_name : (rest : List Path) → filter_map (child_name dir) rest ≡ filter_map (child_name dir) all → is_some (slice_get (filter_map (child_name dir) rest) 0) ≡ list_any (λ p. is_some (child_name dir p)) all
  has_name rest same = ap (λ names. is_some (slice_get names 0)) same ∙ sym (any_some (child_name dir) all)

  pub has_first : (p : Path) (rest : List Path) → is_some (child_name dir p) ≡ true → filter_map (child_name dir) (p ∷ rest) ≡ filter_map (child_name dir) all → true ≡ list_any (λ p. is_some (child_name dir p)) all
  has_first p rest some same = sym (first_some (child_name dir p) (filter_map (child_name dir) rest) some) ∙ has_name (p ∷ rest) same

-- what `filter_map` adds for one more stands behind what it gave before
pub append_option : {Y : Type 0} (xs : List Y) (o : Option Y) (ys : List Y) → (xs ++ option_to_list o) ++ ys ≡ xs ++ cons_option o ys
append_option [] None ys = refl
append_option [] (Some y) ys = refl
append_option (x ∷ xs) o ys = ap (λ zs. x ∷ zs) (append_option xs o ys)

pub none_of : {Y : Type 0} (o : Option Y) → is_some o ≡ false → o ≡ None
none_of None none = refl
none_of (Some y) none = absurd cc

-- the names of a directory among the paths of a map are those of the range that begins with it
pub names_of_map : {X : Type 0} (dir : Path) (es : List (Path × X)) (m : map.FinMap path_cmp X) → IsStrictlySortedBy path_cmp (keys_of es) → map.from_entries {R = path_cmp} es ≡ m
    → filter_map (child_name dir) (keys_of (entries_between path_cmp (Included dir) Unbounded es)) ≡ filter_map (child_name dir) (map.keys m)
names_of_map dir es m ordered view =
    range_names dir es ∙ ap (λ es. filter_map (child_name dir) (keys_of es)) (sym (entries_made path_total path_exact es ordered)) ∙ ap (λ m. filter_map (child_name dir) (map.keys m)) view
