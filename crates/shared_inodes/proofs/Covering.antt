-- Directories in ascending order, without those that are under others.
use Rattle.std.proofs.Common.{◌≡◌, ◌≢◌, ◌↔◌, ◌∙◌, ◌<◌, ◌≤◌, ◌⊎◌, inl, inr, ℕ, zero, suc, Bool, true, false, cond, List, [], ◌∷◌, ◌++◌, length, get_or, refl, sym, ap, subst, arith, append_assoc}
use Rattle.std.specs.Prelude.{Contains, slice_index_or}
use Rattle.std.specs.List.{AllByRecursion, dedup, dedup_from}
use Rattle.std.specs.List.Sorted.{IsSorted, IsPermutation}
use Rattle.std.specs.Ordering.{is_lt, nat_cmp, ordering_reverse, ordering_then}
use Rattle.std.specs.Cmp.Lexicographic.{slice_cmp}
use Rattle.std.specs.declared.cmp.Ordering.{Ordering}
use Rattle.std.specs.declared.cmp.Ordering.TheVariants.{Less, Equal, Greater}
use Rattle.std.specs.FinMap.{nat_cmp-IsAntisymmetric, slice_cmp-IsAntisymmetric}
use Rattle.std.proofs.lemmas.List.Sorted.{Contains-permutation, IsPermutation-sym, sorted_far}
use Rattle.fs_model.specs.Names.{Path, path_cmp, IsUnder, is_under}
use Rattle.std.proofs.lemmas.List.MinMax.{ranks_by}
use Rattle.fs_model.proofs.Prefixes.{is_under_true, is_under_made}
use Rattle.fs_model.specs.PathLaws.{path_total, path_exact}
use Rattle.crash_safety.specs.Frame.{IsInside}
use Rattle.fs_tools.proofs.Making.{append-nil}
use Rattle.shared_inodes.specs.Regions.{IsBefore, AreInTurn, Cover}

-- each path is not less than those before it
abbrev pub IsOrdered : List Path → Type 0
IsOrdered [] = Unit {0}
IsOrdered (x ∷ xs) = AllByRecursion (λ y. path_cmp y x ≢ Less) xs × IsOrdered xs

all_at : (P : Path → Type 0) (xs : List Path) → ((k : ℕ) (d : Path) → k < length xs → P (get_or xs k d)) → AllByRecursion P xs
all_at P [] each = tt
all_at P (x ∷ xs) each = (each 0 x (omega arith), all_at P xs (λ k d below. each (suc k) d (omega (arith, below))))

ordered : (xs : List Path) → ((i j : ℕ) (d : Path) → i ≤ j → j < length xs → is_lt (path_cmp (get_or xs j d) (get_or xs i d)) ≡ false) → IsOrdered xs
ordered [] far = tt
ordered (x ∷ xs) far = (
  all_at (λ y. path_cmp y x ≢ Less) xs (λ k d below less. (let not = far 0 (suc k) d (omega arith) (omega (arith, below)) in cc (not, less))),
  ordered xs (λ i j d le below. far (suc i) (suc j) d (omega (arith, le)) (omega (arith, below))),
)

-- all under a path is before all under a greater one that isn't under it
before : (k x p q : Path) → path_cmp k x ≡ Less → (IsUnder k x → ⊥) → path_cmp (k ++ p) (x ++ q) ≡ Less
before [] x p q less apart = absurd (apart (x, refl))
before (a ∷ k) [] p q less apart = absurd (cc less)
before (a ∷ k) (b ∷ x) p q less apart = of (slice_cmp nat_cmp a b) refl less (λ inner away. before k x p q inner away)
  where
    of : (o : Ordering) → slice_cmp nat_cmp a b ≡ o → ordering_then o (path_cmp k x) ≡ Less → (path_cmp k x ≡ Less → (IsUnder k x → ⊥) → path_cmp (k ++ p) (x ++ q) ≡ Less) → path_cmp ((a ∷ k) ++ p) ((b ∷ x) ++ q) ≡ Less
    of Less is less next = ap (λ o. ordering_then o (path_cmp (k ++ p) (x ++ q))) is
    of Equal is less next =
        let same : a ≡ b = slice_cmp-IsAntisymmetric nat_cmp-IsAntisymmetric a b is in
        ap (λ o. ordering_then o (path_cmp (k ++ p) (x ++ q))) is ∙ next less (λ under. apart (under.0, λ i. sym same i ∷ under.1 i))
    of Greater is less next = absurd (cc less)

-- of the three ways in which two paths lie, what isn't less is equal or greater
is_before : (k x : Path) → path_cmp x k ≢ Less → (IsUnder k x → ⊥) → IsBefore k x
is_before k x not_less apart p q = of (path_cmp x k) refl
  where
    of : (o : Ordering) → path_cmp x k ≡ o → path_cmp (k ++ p) (x ++ q) ≡ Less
    of Less is = absurd (not_less is)
    of Equal is = absurd (apart ([], path_exact x k is ∙ sym (append-nil k)))
    of Greater is = before k x p q (path_total.antisymm k x ∙ ap ordering_reverse is) apart

-- what isn't less than a path that is behind another is behind it too
still_before : (k x z : Path) → IsBefore k x → path_cmp z x ≢ Less → IsBefore k z
still_before k x z first not_less = is_before k z (λ less. of (path_cmp z x) refl less) (λ under. inside under)
  where
    start : path_cmp k x ≡ Less
    start = (λ i. path_cmp (sym (append-nil k) i) (sym (append-nil x) i)) ∙ first [] []

    of : (o : Ordering) → path_cmp z x ≡ o → path_cmp z k ≡ Less → ⊥
    of Less is less = not_less is
    of Equal is less = not_less (path_total.trans z k x less start)
    of Greater is less = not_less (path_total.trans z k x less start)

    inside : IsUnder k z → ⊥
    inside (rest, is) = not_less ((λ i. path_cmp (is i) (sym (append-nil x) i)) ∙ first rest [])

-- a later path goes where it is under the last one that was kept
abbrev pub goes : Path → Path → Bool
goes x kept = is_under kept x

all_kept : (P : Path → Type 0) (k : Path) (xs : List Path) → P k → AllByRecursion P xs → AllByRecursion P (dedup_from goes k xs)
all_kept P k [] first rest = (first, tt)
all_kept P k (x ∷ xs) first rest =
    elim (goes x k) as (λ b. AllByRecursion P (cond b (dedup_from goes k xs) (k ∷ dedup_from goes x xs))) [
      | true ↦ all_kept P k xs first rest.1
      | false ↦ (first, all_kept P x xs rest.0 rest.1)
    ]

all_map : (P Q : Path → Type 0) → ((p : Path) → P p → Q p) → (xs : List Path) → AllByRecursion P xs → AllByRecursion Q xs
all_map P Q to [] all = tt
all_map P Q to (x ∷ xs) all = (to x all.0, all_map P Q to xs all.1)

in_turn_from : (k : Path) (xs : List Path) → AllByRecursion (λ y. path_cmp y k ≢ Less) xs → IsOrdered xs → AreInTurn (dedup_from goes k xs)
in_turn_from k [] least order = (tt, tt)
in_turn_from k (x ∷ xs) least order =
    elim (goes x k) as (λ b. goes x k ≡ b → AreInTurn (cond b (dedup_from goes k xs) (k ∷ dedup_from goes x xs))) [
      | true ↦ λ _. in_turn_from k xs least.1 order.1
      | false ↦ λ apart.
          let first : IsBefore k x = is_before k x least.0 (λ under. (let yes = is_under_made k x under in cc (yes, apart))) in
          (all_kept (IsBefore k) x xs first (all_map (λ y. path_cmp y x ≢ Less) (IsBefore k) (λ y not_less. still_before k x y first not_less) xs order.0), in_turn_from x xs order.0 order.1)
    ] refl

under_under : (top dir path : Path) → IsUnder top dir → IsUnder dir path → IsUnder top path
under_under top dir path (front, is) (rest, whole) = (front ++ rest, whole ∙ ap (λ d. d ++ rest) is ∙ append_assoc top front rest)

inside_kept : (k : Path) (xs : List Path) (path : Path) → IsInside (dedup_from goes k xs) path ↔ IsInside (k ∷ xs) path
inside_kept k [] path = (λ there. there, λ there. there)
inside_kept k (x ∷ xs) path =
    elim (goes x k) as (λ b. goes x k ≡ b → IsInside (cond b (dedup_from goes k xs) (k ∷ dedup_from goes x xs)) path ↔ (IsUnder k path ⊎ (IsUnder x path ⊎ IsInside xs path))) [
      | true ↦ λ under. (
        λ there. elim ((inside_kept k xs path).0 there) [ inl here ↦ inl here | inr later ↦ inr (inr later) ],
        λ there. (inside_kept k xs path).1 (elim there [ inl here ↦ inl here | inr rest ↦ elim rest [ inl same ↦ inl (under_under k x path (is_under_true k x under) same) | inr later ↦ inr later ] ]),
      )
      | false ↦ λ _. (
        λ there. elim there [ inl here ↦ inl here | inr later ↦ inr ((inside_kept x xs path).0 later) ],
        λ there. elim there [ inl here ↦ inl here | inr later ↦ inr ((inside_kept x xs path).1 later) ],
      )
    ] refl

-- a path is inside directories exactly if it is under one of them
inside_one : (tops : List Path) (path : Path) → IsInside tops path → (top : Path) × Contains tops top × IsUnder top path
inside_one [] path none = absurd none
inside_one (top ∷ tops) path (inl here) = (top, (0, omega arith, refl), here)
inside_one (top ∷ tops) path (inr there) = let (other, (k, below, is), under) = inside_one tops path there in (other, (suc k, omega (arith, below), is), under)

one_inside : (tops : List Path) (path top : Path) (k : ℕ) → k < length tops → slice_index_or tops k top ≡ top → IsUnder top path → IsInside tops path
one_inside [] path top k below is under = absurd (omega (arith, below))
one_inside (other ∷ tops) path top zero below is under = inl (subst (λ t. IsUnder t path) (sym is) under)
one_inside (other ∷ tops) path top (suc k) below is under = inr (one_inside tops path top k (omega (arith, below)) is under)

inside_moved : (xs ys : List Path) (path : Path) → IsPermutation xs ys → IsInside xs path → IsInside ys path
inside_moved xs ys path moved there =
    let (top, among, under) = inside_one xs path there in
    let (k, below, is) = Contains-permutation xs ys top moved among in
    one_inside ys path top k below is under

-- directories that are put in order and then rid of those under others cover what they did
pub covered : (given order kept : List Path) → IsPermutation given order → IsSorted path_cmp order → kept ≡ dedup goes order → Cover given kept
covered given order kept moved sorted is = subst (Cover given) (sym is) (record { in_turn = turn order (ordered order (λ i j d le below. sorted_far (λ x y. is_lt (path_cmp x y)) (ranks_by path_total (λ p. p)) order sorted i j d le below)); same = both })
  where
    turn : (xs : List Path) → IsOrdered xs → AreInTurn (dedup goes xs)
    turn [] order = tt
    turn (x ∷ xs) order = in_turn_from x xs order.0 order.1

    same : (xs : List Path) (path : Path) → IsInside (dedup goes xs) path ↔ IsInside xs path
    same [] path = (λ there. there, λ there. there)
    same (x ∷ xs) path = inside_kept x xs path

    both : (path : Path) → IsInside (dedup goes order) path ↔ IsInside given path
    both path = (λ there. inside_moved order given path (IsPermutation-sym given order moved) ((same order path).0 there), λ there. (same order path).1 (inside_moved given order path moved there))
