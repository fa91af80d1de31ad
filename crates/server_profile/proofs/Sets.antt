-- Sets of the numbers of a list's items, grown item by item.
use Rattle.std.proofs.Common.{◌≡◌, ◌∙◌, ◌<◌, ◌+◌, ℕ, Bool, true, false, ◌||◌, List, ◌∷◌, drop, length, slice_index_or, Some, subst, refl, sym, ap, nat_eq}
use Rattle.std.specs.Prelude.{is_some}
use Rattle.std.specs.List.{list_any}
use Rattle.std.specs.Ordering.{nat_cmp}
use Rattle.std.specs.FinMap.{FinMap, empty, get, get-empty, insert, contains_key}
use Rattle.std.proofs.lemmas.Bool.{eqb-true, eq-eqb}
use Rattle.fs_model.proofs.Lookups.{insert_here, insert_other}
use Rattle.std.proofs.lemmas.List.{drop_more}

contains_insert : (m : FinMap nat_cmp (Unit {0})) (k oid : ℕ) → contains_key (insert m k tt) oid ≡ (nat_eq k oid || contains_key m oid)
contains_insert m k oid = by (nat_eq k oid) refl
  where
    by : (b : Bool) → nat_eq k oid ≡ b → contains_key (insert m k tt) oid ≡ (b || contains_key m oid)
    by true e = ap (λ j. is_some (get (insert m k tt) j)) (sym (eqb-true k oid e)) ∙ ap is_some (insert_here m k tt)
    by false e = ap is_some (insert_other m k tt oid (λ same. absurd (let yes_same = eq-eqb k oid (sym same) in cc (yes_same, e))))

shuffled : (a b c : Bool) → ((a || b) || c) ≡ (b || (a || c))
shuffled true true c = refl
shuffled true false c = refl
shuffled false true c = refl
shuffled false false c = refl

module _ {X : Type 0} (key : X → ℕ) (xs : List X) (oid : ℕ) where
  pub set_first : (m : FinMap nat_cmp (Unit {0})) → m ≡ empty → (contains_key m oid || list_any (λ y. nat_eq (key y) oid) (drop 0 xs)) ≡ list_any (λ y. nat_eq (key y) oid) xs
  set_first m is =
      ap (λ n. contains_key n oid || list_any (λ y. nat_eq (key y) oid) (drop 0 xs)) is
      ∙ ap (λ found. is_some found || list_any (λ y. nat_eq (key y) oid) (drop 0 xs)) (get-empty nat_cmp oid)

  -- one item more
  pub set_next : (m next : FinMap nat_cmp (Unit {0})) (i : ℕ) (x : X) (ys : List X) → ys ≡ xs → i < length ys → x ≡ slice_index_or ys i x → next ≡ insert m (key x) tt
      → (contains_key m oid || list_any (λ y. nat_eq (key y) oid) (drop i xs)) ≡ list_any (λ y. nat_eq (key y) oid) xs
      → (contains_key next oid || list_any (λ y. nat_eq (key y) oid) (drop (i + 1) xs)) ≡ list_any (λ y. nat_eq (key y) oid) xs
  set_next m next i x ys same below is grown so_far =
      let place : drop i xs ≡ x ∷ drop (i + 1) xs = subst (λ l. drop i l ≡ x ∷ drop (i + 1) l) same (drop_more ys i x below ∙ ap (λ y. y ∷ drop (i + 1) ys) (sym is)) in
      ap (λ n. contains_key n oid || list_any (λ y. nat_eq (key y) oid) (drop (i + 1) xs)) grown
      ∙ ap (λ b. b || list_any (λ y. nat_eq (key y) oid) (drop (i + 1) xs)) (contains_insert m (key x) oid)
      ∙ shuffled (nat_eq (key x) oid) (contains_key m oid) (list_any (λ y. nat_eq (key y) oid) (drop (i + 1) xs))
      ∙ ap (λ l. contains_key m oid || list_any (λ y. nat_eq (key y) oid) l) (sym place) ∙ so_far
