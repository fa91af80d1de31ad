-- Places that are kept by numbers: of two of one number, the first.
use Rattle.std.proofs.Common.{◌≡◌, ◌≢◌, ◌∙◌, ℕ, ◌+◌, ◌-◌, ◌<◌, ◌≤◌, Bool, true, false, cond, if◌then◌else◌, List, [], ◌∷◌, drop, length, Option, Some, None, refl, sym, ap, nat_eq, arith}
use Rattle.std.specs.Prelude.{slice_get}
use Rattle.std.specs.List.{find}
use Rattle.std.specs.Ordering.{nat_cmp}
use Rattle.std.specs.FinMap.{FinMap, empty, get, get-empty, insert}
use Rattle.std.proofs.lemmas.Bool.{eqb-true, eq-eqb}
use Rattle.std.proofs.lemmas.List.{drop_all}
use Rattle.fs_model.proofs.Lookups.{insert_here, insert_other}
use Rattle.relation_map.specs.Places.{found_at}
use Rattle.relation_map.proofs.Lists.{split_at}

pub get_inserted : {X : Type 0} (m : FinMap nat_cmp X) (k q : ℕ) (x : X) → get (insert m k x) q ≡ (if nat_eq k q then Some x else get m q)
get_inserted {X} m k q x = by (nat_eq k q) refl
  where
    by : (b : Bool) → nat_eq k q ≡ b → get (insert m k x) q ≡ (if b then Some x else get m q)
    by true e = ap (get (insert m k x)) (sym (eqb-true k q e)) ∙ insert_here m k x
    by false e = insert_other m k x q (λ same. absurd (let yes_same = eq-eqb k q (sym same) in cc (yes_same, e)))

module _ {A : Type 0} (key : A → ℕ) (xs : List A) (q : ℕ) where
  pub places_first : (m : FinMap nat_cmp ℕ) (n : ℕ) → m ≡ empty → n ≡ length xs → found_at xs (get m q) ≡ find (λ x. nat_eq (key x) q) (drop (n - 0) xs)
  places_first m n is all =
      let whole : n - 0 ≡ n = omega arith in
      let le : length xs ≤ n = omega arith in
      ap (λ l. found_at xs (get l q)) is ∙ ap (found_at xs) (get-empty nat_cmp q) ∙ ap (find (λ x. nat_eq (key x) q)) (sym (drop_all n xs le) ∙ ap (λ k. drop k xs) (sym whole))

  chosen : (b : Bool) (place : ℕ) (x : A) (old : Option ℕ) (rest : Option A) → slice_get xs place ≡ Some x → found_at xs old ≡ rest → found_at xs (if b then Some place else old) ≡ cond b (Some x) rest
  chosen true place x old rest h so_far = h
  chosen false place x old rest h so_far = so_far

  -- one place more, from the end on
  pub places_next : (m next : FinMap nat_cmp ℕ) (n passed place : ℕ) (x : A) → passed < n → place ≡ n - 1 - passed → slice_get xs place ≡ Some x → next ≡ insert m (key x) place
      → found_at xs (get m q) ≡ find (λ y. nat_eq (key y) q) (drop (n - passed) xs)
      → found_at xs (get next q) ≡ find (λ y. nat_eq (key y) q) (drop (n - (passed + 1)) xs)
  places_next m next n passed place x lt is h grown so_far =
      let here : n - (passed + 1) ≡ place = omega arith in
      let behind : n - passed ≡ place + 1 = omega arith in
      ap (λ l. found_at xs (get l q)) grown ∙ ap (found_at xs) (get_inserted m (key x) q place)
      ∙ chosen (nat_eq (key x) q) place x (get m q) (find (λ y. nat_eq (key y) q) (drop (place + 1) xs)) h (so_far ∙ ap (λ k. find (λ y. nat_eq (key y) q) (drop k xs)) behind)
      ∙ ap (find (λ y. nat_eq (key y) q)) (sym (split_at xs place x h)) ∙ ap (λ k. find (λ y. nat_eq (key y) q) (drop k xs)) (sym here)

  pub places_all : (m : FinMap nat_cmp ℕ) (n passed : ℕ) → n ≤ passed → found_at xs (get m q) ≡ find (λ x. nat_eq (key x) q) (drop (n - passed) xs) → found_at xs (get m q) ≡ find (λ x. nat_eq (key x) q) xs
  places_all m n passed le so_far =
      let none : n - passed ≡ 0 = omega arith in
      so_far ∙ ap (λ k. find (λ x. nat_eq (key x) q) (drop k xs)) none
