-- What `find` gives is the first that passes.
use Rattle.std.proofs.Common.{◌≡◌, ◌∙◌, Bool, true, false, ◌||◌, List, [], ◌∷◌, ◌++◌, Option, Some, None, cond, refl, sym, ap}
use Rattle.std.specs.List.{find, list_any}
use Rattle.catalog_checks.specs.First.{IsFirst}

module _ {A : Type 0} (p : A → Bool) where
  found_from : (y x : A) (ys : List A) (b : Bool) → p y ≡ b → (find p ys ≡ Some x → IsFirst p ys x) → cond b (Some y) (find p ys) ≡ Some x → IsFirst p (y ∷ ys) x
  found_from y x ys true is behind same =
      let here : y ≡ x = cc same in
      record { before = []; behind = ys; stands = ap (λ z. z ∷ ys) here; passes = ap p (sym here) ∙ is; none = refl }
  found_from y x ys false is behind same =
      let rest : IsFirst p ys x = behind same in
      record {
        before = y ∷ rest.before;
        behind = rest.behind;
        stands = ap (λ zs. y ∷ zs) rest.stands;
        passes = rest.passes;
        none = ap (λ b. b || list_any p rest.before) is ∙ rest.none;
      }

  pub found_first : (xs : List A) (x : A) → find p xs ≡ Some x → IsFirst p xs x
  found_first [] x found = absurd (cc found)
  found_first (y ∷ ys) x found = found_from y x ys (p y) refl (found_first ys x) found

  found_behind : (before : List A) (x : A) (behind : List A) → p x ≡ true → list_any p before ≡ false → find p (before ++ x ∷ behind) ≡ Some x
  found_behind [] x behind passes none = ap (λ b. cond b (Some x) (find p behind)) passes
  found_behind (y ∷ before) x behind passes none =
      ap (λ b. cond b (Some y) (find p (before ++ x ∷ behind))) (first (p y) (list_any p before) none)
      ∙ found_behind before x behind passes (second (p y) (list_any p before) none)
    where
      first : (a b : Bool) → (a || b) ≡ false → a ≡ false
      first true b e = e
      first false b e = refl

      second : (a b : Bool) → (a || b) ≡ false → b ≡ false
      second true b e = absurd (cc e)
      second false b e = e

  pub first_found : (xs : List A) (x : A) → IsFirst p xs x → find p xs ≡ Some x
  first_found xs x first = ap (find p) first.stands ∙ found_behind first.before x first.behind first.passes first.none
