-- The first finding among several.
use Rattle.std.proofs.Common.{◌≡◌, ◌<◌, ◌≤◌, ◌+◌, ◌∙◌, inl, inr, ℕ, Bool, true, false, cond, List, [], ◌∷◌, drop, length, get_or, Option, Some, None, refl, sym, ap, subst, arith, add-one}
use Rattle.std.proofs.Math.Seq.{drop-cons}
use Rattle.std.proofs.lemmas.Grind.{common_steps}
use Rattle.std.specs.List.{find}
use Rattle.fs_model.specs.Names.{Path}
use Rattle.tree_checks.specs.Findings.{IsFirstAmong}

module _ {A : Type 0} (xs : List A) (i : ℕ) (x : A) (below : i < length xs) (is : x ≡ get_or xs i x) where
  pub next_of : drop i xs ≡ x ∷ drop (i + 1) xs
  next_of = drop-cons xs i x below ∙ (λ j. sym is j ∷ drop (sym (add-one i) j) xs)

  -- the search goes on behind what doesn't pass
  pub find_on : (test : A → Bool) → test x ≡ false → find test xs ≡ find test (drop i xs) → find test xs ≡ find test (drop (i + 1) xs)
  find_on test fails so_far = so_far ∙ ap (find test) next_of ∙ ap (λ b. cond b (Some x) (find test (drop (i + 1) xs))) fails

  -- and ends at what does
  pub find_here : (test : A → Bool) → test x ≡ true → find test xs ≡ find test (drop i xs) → find test xs ≡ Some x
  find_here test passes so_far = so_far ∙ ap (find test) next_of ∙ ap (λ b. cond b (Some x) (find test (drop (i + 1) xs))) passes

  pub first_on : (Finds : A → Option Path → Type 0) → Finds x None → ((found : Option Path) → IsFirstAmong Finds (drop i xs) found → IsFirstAmong Finds xs found)
      → (found : Option Path) → IsFirstAmong Finds (drop (i + 1) xs) found → IsFirstAmong Finds xs found
  first_on Finds none so_far found rest = so_far found (subst (λ l. IsFirstAmong Finds l found) (sym next_of) (here found rest))
    where
      here : (found : Option Path) → IsFirstAmong Finds (drop (i + 1) xs) found → IsFirstAmong Finds (x ∷ drop (i + 1) xs) found
      here None rest = (none, rest)
      here (Some path) rest = inr (none, rest)

  pub first_here : (Finds : A → Option Path → Type 0) (path : Path) → Finds x (Some path) → ((found : Option Path) → IsFirstAmong Finds (drop i xs) found → IsFirstAmong Finds xs found) → IsFirstAmong Finds xs (Some path)
  first_here Finds path has so_far = so_far (Some path) (subst (λ l. IsFirstAmong Finds l (Some path)) (sym next_of) (inl has))

module _ {A : Type 0} (xs : List A) (i : ℕ) (all : length xs ≤ i) where
  pub none_left : drop i xs ≡ []
  none_left = drop_all i xs all
    where
      drop_all : (i : ℕ) (xs : List A) → length xs ≤ i → drop i xs ≡ []
      drop_all i [] all = grind (arith, common_steps)
      drop_all i (x ∷ xs) all = grind (arith, common_steps)

  pub find_ends : (test : A → Bool) → find test xs ≡ find test (drop i xs) → find test xs ≡ None
  find_ends test so_far = so_far ∙ ap (find test) none_left

  pub first_ends : (Finds : A → Option Path → Type 0) → ((found : Option Path) → IsFirstAmong Finds (drop i xs) found → IsFirstAmong Finds xs found) → IsFirstAmong Finds xs None
  first_ends Finds so_far = so_far None (subst (λ l. IsFirstAmong Finds l None) (sym none_left) refl)
