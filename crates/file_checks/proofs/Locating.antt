-- Tablespaces that stand at a location of their own, gone through place by place.
use Rattle.std.proofs.Common.{◌≡◌, ◌∙◌, inl, inr, ℕ, ◌+◌, ◌<◌, ◌≤◌, Bool, true, false, cond, ◌||◌, List, [], ◌∷◌, ◌++◌, drop, take, length, Option, Some, None, refl, sym, ap, subst, arith, Decides, Bor}
use Rattle.std.specs.Prelude.{is_some, bytes_eq, slice_get}
use Rattle.std.specs.Option.{option_copied}
use Rattle.std.specs.List.{list_any}
use Rattle.std.specs.FinMap.{FinMap, empty, get, insert, get-empty, get-insert}
use Rattle.std.specs.Fmt.{decimal}
use Rattle.std.proofs.lemmas.List.{drop_all, take-append-drop}
use Rattle.std.proofs.lemmas.List.Folds.{list_any-append}
use Rattle.std.proofs.lemmas.List.Elements.{filter-append}
use Rattle.std.proofs.lemmas.Bool.{or_from}
use Rattle.std.proofs.Math.Bool.{or-false, or-true}
use Rattle.std.proofs.lemmas.Slice.Eq.{bytes_eq-Decides}
use Rattle.std.proofs.lemmas.Option.{slice_get-get_or}
use Rattle.fs_model.specs.Names.{Path, path_cmp, same_path}
use Rattle.fs_model.specs.PathLaws.{path_total, same_path_true, same_path_refl}
use Rattle.catalog.specs.declared.owners.Tablespace.{Tablespace}
use Rattle.crash_safety.specs.Places.{links_at}
use Rattle.fs_tools.specs.Children.{child_of}
use Rattle.tree_checks.specs.Findings.{IsFirstOf, IsFirstAmong}
use Rattle.file_checks.specs.Tablespaces.{is_placed, placed, link_of}
use Rattle.file_checks.specs.Kept.{AreLinks}
use Rattle.file_checks.proofs.Lists.{split_at, taken_at}

-- one more tablespace of which a test is true or not
pub any_more : (test : Tablespace → Bool) (before : List Tablespace) (t : Tablespace) → list_any test (placed (before ++ t ∷ [])) ≡ (list_any test (placed before) || list_any test (placed (t ∷ [])))
any_more test before t = ap (list_any test) (filter-append is_placed before (t ∷ [])) ∙ list_any-append test (placed before) (placed (t ∷ []))

-- `pg_default` is left out
pub none_of : (test : Tablespace → Bool) (t : Tablespace) → is_placed t ≡ false → list_any test (placed (t ∷ [])) ≡ false
none_of test t out = ap (λ b. list_any test (cond b (t ∷ []) [])) out

pub one_of : (test : Tablespace → Bool) (t : Tablespace) → is_placed t ≡ true → list_any test (placed (t ∷ [])) ≡ (test t || false)
one_of test t is = ap (λ b. list_any test (cond b (t ∷ []) [])) is

-- the first finding of lists one behind the other
pub first_both : {A : Type 0} (Finds : A → Option Path → Type 0) (xs ys : List A) (found : Option Path) → IsFirstOf (IsFirstAmong Finds xs) (IsFirstAmong Finds ys) found → IsFirstAmong Finds (xs ++ ys) found
first_both Finds [] ys None (none, rest) = rest
first_both Finds [] ys (Some path) (inl first) = absurd (cc first)
first_both Finds [] ys (Some path) (inr rest) = rest.1
first_both Finds (x ∷ xs) ys None (none, rest) = (none.0, first_both Finds xs ys None (none.1, rest))
first_both Finds (x ∷ xs) ys (Some path) (inl (inl here)) = inl here
first_both Finds (x ∷ xs) ys (Some path) (inl (inr later)) = inr (later.0, first_both Finds xs ys (Some path) (inl later.1))
first_both Finds (x ∷ xs) ys (Some path) (inr rest) = inr (rest.0.0, first_both Finds xs ys (Some path) (inr (rest.0.1, rest.1)))

-- nothing is found first, and this later
pub none_first : (First Later : Option Path → Type 0) (found : Option Path) → First None → Later found → IsFirstOf First Later found
none_first First Later None none later = (none, later)
none_first First Later (Some path) none later = inr (none, later)

-- the finding among these tablespaces and those behind them
pub placed_from : (Finds : Tablespace → Option Path → Type 0) (ts : List Tablespace) (i : ℕ) (t : Tablespace) (found : Option Path) → slice_get ts i ≡ Some t
    → IsFirstOf (IsFirstAmong Finds (placed (t ∷ []))) (IsFirstAmong Finds (placed (drop (i + 1) ts))) found → IsFirstAmong Finds (placed (drop i ts)) found
placed_from Finds ts i t found at first =
    subst (λ l. IsFirstAmong Finds l found) (sym (filter-append is_placed (t ∷ []) (drop (i + 1) ts)) ∙ ap placed (sym (split_at ts i t at)))
    (first_both Finds (placed (t ∷ [])) (placed (drop (i + 1) ts)) found first)

pub placed_end : (Finds : Tablespace → Option Path → Type 0) (ts : List Tablespace) (i : ℕ) → length ts ≤ i → IsFirstAmong Finds (placed (drop i ts)) None
placed_end Finds ts i all = subst (λ l. IsFirstAmong Finds (placed l) None) (sym (drop_all i ts all)) refl

-- paths of two names in one directory
child_same : (at : Path) (m n : List ℕ) → child_of at m ≡ child_of at n → m ≡ n
child_same [] m n same = cc same
child_same (a ∷ at) m n same = child_same at m n (cc same)

no_true : (b : Bool) → (b ≡ true → ⊥) → b ≡ false
no_true true never = absurd (never refl)
no_true false never = refl

pub same_child : (at : Path) (m n : List ℕ) → same_path (child_of at m) (child_of at n) ≡ bytes_eq m n
same_child at m n = by (bytes_eq m n) (bytes_eq-Decides m n)
  where
    by : (b : Bool) → Decides b (m ≡ n) → same_path (child_of at m) (child_of at n) ≡ b
    by true decides = ap (λ l. same_path (child_of at m) (child_of at l)) (sym (decides.0 refl)) ∙ same_path_refl (child_of at m)
    by false decides = no_true (same_path (child_of at m) (child_of at n)) (λ same. absurd (let e = decides.1 (child_same at m n (same_path_true (child_of at m) (child_of at n) same)) in cc e))

pub no_links : (old : Path) (m : FinMap path_cmp (Unit {0})) → m ≡ empty → AreLinks old [] m
no_links old m is name = ap is_some (ap (λ l. get l (child_of (links_at old) name)) is ∙ get-empty path_cmp (child_of (links_at old) name))

pub link_added : (old : Path) (before : List Tablespace) (t : Tablespace) (m next : FinMap path_cmp (Unit {0})) (link : Path) (v : Unit {0}) → is_placed t ≡ true → link ≡ link_of old t → next ≡ insert m link v → AreLinks old before m → AreLinks old (before ++ t ∷ []) next
link_added old before t m next link v is at grown links name =
    let here : Path = child_of (links_at old) name in
    let test : Tablespace → Bool = λ tablespace. bytes_eq name (decimal tablespace.oid) in
    let linked : link ≡ child_of (links_at old) (decimal t.oid) = at in
    ap is_some (ap (λ (l : FinMap path_cmp (Unit {0})). get l here) grown ∙ get-insert path_total m link v here)
    ∙ ap (λ l. is_some (cond (same_path here l) (Some v) (get m here))) linked
    ∙ ap (λ b. is_some (cond b (Some v) (get m here))) (same_child (links_at old) name (decimal t.oid))
    ∙ some_or (test t) v (get m here)
    ∙ ap (λ b. b || test t) (links name)
    ∙ ap (λ b. list_any test (placed before) || b) (sym (one_of test t is ∙ or-false (test t)))
    ∙ sym (any_more test before t)
  where
    some_or : (b : Bool) (v : Unit {0}) (other : Option (Unit {0})) → is_some (cond b (Some v) other) ≡ (is_some other || b)
    some_or true v None = refl
    some_or true v (Some w) = refl
    some_or false v None = refl
    some_or false v (Some w) = refl

pub link_left_out : (old : Path) (before : List Tablespace) (t : Tablespace) (m : FinMap path_cmp (Unit {0})) → is_placed t ≡ false → AreLinks old before m → AreLinks old (before ++ t ∷ []) m
link_left_out old before t m out links name =
    let test : Tablespace → Bool = λ tablespace. bytes_eq name (decimal tablespace.oid) in
    links name ∙ sym (or-false (list_any test (placed before))) ∙ ap (λ b. list_any test (placed before) || b) (sym (none_of test t out)) ∙ sym (any_more test before t)

-- a test that one of them passes, and one that none up to a place passes
pub any_here : (test : Tablespace → Bool) (ts : List Tablespace) (i : ℕ) (t : Tablespace) → slice_get ts i ≡ Some t → list_any test (placed (t ∷ [])) ≡ true → list_any test (placed ts) ≡ true
any_here test ts i t at passes =
    ap (λ l. list_any test (placed l)) (sym (take-append-drop i ts) ∙ ap (λ l. take i ts ++ l) (split_at ts i t at))
    ∙ ap (list_any test) (filter-append is_placed (take i ts) (t ∷ drop (i + 1) ts)) ∙ list_any-append test (placed (take i ts)) (placed (t ∷ drop (i + 1) ts))
    ∙ ap (λ b. list_any test (placed (take i ts)) || b)
    (ap (list_any test) (filter-append is_placed (t ∷ []) (drop (i + 1) ts)) ∙ list_any-append test (placed (t ∷ [])) (placed (drop (i + 1) ts)) ∙ ap (λ b. b || list_any test (placed (drop (i + 1) ts))) passes)
    ∙ or-true (list_any test (placed (take i ts)))

pub any_not : (test : Tablespace → Bool) (ts : List Tablespace) (i : ℕ) (t : Tablespace) → slice_get ts i ≡ Some t → list_any test (placed (t ∷ [])) ≡ false → list_any test (placed (take i ts)) ≡ false → list_any test (placed (take (i + 1) ts)) ≡ false
any_not test ts i t at fails so_far = ap (λ l. list_any test (placed l)) (taken_at ts i t at) ∙ any_more test (take i ts) t ∙ or_from _ _ so_far fails

-- a place below the length has an item
pub no_item : {A : Type 0} (xs : List A) (i : ℕ) → i < length xs → slice_get xs i ≡ None → ⊥
no_item [] i below none = absurd (omega (arith, below))
no_item (x ∷ xs) i below none = absurd (let e = sym (slice_get-get_or (x ∷ xs) i x below) ∙ none in cc e)

pub copied_some : {T : Type 0} (o : Option (Bor T)) → is_some (option_copied o) ≡ is_some o
copied_some None = refl
copied_some (Some x) = refl
