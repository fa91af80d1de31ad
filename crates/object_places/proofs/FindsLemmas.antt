-- What a look-up that finds each object says of the list, and how it stays so.
use Rattle.std.proofs.Common.{◌≡◌, ℕ, zero, suc, length, set, Bool, true, false, cond, List, [], ◌∷◌, ◌++◌, Option, Some, None, refl, sym, ap, ◌∙◌, ◌⊎◌, inl, inr, arith}
use Rattle.std.specs.Prelude.{◌||◌, slice_get}
use Rattle.std.specs.List.{list_any, find}
use Rattle.object_places.specs.Finds.{Finds, object_at, passes, passing}

-- ---- an object that passes, and where it stands

any_at : {A : Type 0} (p : A → Bool) (xs : List A) → list_any p xs ≡ true → (i : ℕ) × (x : A) × (slice_get xs i ≡ Some x) × (p x ≡ true)
any_at p [] h = cc
any_at {A = A} p (x ∷ xs) h = more (p x) refl h (any_at p xs)
  where
    more : (b : Bool) → p x ≡ b → (b || list_any p xs) ≡ true → (list_any p xs ≡ true → (i : ℕ) × (y : A) × (slice_get xs i ≡ Some y) × (p y ≡ true)) → (i : ℕ) × (y : A) × (slice_get (x ∷ xs) i ≡ Some y) × (p y ≡ true)
    more true e k rest = (0, x, refl, e)
    more false e k rest = let r = rest k in (suc r.0, r.1, r.2, r.3)

pub any_from : {A : Type 0} (p : A → Bool) (xs : List A) (i : ℕ) (x : A) → slice_get xs i ≡ Some x → p x ≡ true → list_any p xs ≡ true
any_from p [] i x h k = cc
any_from {A = A} p (y ∷ xs) zero x h k =
    let same : y ≡ x = cc in
    ap (λ b. b || list_any p xs) (ap p same ∙ k)
any_from p (y ∷ xs) (suc i) x h k = or_true (p y) (list_any p xs) (any_from p xs i x h k)
  where
    or_true : (a b : Bool) → b ≡ true → (a || b) ≡ true
    or_true true b l = refl
    or_true false b l = l

find_at : {A : Type 0} (p : A → Bool) (xs : List A) (x : A) → find p xs ≡ Some x → (i : ℕ) × (slice_get xs i ≡ Some x) × (p x ≡ true)
find_at p [] x h = cc
find_at {A = A} p (y ∷ xs) x h = more (p y) refl h (find_at p xs x)
  where
    more : (b : Bool) → p y ≡ b → cond b (Some y) (find p xs) ≡ Some x → (find p xs ≡ Some x → (i : ℕ) × (slice_get xs i ≡ Some x) × (p x ≡ true)) → (i : ℕ) × (slice_get (y ∷ xs) i ≡ Some x) × (p x ≡ true)
    more true e k rest =
        let same : y ≡ x = cc in
        (0, k, ap p (sym same) ∙ e)
    more false e k rest = let r = rest k in (suc r.0, r.1, r.2)

find_none : {A : Type 0} (p : A → Bool) (xs : List A) → find p xs ≡ None → list_any p xs ≡ false
find_none p [] h = refl
find_none p (y ∷ xs) h = more (p y) h (find_none p xs)
  where
    more : (b : Bool) → cond b (Some y) (find p xs) ≡ None → (find p xs ≡ None → list_any p xs ≡ false) → (b || list_any p xs) ≡ false
    more true k rest = cc
    more false k rest = rest k

same_bool : (a b : Bool) → (a ≡ true → b ≡ true) → (b ≡ true → a ≡ true) → a ≡ b
same_bool true b there back = sym (there refl)
same_bool false true there back = back refl
same_bool false false there back = refl

passes_at : {A : Type 0} (p : A → Bool) (xs : List A) (o : Option ℕ) → passes p (object_at xs o) ≡ true → list_any p xs ≡ true
passes_at p xs None h = cc
passes_at {A = A} p xs (Some i) h = more (slice_get xs i) refl h
  where
    more : (o : Option A) → slice_get xs i ≡ o → passes p o ≡ true → list_any p xs ≡ true
    more None e k = cc
    more (Some x) e k = any_from p xs i x e k

passing_here : {A : Type 0} (p : A → Bool) (x : A) → p x ≡ true → passing p (Some x) ≡ Some x
passing_here p x h = rw h refl

passing_none : {A : Type 0} (p : A → Bool) (o : Option A) → passes p o ≡ false → passing p o ≡ None
passing_none p None h = refl
passing_none p (Some x) h = rw h refl

-- ---- a test over the list, by a look-up

module _ {K A : Type 0} {place : K → Option ℕ} {has : K → A → Bool} where
  -- whether an object passes a test that no other object than that of the key does
  pub any_known : (xs : List A) → Finds place has xs → (p : A → Bool) (k : K) → ((x : A) → p x ≡ true → has k x ≡ true) → list_any p xs ≡ passes p (object_at xs (place k))
  any_known xs finds p k implies = same_bool _ _ there (passes_at p xs (place k))
    where
      there : list_any p xs ≡ true → passes p (object_at xs (place k)) ≡ true
      there h =
          let r = any_at p xs h in
          ap (λ o. passes p (object_at xs o)) (finds r.0 r.1 k r.2 (implies r.1 r.3)) ∙ ap (passes p) r.2 ∙ r.3

  -- the first object that passes it
  pub find_known : (xs : List A) → Finds place has xs → (p : A → Bool) (k : K) → ((x : A) → p x ≡ true → has k x ≡ true) → find p xs ≡ passing p (object_at xs (place k))
  find_known xs finds p k implies = more (find p xs) refl
    where
      more : (o : Option A) → find p xs ≡ o → o ≡ passing p (object_at xs (place k))
      more None e = sym (passing_none p (object_at xs (place k)) (sym (any_known xs finds p k implies) ∙ find_none p xs e))
      more (Some x) e =
          let r = find_at p xs x e in
          sym (ap (λ o. passing p (object_at xs o)) (finds r.0 x k r.1 (implies x r.2)) ∙ ap (passing p) r.1 ∙ passing_here p x r.2)

  -- ---- a list that grows

  -- keys that no object has may be led elsewhere
  pub kept : (xs : List A) (changed : K → Bool) (after : K → Option ℕ) → Finds place has xs → ((k : K) → changed k ≡ false → after k ≡ place k) → ((k : K) → changed k ≡ true → list_any (has k) xs ≡ false) → Finds after has xs
  kept xs changed after finds others unused i x k at h = more (changed k) refl
    where
      more : (b : Bool) → changed k ≡ b → after k ≡ Some i
      more false e = others k e ∙ finds i x k at h
      more true e = let clash : list_any (has k) xs ≡ true = any_from (has k) xs i x at h in let never : list_any (has k) xs ≡ false = unused k e in cc

last_or_before : {A : Type 0} (xs : List A) (x y : A) (i : ℕ) → slice_get (xs ++ x ∷ []) i ≡ Some y → (slice_get xs i ≡ Some y) ⊎ ((i ≡ length xs) × (x ≡ y))
last_or_before [] x y zero h = let same : x ≡ y = cc in inr (refl, same)
last_or_before [] x y (suc i) h = cc
last_or_before (z ∷ xs) x y zero h = inl h
last_or_before {A = A} (z ∷ xs) x y (suc i) h = elim (last_or_before xs x y i h) [ inl e ↦ inl e | inr e ↦ inr (omega (arith, e.0), e.1) ]

module _ {K A : Type 0} {place : K → Option ℕ} {has : K → A → Bool} where
  -- an object whose keys lead to the end may stand there
  pub pushed : (xs : List A) (x : A) → Finds place has xs → ((k : K) → has k x ≡ true → place k ≡ Some (length xs)) → Finds place has (xs ++ x ∷ [])
  pushed xs x finds placed i y k at h = more (last_or_before xs x y i at)
    where
      more : (slice_get xs i ≡ Some y) ⊎ ((i ≡ length xs) × (x ≡ y)) → place k ≡ Some i
      more (inl e) = finds i y k e h
      more (inr e) = placed k (ap (has k) e.1 ∙ h) ∙ ap Some (sym e.0)

-- ---- what was found at the place

pub shown : {A : Type 0} (p : A → Bool) (xs : List A) (o : Option ℕ) (x : A) → find p xs ≡ passing p (object_at xs o) → Some x ≡ object_at xs o → p x ≡ true → Some x ≡ find p xs
shown p xs o x known at h = sym (known ∙ ap (passing p) (sym at) ∙ passing_here p x h)

pub hidden : {A : Type 0} (p : A → Bool) (xs : List A) (o : Option ℕ) (x : A) → find p xs ≡ passing p (object_at xs o) → Some x ≡ object_at xs o → p x ≡ false → None ≡ find p xs
hidden p xs o x known at h = sym (known ∙ ap (passing p) (sym at) ∙ passing_none p (Some x) h)

pub absent : {A : Type 0} (p : A → Bool) (xs : List A) (o : Option ℕ) → find p xs ≡ passing p (object_at xs o) → None ≡ object_at xs o → None ≡ find p xs
absent p xs o known at = sym (known ∙ ap (passing p) (sym at))

pub any_shown : {A : Type 0} (p : A → Bool) (xs : List A) (o : Option ℕ) (x : A) → list_any p xs ≡ passes p (object_at xs o) → Some x ≡ object_at xs o → p x ≡ list_any p xs
any_shown p xs o x known at = sym (known ∙ ap (passes p) (sym at))

pub any_absent : {A : Type 0} (p : A → Bool) (xs : List A) (o : Option ℕ) → list_any p xs ≡ passes p (object_at xs o) → None ≡ object_at xs o → false ≡ list_any p xs
any_absent p xs o known at = sym (known ∙ ap (passes p) (sym at))

-- ---- an object changed at its place

changed_or_not : {A : Type 0} (xs : List A) (i : ℕ) (y z : A) (j : ℕ) → slice_get (set xs i y) j ≡ Some z → (slice_get xs j ≡ Some z) ⊎ ((j ≡ i) × (y ≡ z))
changed_or_not [] i y z j h = inl h
changed_or_not (x ∷ xs) zero y z zero h = let same : y ≡ z = cc in inr (refl, same)
changed_or_not (x ∷ xs) zero y z (suc j) h = inl h
changed_or_not (x ∷ xs) (suc i) y z zero h = inl h
changed_or_not {A = A} (x ∷ xs) (suc i) y z (suc j) h = elim (changed_or_not xs i y z j h) [ inl e ↦ inl e | inr e ↦ inr (omega (arith, e.0), e.1) ]

module _ {K A : Type 0} {place : K → Option ℕ} {has : K → A → Bool} where
  -- an object may be changed at the place to which the keys of the new one lead
  pub changed : (xs : List A) (i : ℕ) (y : A) → Finds place has xs → ((k : K) → has k y ≡ true → place k ≡ Some i) → Finds place has (set xs i y)
  changed xs i y finds placed j z k at h = more (changed_or_not xs i y z j at)
    where
      more : (slice_get xs j ≡ Some z) ⊎ ((j ≡ i) × (y ≡ z)) → place k ≡ Some j
      more (inl e) = finds j z k e h
      more (inr e) = placed k (ap (has k) e.1 ∙ h) ∙ ap Some (sym e.0)
