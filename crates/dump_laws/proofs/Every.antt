-- A property of each entry of a list.
use Rattle.std.proofs.Common.{◌≡◌, ℕ, ◌<◌, zero, suc, Bool, true, false, cond, List, [], ◌∷◌, ◌++◌, length, map, Some, refl, sym, ap, ◌∙◌, arith}
use Rattle.std.specs.Prelude.{◌&&◌, ◌||◌, slice_get}
use Rattle.std.specs.List.{list_all, list_any, find, flat_map}
use Rattle.std.proofs.lemmas.List.Folds.{list_all-append}

pub both_true : (a b : Bool) → (a && b) ≡ true → (a ≡ true) × (b ≡ true)
both_true true b e = (refl, e)
both_true false b e = absurd cc

pub both : (a b : Bool) → a ≡ true → b ≡ true → (a && b) ≡ true
both a b e f = rw (e, f) refl

abbrev pub Every : {A : Type 0} → (A → Type 0) → List A → Type 0
Every P [] = Unit {0}
Every P (x ∷ xs) = P x × Every P xs

pub every : {A : Type 0} (p : A → Bool) (xs : List A) → list_all p xs ≡ true → Every (λ x. p x ≡ true) xs
every p [] h = tt
every p (x ∷ xs) h = let t = both_true (p x) (list_all p xs) h in (t.0, every p xs t.1)

pub every_to : {A : Type 0} (P Q : A → Type 0) → ((x : A) → P x → Q x) → (xs : List A) → Every P xs → Every Q xs
every_to P Q f [] h = tt
every_to P Q f (x ∷ xs) h = (f x h.0, every_to P Q f xs h.1)

pub every_both : {A : Type 0} (P Q : A → Type 0) (xs : List A) → Every P xs → Every Q xs → Every (λ x. P x × Q x) xs
every_both P Q [] h k = tt
every_both P Q (x ∷ xs) h k = ((h.0, k.0), every_both P Q xs h.1 k.1)

pub all_append : {A : Type 0} (p : A → Bool) (xs ys : List A) → list_all p (xs ++ ys) ≡ true → (list_all p xs ≡ true) × (list_all p ys ≡ true)
all_append p xs ys h = both_true (list_all p xs) (list_all p ys) (sym (list_all-append p xs ys) ∙ h)

pub all_flat : {A B : Type 0} (p : B → Bool) (f : A → List B) (xs : List A) → list_all p (flat_map f xs) ≡ true → Every (λ x. list_all p (f x) ≡ true) xs
all_flat p f [] h = tt
all_flat p f (x ∷ xs) h = let t = all_append p (f x) (flat_map f xs) h in (t.0, all_flat p f xs t.1)

pub all_map : {A B : Type 0} (p : B → Bool) (f : A → B) (xs : List A) → list_all p (map f xs) ≡ true → list_all (λ x. p (f x)) xs ≡ true
all_map p f [] h = refl
all_map p f (x ∷ xs) h = let t = both_true (p (f x)) (list_all p (map f xs)) h in both (p (f x)) (list_all (λ y. p (f y)) xs) t.0 (all_map p f xs t.1)

pub all_to : {A : Type 0} (p q : A → Bool) → ((x : A) → p x ≡ true → q x ≡ true) → (xs : List A) → list_all p xs ≡ true → list_all q xs ≡ true
all_to p q f [] h = refl
all_to p q f (x ∷ xs) h = let t = both_true (p x) (list_all p xs) h in both (q x) (list_all q xs) (f x t.0) (all_to p q f xs t.1)

-- what is found passes the test and has what each entry has
pub record Found {A : Type 0} (p q : A → Bool) (xs : List A) : Type 0 where
  pub entry : A
  pub is : find p xs ≡ Some entry
  pub passes : p entry ≡ true
  pub has : q entry ≡ true

found_next : {A : Type 0} (p q : A → Bool) (x : A) (xs : List A) (b : Bool) → p x ≡ b → (b || list_any p xs) ≡ true → q x ≡ true → (list_any p xs ≡ true → Found p q xs) → Found p q (x ∷ xs)
found_next p q x xs true e h k later = record { entry = x; is = ap (λ (c : Bool). cond c (Some x) (find p xs)) e; passes = e; has = k }
found_next p q x xs false e h k later =
    let f = later h in
    record { entry = f.entry; is = ap (λ (c : Bool). cond c (Some x) (find p xs)) e ∙ f.is; passes = f.passes; has = f.has }

pub found : {A : Type 0} (p q : A → Bool) (xs : List A) → list_any p xs ≡ true → list_all q xs ≡ true → Found p q xs
found p q [] h k = absurd cc
found p q (x ∷ xs) h k =
    let t = both_true (q x) (list_all q xs) k in
    found_next p q x xs (p x) refl h t.0 (λ any. found p q xs any t.1)

-- a place with an entry is within
pub within : {A : Type 0} (xs : List A) (i : ℕ) (x : A) → slice_get xs i ≡ Some x → i < length xs
within [] i x h = absurd cc
within (y ∷ ys) zero x h = omega arith
within (y ∷ ys) (suc i) x h = let k = within ys i x h in omega arith
