-- Lists of which each element has a property, and those that are in them.
use Rattle.std.proofs.Common.{◌≡◌, ◌⊎◌, ◌<◌, ℕ, zero, suc, inl, inr, List, [], ◌∷◌, ◌++◌, map, length, Contains, slice_index_or, refl, sym, ap, subst, arith}
use Rattle.std.specs.List.{AllByRecursion, flat_map}

-- this is one of the list
abbrev pub Among : {A : Type 0} → List A → A → Type 0
Among [] x = ⊥
Among (y ∷ ys) x = (x ≡ y) ⊎ Among ys x

pub all_of : {A : Type 0} (P : A → Type 0) (xs : List A) → ((x : A) → Among xs x → P x) → AllByRecursion P xs
all_of P [] each = tt
all_of P (x ∷ xs) each = (each x (inl refl), all_of P xs (λ y one. each y (inr one)))

pub one_of : {A : Type 0} (P : A → Type 0) (xs : List A) (x : A) → AllByRecursion P xs → Among xs x → P x
one_of P [] x all none = absurd none
one_of P (y ∷ ys) x all (inl same) = subst P (sym same) all.0
one_of P (y ∷ ys) x all (inr one) = one_of P ys x all.1 one

pub in_front : {A : Type 0} (xs ys : List A) (x : A) → Among xs x → Among (xs ++ ys) x
in_front [] ys x none = absurd none
in_front (y ∷ xs) ys x (inl same) = inl same
in_front (y ∷ xs) ys x (inr one) = inr (in_front xs ys x one)

pub behind : {A : Type 0} (xs ys : List A) (x : A) → Among ys x → Among (xs ++ ys) x
behind [] ys x one = one
behind (y ∷ xs) ys x one = inr (behind xs ys x one)

pub either : {A : Type 0} (xs ys : List A) (x : A) → Among (xs ++ ys) x → Among xs x ⊎ Among ys x
either [] ys x one = inr one
either (y ∷ xs) ys x (inl same) = inl (inl same)
either (y ∷ xs) ys x (inr one) = elim (either xs ys x one) [ inl front ↦ inl (inr front) | inr back ↦ inr back ]

pub mapped : {A B : Type 0} (f : A → B) (xs : List A) (x : A) → Among xs x → Among (map f xs) (f x)
mapped f [] x none = absurd none
mapped f (y ∷ xs) x (inl same) = inl (ap f same)
mapped f (y ∷ xs) x (inr one) = inr (mapped f xs x one)

pub of_mapped : {A B : Type 0} (f : A → B) (xs : List A) (b : B) → Among (map f xs) b → (x : A) × Among xs x × (b ≡ f x)
of_mapped f [] b none = absurd none
of_mapped f (y ∷ xs) b (inl same) = (y, inl refl, same)
of_mapped f (y ∷ xs) b (inr one) = let (x, there, is) = of_mapped f xs b one in (x, inr there, is)

pub flat_mapped : {A B : Type 0} (f : A → List B) (xs : List A) (x : A) (b : B) → Among xs x → Among (f x) b → Among (flat_map f xs) b
flat_mapped f [] x b none inner = absurd none
flat_mapped f (y ∷ xs) x b (inl same) inner = in_front (f y) (flat_map f xs) b (subst (λ z. Among (f z) b) same inner)
flat_mapped f (y ∷ xs) x b (inr one) inner = behind (f y) (flat_map f xs) b (flat_mapped f xs x b one inner)

pub of_flat : {A B : Type 0} (f : A → List B) (xs : List A) (b : B) → Among (flat_map f xs) b → (x : A) × Among xs x × Among (f x) b
of_flat f [] b none = absurd none
of_flat f (y ∷ xs) b one = elim (either (f y) (flat_map f xs) b one) [ inl front ↦ (y, inl refl, front) | inr back ↦ (let (x, there, inner) = of_flat f xs b back in (x, inr there, inner)) ]

among_at : {A : Type 0} (xs : List A) (x : A) (k : ℕ) → k < length xs → slice_index_or xs k x ≡ x → Among xs x
among_at [] x k lt is = absurd (omega arith)
among_at (y ∷ ys) x zero lt is = inl (sym is)
among_at (y ∷ ys) x (suc k) lt is = inr (among_at ys x k (omega arith) is)

-- the same by its place
pub among : {A : Type 0} (xs : List A) (x : A) → Contains xs x → Among xs x
among xs x has = among_at xs x has.0 has.1 has.2

pub contains : {A : Type 0} (xs : List A) (x : A) → Among xs x → Contains xs x
contains [] x none = absurd none
contains (y ∷ ys) x (inl same) = (0, omega arith, sym same)
contains (y ∷ ys) x (inr one) = let has = contains ys x one in (suc has.0, (let lt = has.1 in omega arith), has.2)
