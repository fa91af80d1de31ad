-- Members of lists.
use Rattle.std.proofs.Common.{◌≡◌, ◌⊎◌, inl, inr, zero, suc, Bool, true, false, cond, ◌||◌, map, if◌then◌else◌, List, [], ◌∷◌, ◌++◌, Some, refl, sym, ◌∙◌, ap, arith, subst}
use Rattle.std.specs.List.{Contains, flat_map, find, list_any}

abbrev pub In : {X : Type 0} → List X → X → Type 0
In [] x = ⊥
In (y ∷ ys) x = (x ≡ y) ⊎ In ys x

module _ {X : Type 0} where
  pub to_in : (xs : List X) (x : X) → Contains xs x → In xs x
  to_in [] x (k, below, is) = absurd (omega arith)
  to_in (y ∷ ys) x (zero, below, is) = inl (sym is)
  to_in (y ∷ ys) x (suc k, below, is) = inr (to_in ys x (k, omega arith, is))

  later : (y : X) (ys : List X) (x : X) → Contains ys x → Contains (y ∷ ys) x
  later y ys x (k, below, is) = (suc k, omega arith, is)

  pub from_in : (xs : List X) (x : X) → In xs x → Contains xs x
  from_in [] x found = absurd found
  from_in (y ∷ ys) x (inl is) = (0, omega arith, sym is)
  from_in (y ∷ ys) x (inr found) = later y ys x (from_in ys x found)

  pub in_left : (xs ys : List X) (x : X) → In xs x → In (xs ++ ys) x
  in_left [] ys x found = absurd found
  in_left (z ∷ xs) ys x (inl is) = inl is
  in_left (z ∷ xs) ys x (inr found) = inr (in_left xs ys x found)

  pub in_right : (xs ys : List X) (x : X) → In ys x → In (xs ++ ys) x
  in_right [] ys x found = found
  in_right (z ∷ xs) ys x found = inr (in_right xs ys x found)

  pub in_either : (xs ys : List X) (x : X) (P : Type 0) → (In xs x → P) → (In ys x → P) → In (xs ++ ys) x → P
  in_either [] ys x P left right found = right found
  in_either (z ∷ xs) ys x P left right (inl is) = left (inl is)
  in_either (z ∷ xs) ys x P left right (inr found) = in_either xs ys x P (λ h. left (inr h)) right found

  pub in_if : (b : Bool) (xs : List X) (x : X) → b ≡ true → In xs x → In (if b then xs else []) x
  in_if true xs x e found = found
  in_if false xs x e found = absurd (cc e)

  pub in_find : (p : X → Bool) (xs : List X) (x : X) → find p xs ≡ Some x → In xs x
  in_find p [] x e = absurd (cc e)
  in_find p (y ∷ ys) x e = by (p y) (in_find p ys x) e
    where
      by : (b : Bool) → (find p ys ≡ Some x → In ys x) → cond b (Some y) (find p ys) ≡ Some x → (x ≡ y) ⊎ In ys x
      by true rest e = inl (cc e)
      by false rest e = inr (rest e)

  pub find_has : (p : X → Bool) (xs : List X) (x : X) → find p xs ≡ Some x → p x ≡ true
  find_has p [] x e = absurd (cc e)
  find_has p (y ∷ ys) x e = by (p y) refl (find_has p ys x) e
    where
      by : (b : Bool) → p y ≡ b → (find p ys ≡ Some x → p x ≡ true) → cond b (Some y) (find p ys) ≡ Some x → p x ≡ true
      by true is rest e = let same : y ≡ x = cc e in subst (λ z. p z ≡ true) same is
      by false is rest e = rest e

  pub in_any : (p : X → Bool) (xs : List X) (x : X) → In xs x → p x ≡ true → list_any p xs ≡ true
  in_any p [] x found e = absurd found
  in_any p (y ∷ ys) x (inl is) e = ap (λ b. b || list_any p ys) (ap p (sym is) ∙ e)
  in_any p (y ∷ ys) x (inr found) e = by (p y) (in_any p ys x found e)
    where
      by : (b : Bool) → list_any p ys ≡ true → (b || list_any p ys) ≡ true
      by true rest = refl
      by false rest = rest

module _ {X Y : Type 0} (f : X → List Y) where
  pub in_flat : (xs : List X) (x : X) (y : Y) → In xs x → In (f x) y → In (flat_map f xs) y
  in_flat [] x y found here = absurd found
  in_flat (z ∷ xs) x y (inl is) here = in_left (f z) (flat_map f xs) y (subst (λ a. In (f a) y) is here)
  in_flat (z ∷ xs) x y (inr found) here = in_right (f z) (flat_map f xs) y (in_flat xs x y found here)

  pub flat_in : (xs : List X) (y : Y) → In (flat_map f xs) y → (x : X) × In xs x × In (f x) y
  flat_in [] y found = absurd found
  flat_in (z ∷ xs) y found =
      in_either (f z) (flat_map f xs) y ((x : X) × In (z ∷ xs) x × In (f x) y) (λ here. (z, inl refl, here))
      (λ there. let (x, among, here) = flat_in xs y there in (x, inr among, here)) found

pub in_map : {X Y : Type 0} (f : X → Y) (xs : List X) (x : X) → In xs x → In (map f xs) (f x)
in_map f [] x found = absurd found
in_map f (z ∷ xs) x (inl is) = inl (ap f is)
in_map f (z ∷ xs) x (inr found) = inr (in_map f xs x found)

-- what is in one of the two lists, by a test
pub from_if : {X : Type 0} (b : Bool) (xs : List X) (x : X) → In (if b then xs else []) x → (b ≡ true) × In xs x
from_if true xs x found = (refl, found)
from_if false xs x found = absurd found

pub from_map : {X Y : Type 0} (f : X → Y) (xs : List X) (y : Y) → In (map f xs) y → (x : X) × In xs x × (y ≡ f x)
from_map f [] y found = absurd found
from_map f (z ∷ xs) y (inl is) = (z, inl refl, is)
from_map f (z ∷ xs) y (inr found) = let (x, among, is) = from_map f xs y found in (x, inr among, is)
