-- An entry of a list against those before it.
use Rattle.std.proofs.Common.{◌≡◌, ℕ, Bool, true, false, List, [], ◌∷◌, ◌++◌, map, None, refl, sym, ap, subst, ◌∙◌, append_assoc, rules}
use Rattle.std.specs.Prelude.{not, ◌&&◌, ◌||◌, nat_eq}
use Rattle.std.specs.List.{list_any, list_all, flat_map}
use Rattle.std.proofs.lemmas.List.{append-nil, map-append}
use Rattle.std.proofs.lemmas.List.Folds.{list_any-append, list_all-append}
use Rattle.std.proofs.lemmas.Grind.{flat_map-append}
use Rattle.catalog.specs.Lists.{are_distinct, clash}
use Rattle.catalog.specs.Spaces.{FilePlace, same_place, place_in}
use Rattle.catalog.specs.Refusals.{first_cause, is_system_number}
use Rattle.catalog.specs.Forms.{is_32_bits}
use Rattle.catalog.specs.Valid.{is_user_number}
use Rattle.catalog.proofs.SpaceLemmas.{any_map}
use Rattle.catalog.proofs.ListLemmas.{and_left, and_right, or_left, or_right, or_both, not_true, not_false, distinct-before}

pub uncaused : {a b c d e : Bool} → a ≡ false → b ≡ false → c ≡ false → d ≡ false → e ≡ false → first_cause a b c d e ≡ None
unfolding first_cause
uncaused p q r s t = λ i. first_cause (p i) (q i) (r i) (s i) (t i)

pub all_at : {A : Type 0} (p : A → Bool) (before : List A) (x : A) (after : List A) → list_all p (before ++ x ∷ after) ≡ true → p x ≡ true
all_at p before x after h =
    let parts : (list_all p before && list_all p (x ∷ after)) ≡ true = sym (list_all-append p before (x ∷ after)) ∙ h in
    and_left _ _ (and_right _ _ parts)

pub distinct_at : {A : Type 0} (same : A → A → Bool) → ((a b : A) → same a b ≡ same b a) → (before : List A) (x : A) (after : List A) → are_distinct same (before ++ x ∷ after) ≡ true → list_any (same x) before ≡ false
distinct_at same turned [] x after h = refl
distinct_at same turned (b ∷ bs) x after h =
    let front : (list_any (same b) bs || list_any (same b) (x ∷ after)) ≡ false = sym (list_any-append (same b) bs (x ∷ after)) ∙ not_true _ (and_left _ _ h) in
    or_both (same x b) (list_any (same x) bs) (turned x b ∙ or_left _ _ (or_right _ _ front)) (distinct_at same turned bs x after (and_right _ _ h))

-- of a list that is made from another one, between two parts
pub one_free : {A B : Type 0} (same : B → B → Bool) → ((a b : B) → same a b ≡ same b a) → (f : A → B) (front : List B) (before : List A) (x : A) (after : List A) (rest : List B)
    → are_distinct same (front ++ (map f (before ++ x ∷ after) ++ rest)) ≡ true → list_any (same (f x)) (front ++ map f before) ≡ false
one_free {B = B} same turned f front before x after rest h =
    let parts : front ++ (map f (before ++ x ∷ after) ++ rest) ≡ (front ++ map f before) ++ f x ∷ (map f after ++ rest) =
    ap (λ (l : List B). front ++ (l ++ rest)) (map-append f before (x ∷ after)) ∙ ap (λ (l : List B). front ++ l) (append_assoc (map f before) (f x ∷ map f after) rest) ∙ sym (append_assoc front (map f before) (f x ∷ (map f after ++ rest))) in
    distinct_at same turned (front ++ map f before) (f x) (map f after ++ rest) (subst (λ (l : List B). are_distinct same l ≡ true) parts h)

pub group_free : {A B : Type 0} (same : B → B → Bool) → ((a b : B) → same a b ≡ same b a) → (f : A → List B) (before : List A) (x : A) (after : List A) (rest : List B)
    → are_distinct same (flat_map f (before ++ x ∷ after) ++ rest) ≡ true → clash same (f x) (flat_map f before) ≡ false
group_free {B = B} same turned f before x after rest h =
    let parts : flat_map f (before ++ x ∷ after) ++ rest ≡ (flat_map f before ++ f x) ++ (flat_map f after ++ rest) =
    ap (λ (l : List B). l ++ rest) (flat_map-append f before (x ∷ after)) ∙ append_assoc (flat_map f before) (f x ++ flat_map f after) rest ∙ ap (λ (l : List B). flat_map f before ++ l) (append_assoc (f x) (flat_map f after) rest) ∙ sym (append_assoc (flat_map f before) (f x) (flat_map f after ++ rest)) in
    distinct-before same turned (flat_map f before) (f x) (flat_map f after ++ rest) (subst (λ (l : List B). are_distinct same l ≡ true) parts h)

-- and what holds of all entries there
pub one_holds : {A B : Type 0} (p : B → Bool) (f : A → B) (front : List B) (before : List A) (x : A) (after : List A) (rest : List B) → list_all p (front ++ (map f (before ++ x ∷ after) ++ rest)) ≡ true → p (f x) ≡ true
one_holds {B = B} p f front before x after rest h =
    let inner : (list_all p front && list_all p (map f (before ++ x ∷ after) ++ rest)) ≡ true = sym (list_all-append p front (map f (before ++ x ∷ after) ++ rest)) ∙ h in
    let here : (list_all p (map f (before ++ x ∷ after)) && list_all p rest) ≡ true = sym (list_all-append p (map f (before ++ x ∷ after)) rest) ∙ and_right _ _ inner in
    all_at p (map f before) (f x) (map f after) (subst (λ (l : List B). list_all p l ≡ true) (map-append f before (x ∷ after)) (and_left _ _ here))

pub group_holds : {A B : Type 0} (p : B → Bool) (f : A → List B) (before : List A) (x : A) (after : List A) (rest : List B) → list_all p (flat_map f (before ++ x ∷ after) ++ rest) ≡ true → list_all p (f x) ≡ true
group_holds {B = B} p f before x after rest h =
    let here : (list_all p (flat_map f (before ++ x ∷ after)) && list_all p rest) ≡ true = sym (list_all-append p (flat_map f (before ++ x ∷ after)) rest) ∙ h in
    let parts : (list_all p (flat_map f before) && list_all p (f x ++ flat_map f after)) ≡ true =
    sym (list_all-append p (flat_map f before) (f x ++ flat_map f after)) ∙ subst (λ (l : List B). list_all p l ≡ true) (flat_map-append f before (x ∷ after)) (and_left _ _ here) in
    let own : (list_all p (f x) && list_all p (flat_map f after)) ≡ true = sym (list_all-append p (f x) (flat_map f after)) ∙ and_right _ _ parts in
    and_left _ _ own

pub not_system : (n : ℕ) → is_user_number n ≡ true → is_system_number n ≡ false
not_system n h = not_true (is_system_number n) (and_left (not (is_system_number n)) (is_32_bits n) h)

pub none_system : (ns : List ℕ) → list_all is_user_number ns ≡ true → list_any is_system_number ns ≡ false
none_system [] h = refl
none_system (n ∷ ns) h = or_both _ _ (not_system n (and_left _ _ h)) (none_system ns (and_right _ _ h))

pub any_nil : {A : Type 0} (p : A → Bool) (xs : List A) → list_any p xs ≡ false → list_any p (xs ++ []) ≡ false
any_nil {A = A} p xs h = ap (list_any p) (append-nil xs) ∙ h

pub clash_nil : {A : Type 0} (same : A → A → Bool) (new used : List A) → clash same new used ≡ false → clash same new (used ++ []) ≡ false
clash_nil same new used h = ap (clash same new) (append-nil used) ∙ h

-- ---- at the end, and between two lists

pub end_free : {A B : Type 0} (same : B → B → Bool) → ((a b : B) → same a b ≡ same b a) → (f : A → B) (front : List B) (before : List A) (x : A) (after : List A)
    → are_distinct same (front ++ map f (before ++ x ∷ after)) ≡ true → list_any (same (f x)) (front ++ map f before) ≡ false
end_free {B = B} same turned f front before x after h =
    one_free same turned f front before x after [] (ap (λ (l : List B). are_distinct same (front ++ l)) (append-nil (map f (before ++ x ∷ after))) ∙ h)

pub end_holds : {A B : Type 0} (p : B → Bool) (f : A → B) (front : List B) (before : List A) (x : A) (after : List A) → list_all p (front ++ map f (before ++ x ∷ after)) ≡ true → p (f x) ≡ true
end_holds {B = B} p f front before x after h = one_holds p f front before x after [] (ap (λ (l : List B). list_all p (front ++ l)) (append-nil (map f (before ++ x ∷ after))) ∙ h)

pub last_free : {A B : Type 0} (same : B → B → Bool) → ((a b : B) → same a b ≡ same b a) → (f : A → B) (first second : List B) (before : List A) (x : A) (after : List A)
    → are_distinct same (first ++ (second ++ map f (before ++ x ∷ after))) ≡ true → list_any (same (f x)) (first ++ (second ++ map f before)) ≡ false
last_free same turned f first second before x after h =
    ap (list_any (same (f x))) (sym (append_assoc first second (map f before)))
    ∙ end_free same turned f (first ++ second) before x after (ap (are_distinct same) (append_assoc first second (map f (before ++ x ∷ after))) ∙ h)

pub last_holds : {A B : Type 0} (p : B → Bool) (f : A → B) (first second : List B) (before : List A) (x : A) (after : List A) → list_all p (first ++ (second ++ map f (before ++ x ∷ after))) ≡ true → p (f x) ≡ true
last_holds p f first second before x after h =
    end_holds p f (first ++ second) before x after (ap (list_all p) (append_assoc first second (map f (before ++ x ∷ after))) ∙ h)

pub middle_free : {A B : Type 0} (same : B → B → Bool) → ((a b : B) → same a b ≡ same b a) → (f : A → B) (front : List B) (before : List A) (x : A) (after : List A) (rest : List B)
    → are_distinct same (front ++ (map f (before ++ x ∷ after) ++ rest)) ≡ true → list_any (same (f x)) (front ++ (map f before ++ [])) ≡ false
middle_free {B = B} same turned f front before x after rest h =
    ap (λ (l : List B). list_any (same (f x)) (front ++ l)) (append-nil (map f before)) ∙ one_free same turned f front before x after rest h

-- ---- file numbers of one tablespace

nat_eq-itself : (n : ℕ) → nat_eq n n ≡ true
nat_eq-itself n = search rules

distinct_places : (tablespace : ℕ) (ns : List ℕ) → are_distinct same_place (map (place_in tablespace) ns) ≡ are_distinct nat_eq ns
distinct_places tablespace [] = refl
distinct_places tablespace (n ∷ ns) =
    rw (any_map (same_place (place_in tablespace n)) (place_in tablespace) ns, nat_eq-itself tablespace, distinct_places tablespace ns) refl

pub numbers_free : (tablespace : ℕ) (ns : List ℕ) (used : List FilePlace) → clash same_place (map (place_in tablespace) ns) used ≡ false → (not (are_distinct nat_eq ns) || list_any (λ n. list_any (same_place (place_in tablespace n)) used) ns) ≡ false
numbers_free tablespace ns used h =
    or_both _ _ (ap not (sym (distinct_places tablespace ns) ∙ not_false _ (or_left _ _ h)))
    (sym (any_map (λ x. list_any (same_place x) used) (place_in tablespace) ns) ∙ or_right _ _ h)
