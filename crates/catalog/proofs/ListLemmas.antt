-- Lists whose entries differ, tests over lists that grow, and lists with one entry changed.
use Rattle.std.proofs.Common.{◌≡◌, ℕ, suc, ◌+◌, ◌<◌, length, get_or, set, arith, Bool, true, false, cond, List, [], ◌∷◌, ◌++◌, map, refl, sym, ap, subst, ◌∙◌, append_assoc, Some, None}
use Rattle.std.specs.Prelude.{IsSome, not, ◌&&◌, ◌||◌, nat_eq, bytes_eq}
use Rattle.std.specs.List.{list_any, list_all, find, position, position_from, flat_map}
use Rattle.std.proofs.lemmas.List.{append-nil, map-append}
use Rattle.std.proofs.lemmas.List.Folds.{list_any-append, list_all-append}
use Rattle.std.proofs.lemmas.Grind.{flat_map-append}
use Rattle.std.proofs.lemmas.Iterator.Adapters.{position_from-zero}
use Rattle.std.proofs.lemmas.Bool.Decides.{Decides-eqb}
use Rattle.std.proofs.lemmas.Slice.Eq.{bytes_eq-Decides}
use Rattle.catalog.specs.Lists.{are_distinct, in_use, clash, change_first}

-- ---- booleans

pub and_left : (a b : Bool) → (a && b) ≡ true → a ≡ true
and_left true b h = refl
and_left false b h = h

pub and_right : (a b : Bool) → (a && b) ≡ true → b ≡ true
and_right true b h = h
and_right false b h = cc

pub and_both : (a b : Bool) → a ≡ true → b ≡ true → (a && b) ≡ true
and_both a b h k = rw (h, k) refl

pub and_mono : (a b c d : Bool) → (a ≡ true → c ≡ true) → (b ≡ true → d ≡ true) → (a && b) ≡ true → (c && d) ≡ true
and_mono a b c d first second h = and_both c d (first (and_left a b h)) (second (and_right a b h))

pub or_left : (a b : Bool) → (a || b) ≡ false → a ≡ false
or_left true b h = h
or_left false b h = refl

pub or_right : (a b : Bool) → (a || b) ≡ false → b ≡ false
or_right true b h = cc
or_right false b h = h

pub or_both : (a b : Bool) → a ≡ false → b ≡ false → (a || b) ≡ false
or_both a b h k = rw (h, k) refl

pub not_true : (a : Bool) → not a ≡ true → a ≡ false
not_true true h = sym h
not_true false h = refl

pub not_false : (a : Bool) → not a ≡ false → a ≡ true
not_false true h = refl
not_false false h = sym h

or_swap : (a b c d : Bool) → ((a || b) || (c || d)) ≡ ((a || c) || (b || d))
or_swap true b c d = refl
or_swap false true true d = refl
or_swap false true false d = refl
or_swap false false c d = refl

-- ---- tests over lists

any-cong : {A : Type 0} (p q : A → Bool) → ((x : A) → p x ≡ q x) → (xs : List A) → list_any p xs ≡ list_any q xs
any-cong p q same [] = refl
any-cong p q same (x ∷ xs) = rw (same x, any-cong p q same xs) refl

pub any-none : {A : Type 0} (xs : List A) → list_any (λ _. false) xs ≡ false
any-none [] = refl
any-none (x ∷ xs) = any-none xs

any-or : {A : Type 0} (p q : A → Bool) (xs : List A) → list_any (λ x. p x || q x) xs ≡ (list_any p xs || list_any q xs)
any-or p q [] = refl
any-or p q (x ∷ xs) = ap (λ b. (p x || q x) || b) (any-or p q xs) ∙ or_swap (p x) (q x) (list_any p xs) (list_any q xs)

pub any-left : {A : Type 0} (p : A → Bool) (xs ys : List A) → list_any p xs ≡ true → list_any p (xs ++ ys) ≡ true
any-left p xs ys h = rw (list_any-append, h) refl

pub all-mono : {A : Type 0} (p q : A → Bool) → ((x : A) → p x ≡ true → q x ≡ true) → (xs : List A) → list_all p xs ≡ true → list_all q xs ≡ true
all-mono p q weaker [] h = refl
all-mono p q weaker (x ∷ xs) h =
    and_both (q x) (list_all q xs) (weaker x (and_left (p x) (list_all p xs) h)) (all-mono p q weaker xs (and_right (p x) (list_all p xs) h))

pub all-both : {A : Type 0} (p : A → Bool) (xs ys : List A) → list_all p xs ≡ true → list_all p ys ≡ true → list_all p (xs ++ ys) ≡ true
all-both p xs ys h k = rw (list_all-append, h, k) refl

pub all-push : {A : Type 0} (p : A → Bool) (xs : List A) (x : A) → list_all p xs ≡ true → p x ≡ true → list_all p (xs ++ x ∷ []) ≡ true
all-push p xs x h k = all-both p xs (x ∷ []) h (rw k refl)

-- the entries between two parts of a list
pub all-between : {A : Type 0} (p : A → Bool) (xs new ys : List A) → list_all p (xs ++ ys) ≡ true → list_all p new ≡ true → list_all p ((xs ++ new) ++ ys) ≡ true
all-between p xs new ys h k =
    let parts : (list_all p xs && list_all p ys) ≡ true = sym (list_all-append p xs ys) ∙ h in
    all-both p (xs ++ new) ys (all-both p xs new (and_left _ _ parts) k) (and_right _ _ parts)

pub find-left : {A : Type 0} (p : A → Bool) (xs ys : List A) (x : A) → find p xs ≡ Some x → find p (xs ++ ys) ≡ Some x
find-left p [] ys x h = cc
find-left p (y ∷ xs) ys x h = more (p y) h (find-left p xs ys x)
  where
    more : (b : Bool) → cond b (Some y) (find p xs) ≡ Some x → (find p xs ≡ Some x → find p (xs ++ ys) ≡ Some x) → cond b (Some y) (find p (xs ++ ys)) ≡ Some x
    more true h rest = h
    more false h rest = rest h

-- ---- entries that differ

distinct_split : (a b c d e : Bool) → (not (a || b) && ((c && d) && not e)) ≡ (((not a && c) && d) && not (b || e))
distinct_split true b c d e = refl
distinct_split false true true true e = refl
distinct_split false true true false e = refl
distinct_split false true false d e = refl
distinct_split false false c d e = refl

distinct-append : {A : Type 0} (same : A → A → Bool) (xs ys : List A) → are_distinct same (xs ++ ys) ≡ ((are_distinct same xs && are_distinct same ys) && not (in_use same xs ys))
distinct-append same [] ys = last (are_distinct same ys)
  where
    last : (b : Bool) → b ≡ ((true && b) && not false)
    last true = refl
    last false = refl
distinct-append same (x ∷ xs) ys =
    rw (list_any-append (same x) xs ys, distinct-append same xs ys)
    (distinct_split (list_any (same x) xs) (list_any (same x) ys) (are_distinct same xs) (are_distinct same ys) (in_use same xs ys))

in_use-sym : {A : Type 0} (same : A → A → Bool) → ((a b : A) → same a b ≡ same b a) → (xs ys : List A) → in_use same xs ys ≡ in_use same ys xs
in_use-sym same turned [] ys = sym (any-none ys)
in_use-sym same turned (x ∷ xs) ys =
    rw (any-or (λ y. same y x) (λ y. list_any (same y) xs) ys, in_use-sym same turned xs ys, any-cong (same x) (λ y. same y x) (turned x) ys) refl

in_use-append : {A : Type 0} (same : A → A → Bool) (new xs ys : List A) → in_use same new (xs ++ ys) ≡ (in_use same new xs || in_use same new ys)
in_use-append same new xs ys =
    any-cong (λ x. list_any (same x) (xs ++ ys)) (λ x. list_any (same x) xs || list_any (same x) ys) (λ x. list_any-append (same x) xs ys) new
    ∙ any-or (λ x. list_any (same x) xs) (λ x. list_any (same x) ys) new

three : (a b c : Bool) → a ≡ true → b ≡ true → c ≡ false → ((a && b) && not c) ≡ true
three true true false h k l = refl
three true true true h k l = cc
three true false c h k l = cc
three false b c h k l = cc

-- new entries that clash with none can join, between two parts of the list
pub distinct-between : {A : Type 0} (same : A → A → Bool) → ((a b : A) → same a b ≡ same b a) → (xs new ys : List A) → are_distinct same (xs ++ ys) ≡ true → clash same new (xs ++ ys) ≡ false → are_distinct same ((xs ++ new) ++ ys) ≡ true
distinct-between same turned xs new ys differ free =
    let parts : ((are_distinct same xs && are_distinct same ys) && not (in_use same xs ys)) ≡ true = sym (distinct-append same xs ys) ∙ differ in
    let differ_new : are_distinct same new ≡ true = not_false _ (or_left _ _ free) in
    let unused : (in_use same new xs || in_use same new ys) ≡ false = sym (in_use-append same new xs ys) ∙ or_right _ _ free in
    let unused_left : in_use same xs new ≡ false = in_use-sym same turned xs new ∙ or_left _ _ unused in
    let both : ((are_distinct same xs && are_distinct same new) && not (in_use same xs new)) ≡ true = three _ _ _ (and_left _ _ (and_left _ _ parts)) differ_new unused_left in
    let joined : are_distinct same (xs ++ new) ≡ true = distinct-append same xs new ∙ both in
    let apart : in_use same (xs ++ new) ys ≡ false = list_any-append (λ x. list_any (same x) ys) xs new ∙ or_both _ _ (not_true _ (and_right _ _ parts)) (or_right _ _ unused) in
    distinct-append same (xs ++ new) ys ∙ three _ _ _ joined (and_right _ _ (and_left _ _ parts)) apart

-- the same at the end of the list
pub distinct-push : {A : Type 0} (same : A → A → Bool) → ((a b : A) → same a b ≡ same b a) → (xs new : List A) → are_distinct same xs ≡ true → clash same new xs ≡ false → are_distinct same (xs ++ new) ≡ true
distinct-push same turned xs new differ free =
    subst (λ (l : List _). are_distinct same l ≡ true) (append-nil (xs ++ new))
    (distinct-between same turned xs new [] (subst (λ (l : List _). are_distinct same l ≡ true) (sym (append-nil xs)) differ) (subst (λ (l : List _). clash same new l ≡ false) (sym (append-nil xs)) free))

-- an entry that stands behind others is none of those
pub distinct-before : {A : Type 0} (same : A → A → Bool) → ((a b : A) → same a b ≡ same b a) → (xs new ys : List A) → are_distinct same ((xs ++ new) ++ ys) ≡ true → clash same new xs ≡ false
distinct-before same turned xs new ys differ =
    let whole : ((are_distinct same (xs ++ new) && are_distinct same ys) && not (in_use same (xs ++ new) ys)) ≡ true = sym (distinct-append same (xs ++ new) ys) ∙ differ in
    let front : are_distinct same (xs ++ new) ≡ true = and_left _ _ (and_left _ _ whole) in
    let parts : ((are_distinct same xs && are_distinct same new) && not (in_use same xs new)) ≡ true = sym (distinct-append same xs new) ∙ front in
    or_both _ _ (ap not (and_right _ _ (and_left _ _ parts))) (sym (in_use-sym same turned xs new) ∙ not_true _ (and_right _ _ parts))

-- ---- one entry changed

pub map-change : {A B : Type 0} (f : A → B) (passes : A → Bool) (change : A → A) → ((x : A) → f (change x) ≡ f x) → (xs : List A) → map f (change_first passes change xs) ≡ map f xs
map-change f passes change keeps [] = refl
map-change {B = B} f passes change keeps (x ∷ xs) = more (passes x) (map-change f passes change keeps xs)
  where
    more : (b : Bool) → map f (change_first passes change xs) ≡ map f xs → map f (cond b (change x ∷ xs) (x ∷ change_first passes change xs)) ≡ map f (x ∷ xs)
    more true rest = ap (λ (y : B). y ∷ map f xs) (keeps x)
    more false rest = ap (λ (ys : List B). f x ∷ ys) rest

-- ---- new entries somewhere in a list

-- the list `after` is `before` with new entries between two of its parts
abbrev pub Joined : {A : Type 0} → List A → List A → List A → Type 0
Joined {A = A} new before after =
    (front : List A) × (back : List A) × (before ≡ front ++ back) × (after ≡ (front ++ new) ++ back)

pub joined_left : {A : Type 0} (new before after more : List A) → Joined new before after → Joined new (before ++ more) (after ++ more)
joined_left {A = A} new before after more parts =
    (parts.0, parts.1 ++ more, ap (λ (l : List A). l ++ more) parts.2 ∙ append_assoc parts.0 parts.1 more, ap (λ (l : List A). l ++ more) parts.3 ∙ append_assoc (parts.0 ++ new) parts.1 more)

pub joined_right : {A : Type 0} (new before after more : List A) → Joined new before after → Joined new (more ++ before) (more ++ after)
joined_right {A = A} new before after more parts =
    (more ++ parts.0, parts.1, ap (λ (l : List A). more ++ l) parts.2 ∙ sym (append_assoc more parts.0 parts.1), ap (λ (l : List A). more ++ l) parts.3 ∙ simp append_assoc)

pub joined_map : {A B : Type 0} (f : A → B) (xs : List A) (x : A) → Joined (f x ∷ []) (map f xs) (map f (xs ++ x ∷ []))
joined_map f xs x = (map f xs, [], sym (append-nil (map f xs)), map-append f xs (x ∷ []) ∙ sym (append-nil (map f xs ++ f x ∷ [])))

pub joined_flat : {A B : Type 0} (f : A → List B) (xs : List A) (x : A) → Joined (f x) (flat_map f xs) (flat_map f (xs ++ x ∷ []))
joined_flat {B = B} f xs x =
    (flat_map f xs, [], sym (append-nil (flat_map f xs)), flat_map-append f xs (x ∷ []) ∙ ap (λ (l : List B). flat_map f xs ++ l) (append-nil (f x)) ∙ sym (append-nil (flat_map f xs ++ f x)))

-- a list of lists of which one gets longer
pub joined_change : {A B : Type 0} (f : A → List B) (passes : A → Bool) (change : A → A) (new : List B) → ((x : A) → f (change x) ≡ f x ++ new) → (xs : List A) (found : A) → find passes xs ≡ Some found → Joined new (flat_map f xs) (flat_map f (change_first passes change xs))
joined_change f passes change new longer [] found h = cc
joined_change {A = A} {B = B} f passes change new longer (x ∷ xs) found h = more (passes x) h (joined_change f passes change new longer xs found)
  where
    more : (b : Bool) → cond b (Some x) (find passes xs) ≡ Some found → (find passes xs ≡ Some found → Joined new (flat_map f xs) (flat_map f (change_first passes change xs))) → Joined new (flat_map f (x ∷ xs)) (flat_map f (cond b (change x ∷ xs) (x ∷ change_first passes change xs)))
    more true h rest = (f x, flat_map f xs, refl, ap (λ (l : List B). l ++ flat_map f xs) (longer x))
    more false h rest = joined_right new (flat_map f xs) (flat_map f (change_first passes change xs)) (f x) (rest h)

pub joined_distinct : {A : Type 0} (same : A → A → Bool) → ((a b : A) → same a b ≡ same b a) → (new before after : List A) → Joined new before after → are_distinct same before ≡ true → clash same new before ≡ false → are_distinct same after ≡ true
joined_distinct {A = A} same turned new before after parts differ free =
    subst (λ (l : List A). are_distinct same l ≡ true) (sym parts.3)
    (distinct-between same turned parts.0 new parts.1 (subst (λ (l : List A). are_distinct same l ≡ true) parts.2 differ) (subst (λ (l : List A). clash same new l ≡ false) parts.2 free))

pub joined_all : {A : Type 0} (p : A → Bool) (new before after : List A) → Joined new before after → list_all p before ≡ true → list_all p new ≡ true → list_all p after ≡ true
joined_all {A = A} p new before after parts h k =
    subst (λ (l : List A). list_all p l ≡ true) (sym parts.3)
    (all-between p parts.0 new parts.1 (subst (λ (l : List A). list_all p l ≡ true) parts.2 h) k)

pub clash_one : {A : Type 0} (same : A → A → Bool) (x : A) (used : List A) → list_any (same x) used ≡ false → clash same (x ∷ []) used ≡ false
clash_one same x used free = rw free refl

-- ---- the entry at the place of the first that passes

at_from : {A : Type 0} (passes : A → Bool) (d : A) (xs : List A) (n i : ℕ) → position_from passes n xs ≡ Some i
    → (k : ℕ) × (i ≡ n + k) × (k < length xs) × (find passes xs ≡ Some (get_or xs k d)) × ((change : A → A) → set xs k (change (get_or xs k d)) ≡ change_first passes change xs)
at_from passes d [] n i h = cc
at_from {A = A} passes d (x ∷ xs) n i h = more (passes x) h (at_from passes d xs (n + 1) i)
  where
    more : (b : Bool) → cond b (Some n) (position_from passes (n + 1) xs) ≡ Some i
        → (position_from passes (n + 1) xs ≡ Some i → (k : ℕ) × (i ≡ (n + 1) + k) × (k < length xs) × (find passes xs ≡ Some (get_or xs k d)) × ((change : A → A) → set xs k (change (get_or xs k d)) ≡ change_first passes change xs))
        → (k : ℕ) × (i ≡ n + k) × (k < length (x ∷ xs)) × (cond b (Some x) (find passes xs) ≡ Some (get_or (x ∷ xs) k d)) × ((change : A → A) → set (x ∷ xs) k (change (get_or (x ∷ xs) k d)) ≡ cond b (change x ∷ xs) (x ∷ change_first passes change xs))
    more true h rest = let e : n ≡ i = cc in (0, omega (arith, e), omega arith, refl, λ change. refl)
    more false h rest =
        let r = rest h in
        let e : i ≡ n + suc r.0 = omega (arith, r.1) in
        let lt : suc r.0 < length (x ∷ xs) = omega (arith, r.2) in
        (suc r.0, e, lt, r.3, λ change. ap (λ (l : List A). x ∷ l) (r.4 change))

-- the entry at that place is the first that passes, and to change it is to write it there
pub record Found {A : Type 0} (passes : A → Bool) (xs : List A) (i : ℕ) (d : A) : Type 0 where
  pub within : i < length xs
  pub entry : find passes xs ≡ Some (get_or xs i d)
  pub written : (change : A → A) → set xs i (change (get_or xs i d)) ≡ change_first passes change xs

pub found_at : {A : Type 0} (passes : A → Bool) (xs : List A) (i : ℕ) (d : A) → position passes xs ≡ Some i → Found passes xs i d
found_at {A = A} passes xs i d h =
    let f = at_from passes d xs 0 i (sym (position_from-zero passes xs) ∙ h) in
    let e : f.0 ≡ i = omega (arith, f.1) in
    subst (λ k. Found passes xs k d) e (record { within = f.2; entry = f.3; written = f.4 })

none_from : {A : Type 0} (passes : A → Bool) (xs : List A) (n : ℕ) → position_from passes n xs ≡ None → find passes xs ≡ None
none_from passes [] n h = refl
none_from passes (x ∷ xs) n h = more (passes x) h (none_from passes xs (n + 1))
  where
    more : (b : Bool) → cond b (Some n) (position_from passes (n + 1) xs) ≡ None → (position_from passes (n + 1) xs ≡ None → find passes xs ≡ None) → cond b (Some x) (find passes xs) ≡ None
    more true h rest = cc
    more false h rest = rest h

pub none_found : {A : Type 0} (passes : A → Bool) (xs : List A) → position passes xs ≡ None → find passes xs ≡ None
none_found passes xs h = none_from passes xs 0 (sym (position_from-zero passes xs) ∙ h)

some_from : {A : Type 0} (passes : A → Bool) (xs : List A) (n i : ℕ) → position_from passes n xs ≡ Some i → IsSome (find passes xs)
some_from passes [] n i h = cc
some_from {A = A} passes (x ∷ xs) n i h = more (passes x) h (some_from passes xs (n + 1) i)
  where
    more : (b : Bool) → cond b (Some n) (position_from passes (n + 1) xs) ≡ Some i → (position_from passes (n + 1) xs ≡ Some i → IsSome (find passes xs)) → IsSome (cond b (Some x) (find passes xs))
    more true k rest = refl
    more false k rest = rest k

pub some_found : {A : Type 0} (passes : A → Bool) (xs : List A) (i : ℕ) → position passes xs ≡ Some i → IsSome (find passes xs)
some_found passes xs i h = some_from passes xs 0 i (sym (position_from-zero passes xs) ∙ h)

none_at : {A : Type 0} (passes : A → Bool) (xs : List A) (n : ℕ) → list_any passes xs ≡ false → position_from passes n xs ≡ None
none_at passes [] n h = refl
none_at passes (x ∷ xs) n h = more (passes x) h (none_at passes xs (n + 1))
  where
    more : (b : Bool) → (b || list_any passes xs) ≡ false → (list_any passes xs ≡ false → position_from passes (n + 1) xs ≡ None) → cond b (Some n) (position_from passes (n + 1) xs) ≡ None
    more true h rest = cc
    more false h rest = rest h

pub no_position : {A : Type 0} (passes : A → Bool) (xs : List A) → list_any passes xs ≡ false → position passes xs ≡ None
no_position passes xs h = position_from-zero passes xs ∙ none_at passes xs 0 h

-- ---- tests that can be turned

bool_same : (a b : Bool) → (a ≡ true → b ≡ true) → (b ≡ true → a ≡ true) → a ≡ b
bool_same true b there back = sym (there refl)
bool_same false true there back = back refl
bool_same false false there back = refl

pub nat_eq-turned : (a b : ℕ) → nat_eq a b ≡ nat_eq b a
nat_eq-turned a b = bool_same (nat_eq a b) (nat_eq b a) (λ h. (Decides-eqb b a).1 (sym ((Decides-eqb a b).0 h))) (λ h. (Decides-eqb a b).1 (sym ((Decides-eqb b a).0 h)))

pub bytes_eq-turned : (a b : List ℕ) → bytes_eq a b ≡ bytes_eq b a
bytes_eq-turned a b = bool_same (bytes_eq a b) (bytes_eq b a) (λ h. (bytes_eq-Decides b a).1 (sym ((bytes_eq-Decides a b).0 h))) (λ h. (bytes_eq-Decides a b).1 (sym ((bytes_eq-Decides b a).0 h)))

-- ---- tests over a list with one entry changed

pub all_change : {A : Type 0} (p passes : A → Bool) (change : A → A) (xs : List A) (found : A) → find passes xs ≡ Some found → (p found ≡ true → p (change found) ≡ true) → list_all p xs ≡ true → list_all p (change_first passes change xs) ≡ true
all_change p passes change [] found h keeps all = cc
all_change {A = A} p passes change (x ∷ xs) found h keeps all = more (passes x) h (λ k. all_change p passes change xs found k keeps (and_right _ _ all))
  where
    more : (b : Bool) → cond b (Some x) (find passes xs) ≡ Some found → (find passes xs ≡ Some found → list_all p (change_first passes change xs) ≡ true) → list_all p (cond b (change x ∷ xs) (x ∷ change_first passes change xs)) ≡ true
    more true k rest =
        let same : found ≡ x = cc in
        and_both _ _ (subst (λ (y : A). p (change y) ≡ true) same (keeps (subst (λ (y : A). p y ≡ true) (sym same) (and_left _ _ all)))) (and_right _ _ all)
    more false k rest = and_both _ _ (and_left _ _ all) (rest k)

pub any_change : {A : Type 0} (p passes : A → Bool) (change : A → A) → ((x : A) → p (change x) ≡ p x) → (xs : List A) → list_any p (change_first passes change xs) ≡ list_any p xs
any_change p passes change keeps [] = refl
any_change p passes change keeps (x ∷ xs) = more (passes x) (any_change p passes change keeps xs)
  where
    more : (b : Bool) → list_any p (change_first passes change xs) ≡ list_any p xs → list_any p (cond b (change x ∷ xs) (x ∷ change_first passes change xs)) ≡ list_any p (x ∷ xs)
    more true rest = ap (λ b. b || list_any p xs) (keeps x)
    more false rest = ap (λ b. p x || b) rest

pub map_same : {A B : Type 0} (p : A → Bool) (f g : A → B) → ((x : A) → p x ≡ true → f x ≡ g x) → (xs : List A) → list_all p xs ≡ true → map f xs ≡ map g xs
map_same p f g same [] h = refl
map_same p f g same (x ∷ xs) h = λ i. same x (and_left (p x) (list_all p xs) h) i ∷ map_same p f g same xs (and_right (p x) (list_all p xs) h) i
