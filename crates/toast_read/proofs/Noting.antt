-- One chunk more is noted.
use Rattle.std.proofs.Common.{◌≡◌, ◌∙◌, ℕ, zero, suc, ◌+◌, ◌<◌, ◌==◌, ◌||◌, ◌&&◌, Bool, true, false, cond, is_some, leb, List, [], ◌∷◌, ◌++◌, length, take, Option, Some, None, find, count_by, option_and_then, slice_get, get_or, add-zero, zero-add, le-leb, refl, ap, sym, arith}
use Rattle.std.specs.List.{list_any}
use Rattle.std.specs.Ordering.{nat_cmp}
use Rattle.std.specs.BTreeMap.{get}
use Rattle.std.proofs.lemmas.List.{take_more}
use Rattle.std.proofs.lemmas.Option.{slice_get_read}
use Rattle.std.proofs.lemmas.Grind.{common_steps}
use Rattle.std.proofs.lemmas.List.Sums.{sum_by-cons}
use Rattle.toast_read.specs.declared.chunk.Chunk.{Chunk}
use Rattle.toast_read.specs.Chunks.{has_seq, is_twice}
use Rattle.toast_read.specs.declared.join.Numbers.{Numbers}
use Rattle.toast_read.specs.Places.{or_else, TellsFirst}

any_push : (p : Chunk → Bool) (xs : List Chunk) (x : Chunk) → list_any p (xs ++ x ∷ []) ≡ (list_any p xs || p x)
any_push p [] x = by (p x)
  where
    by : (b : Bool) → (b || false) ≡ b
    by true = refl
    by false = refl
any_push p (y ∷ ys) x = by (p y) (any_push p ys x)
  where
    by : (b : Bool) → list_any p (ys ++ x ∷ []) ≡ (list_any p ys || p x) → (b || list_any p (ys ++ x ∷ [])) ≡ ((b || list_any p ys) || p x)
    by true rest = refl
    by false rest = rest

find_push : (p : Chunk → Bool) (xs : List Chunk) (x : Chunk) → find p (xs ++ x ∷ []) ≡ or_else (find p xs) (cond (p x) (Some x) None)
find_push p [] x = refl
find_push p (y ∷ ys) x = by (p y) (find_push p ys x)
  where
    by : (b : Bool) → find p (ys ++ x ∷ []) ≡ or_else (find p ys) (cond (p x) (Some x) None) → cond b (Some y) (find p (ys ++ x ∷ [])) ≡ or_else (cond b (Some y) (find p ys)) (cond (p x) (Some x) None)
    by true rest = refl
    by false rest = rest

some_found : (p : Chunk → Bool) (xs : List Chunk) → is_some (find p xs) ≡ list_any p xs
some_found p [] = refl
some_found p (y ∷ ys) = by (p y) (some_found p ys)
  where
    by : (b : Bool) → is_some (find p ys) ≡ list_any p ys → is_some (cond b (Some y) (find p ys)) ≡ (b || list_any p ys)
    by true rest = refl
    by false rest = rest

count_push : (p : Chunk → Bool) (xs : List Chunk) (x : Chunk) → count_by p (xs ++ x ∷ []) ≡ count_by p xs + cond (p x) 1 0
count_push p xs x = grind (arith, common_steps)

any_count : (p : Chunk → Bool) (xs : List Chunk) → list_any p xs ≡ leb 1 (count_by p xs)
any_count p [] = refl
any_count p (y ∷ ys) = by (p y) (any_count p ys) ∙ ap (leb 1) (sym (sum_by-cons (λ x. cond (p x) 1 0) y ys))
  where
    by : (b : Bool) → list_any p ys ≡ leb 1 (count_by p ys) → (b || list_any p ys) ≡ leb 1 (cond b 1 0 + count_by p ys)
    by true rest = sym (le-leb 1 (1 + count_by p ys) (omega arith))
    by false rest = rest ∙ ap (leb 1) (sym (zero-add (count_by p ys)))

present_more : (a : Option ℕ) (any t : Bool) (place : ℕ) → is_some a ≡ any → is_some (or_else a (cond t (Some place) None)) ≡ (any || t)
present_more None any true place is = ap (λ b. b || true) is
present_more None any false place is = ap (λ b. b || false) is
present_more (Some k) any t place is = ap (λ b. b || t) is

place_more : (parts : List Chunk) (a : Option ℕ) (found : Option Chunk) (t : Bool) (place : ℕ) (x : Chunk) → slice_get parts place ≡ Some x → is_some a ≡ is_some found → option_and_then (λ k. slice_get parts k) a ≡ found
    → option_and_then (λ k. slice_get parts k) (or_else a (cond t (Some place) None)) ≡ or_else found (cond t (Some x) None)
place_more parts None found true place x stands same is = stands ∙ ap (λ o. or_else o (Some x)) is
place_more parts None found false place x stands same is = ap (λ (o : Option Chunk). or_else o None) is
place_more parts (Some k) None t place x stands same is = absurd (cc same)
place_more parts (Some k) (Some y) t place x stands same is = is

one_more : (count : ℕ) → (leb 2 count || (leb 1 count && true)) ≡ leb 2 (count + 1)
one_more zero = refl
one_more (suc n) =
    let one : leb 1 (suc n) ≡ true = le-leb 1 (suc n) (omega arith) in
    let two : leb 2 (suc n + 1) ≡ true = le-leb 2 (suc n + 1) (omega arith) in
    ap (λ b. leb 2 (suc n) || (b && true)) one ∙ any_or (leb 2 (suc n)) ∙ sym two
  where
    any_or : (b : Bool) → (b || true) ≡ true
    any_or true = refl
    any_or false = refl

twice_more : (twice any t : Bool) (count : ℕ) → twice ≡ leb 2 count → any ≡ leb 1 count → (twice || (any && t)) ≡ leb 2 (count + cond t 1 0)
twice_more twice any false count two one =
    let none : (twice || (any && false)) ≡ twice = by twice any in
    none ∙ two ∙ ap (leb 2) (sym (add-zero count))
  where
    by : (a b : Bool) → (a || (b && false)) ≡ a
    by true b = refl
    by false true = refl
    by false false = refl
twice_more twice any true count two one =
    (λ i. two i || (one i && true)) ∙ one_more count

-- the first chunks with one more
pub first_more : (parts : List Chunk) (place : ℕ) (x : Chunk) (old new : Numbers) → place < length parts → x ≡ get_or parts place x → TellsFirst parts place old
    → ((q : ℕ) → get nat_cmp new.places q ≡ or_else (get nat_cmp old.places q) (cond (x.seq == q) (Some place) None))
    → ((q : ℕ) → is_some (get nat_cmp new.twice q) ≡ (is_some (get nat_cmp old.twice q) || (is_some (get nat_cmp old.places q) && (x.seq == q))))
    → TellsFirst parts (place + 1) new
first_more parts place x old new lt is first places twice =
    let xs : List Chunk = take place parts in
    let more : take (place + 1) parts ≡ xs ++ x ∷ [] = take_more parts place x lt ∙ ap (λ y. xs ++ y ∷ []) (sym is) in
    let stands : slice_get parts place ≡ Some x = slice_get_read parts (length parts) place x refl lt is in
    record {
      present = λ q. ap is_some (places q) ∙ present_more (get nat_cmp old.places q) (list_any (has_seq q) xs) (x.seq == q) place (first.present q) ∙ sym (any_push (has_seq q) xs x) ∙ ap (list_any (has_seq q)) (sym more);
      places = λ q. ap (option_and_then (λ k. slice_get parts k)) (places q)
          ∙ place_more parts (get nat_cmp old.places q) (find (has_seq q) xs) (x.seq == q) place x stands (first.present q ∙ sym (some_found (has_seq q) xs)) (first.places q)
          ∙ sym (find_push (has_seq q) xs x) ∙ ap (find (has_seq q)) (sym more);
      twice = λ q. twice q ∙ twice_more (is_some (get nat_cmp old.twice q)) (is_some (get nat_cmp old.places q)) (x.seq == q) (count_by (has_seq q) xs) (first.twice q) (first.present q ∙ any_count (has_seq q) xs)
          ∙ ap (leb 2) (sym (count_push (has_seq q) xs x)) ∙ ap (λ l. is_twice l q) (sym more);
    }
