-- The normal lines of a page are the lines whose item is a tuple, in order.
use Rattle.std.proofs.Common.{◌≡◌, ℕ, zero, suc, ◌+◌, ◌<◌, ◌≤◌, Bool, true, false, cond, leb, ◌&&◌, List, ◌∷◌, length, get_or, Some, None, refl, sym, ap, ◌∙◌, subst, inl, inr, ◌⊎◌, ◌↔◌, arith}
use Rattle.std.specs.Prelude.{Contains, option_map, map}
use Rattle.std.specs.List.{filter_map, range_with_len, cons_option}
use Rattle.std.specs.List.Sorted.{IsStrictlyIncreasing}
use Rattle.std.proofs.lemmas.Bool.{cases_eq, leb-true, le-leb}
use Rattle.heap_page.specs.Line.{LineItem, unused, tuple, redirect, dead, tuple_of, pointer_item}
use Rattle.heap_page.specs.Page.{normal_line, items_of, item_at, line_pointer, line_count}
use Rattle.heap_page.proofs.RangeLemmas.{both}

-- a line and its tuple
abbrev Pair : Type 0
Pair = ℕ × List ℕ

abbrev pair : ℕ → List ℕ → Pair
pair line bytes = (line, bytes)

contains_tail : (x y : Pair) (xs : List Pair) → Contains xs y → Contains (x ∷ xs) y
contains_tail x y xs (k, below, at) = (suc k, omega arith, at)

contains_cases : (x y : Pair) (xs : List Pair) → Contains (x ∷ xs) y → (x ≡ y) ⊎ Contains xs y
contains_cases x y xs (zero, below, at) = inl at
contains_cases x y xs (suc k, below, at) = inr (k, omega arith, at)

-- ---- which pairs there are

-- the item at a line of a page
abbrev item_of_line : List ℕ → ℕ → LineItem
item_of_line page line = pointer_item page (line_pointer page line)

-- a pair is among those of a line and of the lines behind it
found_in : (line : ℕ) (item : LineItem) (rest : List Pair) (other : ℕ) (bytes : List ℕ) → Contains (cons_option (option_map (pair line) (tuple_of item)) rest) (pair other bytes) → ((line ≡ other) × (item ≡ tuple bytes)) ⊎ Contains rest (pair other bytes)
found_in line unused rest other bytes h = inr h
found_in line (tuple b) rest other bytes h =
    elim (contains_cases (pair line b) (pair other bytes) rest h) [
      | inl same ↦ inl (ap (λ (p : Pair). p.0) same, ap (λ (p : Pair). tuple p.1) same)
      | inr later ↦ inr later
    ]
found_in line (redirect to) rest other bytes h = inr h
found_in line dead rest other bytes h = inr h

found_later : (line : ℕ) (item : LineItem) (rest : List Pair) (p : Pair) → Contains rest p → Contains (cons_option (option_map (pair line) (tuple_of item)) rest) p
found_later line unused rest p h = h
found_later line (tuple b) rest p h = contains_tail (pair line b) p rest h
found_later line (redirect to) rest p h = h
found_later line dead rest p h = h

found_here : (line : ℕ) (item : LineItem) (rest : List Pair) (bytes : List ℕ) → item ≡ tuple bytes → Contains (cons_option (option_map (pair line) (tuple_of item)) rest) (pair line bytes)
found_here line item rest bytes h = rw h (0, omega arith, refl)

lines_found : (page : List ℕ) (a n other : ℕ) (bytes : List ℕ) → Contains (filter_map (normal_line page) (range_with_len a n)) (pair other bytes) → (a ≤ other) × (other < a + n) × (item_of_line page other ≡ tuple bytes)
lines_found page a zero other bytes (k, below, at) = absurd (omega arith)
lines_found page a (suc n) other bytes h =
    elim (found_in a (item_of_line page a) (filter_map (normal_line page) (range_with_len (a + 1) n)) other bytes h) [
      | inl here ↦
          let line = here.0 in (omega arith, omega arith, ap (item_of_line page) (sym line) ∙ here.1)
      | inr later ↦
          let rest = lines_found page (a + 1) n other bytes later in (omega arith, omega arith, rest.2)
    ]

lines_there : (page : List ℕ) (a n other : ℕ) (bytes : List ℕ) → a ≤ other → other < a + n → item_of_line page other ≡ tuple bytes → Contains (filter_map (normal_line page) (range_with_len a n)) (pair other bytes)
lines_there page a zero other bytes low high h = absurd (omega arith)
lines_there page a (suc n) other bytes low high h =
    elim (cases_eq a other) [
      | inl same ↦ subst (λ (line : ℕ). Contains (filter_map (normal_line page) (range_with_len a (suc n))) (pair line bytes)) same (found_here a (item_of_line page a) _ bytes (ap (item_of_line page) same ∙ h))
      | inr differ ↦
          found_later a (item_of_line page a) _ (pair other bytes) (lines_there page (a + 1) n other bytes (omega arith) (omega arith) h)
    ]

guarded : (test : Bool) (item : LineItem) (bytes : List ℕ) → cond test (Some item) None ≡ Some (tuple bytes) → (test ≡ true) × (item ≡ tuple bytes)
guarded true item bytes h = (refl, cc)
guarded false item bytes h = cc

pub items_of-exact : (page : List ℕ) (line : ℕ) (bytes : List ℕ) → Contains (items_of page) (pair line bytes) ↔ (item_at page line ≡ Some (tuple bytes))
items_of-exact page line bytes = (
  λ h. let found = lines_found page 1 (line_count page) line bytes h in
      let first : leb 1 line ≡ true = le-leb 1 line found.0 in
      let last : leb line (line_count page) ≡ true = le-leb line (line_count page) (omega arith) in
      rw (first, last, found.2) refl,
  λ h. let parts = guarded (leb 1 line && leb line (line_count page)) (item_of_line page line) bytes h in
      let tests = both (leb 1 line) (leb line (line_count page)) parts.0 in
      let first = leb-true 1 line tests.0 in
      let last = leb-true line (line_count page) tests.1 in
      lines_there page 1 (line_count page) line bytes first (omega arith) parts.1,
)

-- ---- their order

-- the lines of a list of pairs
abbrev lines : List Pair → List ℕ
lines = map (λ (p : Pair). p.0)

abbrev AllFrom : ℕ → List ℕ → Type 0
AllFrom a xs = (k : ℕ) → k < length xs → a ≤ get_or xs k 0

all_from_cons : (a x : ℕ) (xs : List ℕ) → a ≤ x → AllFrom a xs → AllFrom a (x ∷ xs)
all_from_cons a x xs h rest zero below = h
all_from_cons a x xs h rest (suc k) below = rest k (omega arith)

rise : (x : ℕ) (xs : List ℕ) → AllFrom (x + 1) xs → IsStrictlyIncreasing xs → IsStrictlyIncreasing (x ∷ xs)
rise x xs above rest zero below = let first = above 0 (omega arith) in omega arith
rise x xs above rest (suc k) below =
    let next : suc k + 1 ≡ suc (k + 1) = omega arith in rw next (rest k (omega arith))

from_step : (a : ℕ) (item : LineItem) (rest : List Pair) → AllFrom (a + 1) (lines rest) → AllFrom a (lines (cons_option (option_map (pair a) (tuple_of item)) rest))
from_step a unused rest h = λ k below. let low = h k below in omega arith
from_step a (tuple b) rest h =
    all_from_cons a a (lines rest) (omega arith) (λ k below. let low = h k below in omega arith)
from_step a (redirect to) rest h = λ k below. let low = h k below in omega arith
from_step a dead rest h = λ k below. let low = h k below in omega arith

lines_from : (page : List ℕ) (a n : ℕ) → AllFrom a (lines (filter_map (normal_line page) (range_with_len a n)))
lines_from page a zero = λ k below. absurd (omega arith)
lines_from page a (suc n) = from_step a (item_of_line page a) _ (lines_from page (a + 1) n)

rise_step : (a : ℕ) (item : LineItem) (rest : List Pair) → AllFrom (a + 1) (lines rest) → IsStrictlyIncreasing (lines rest) → IsStrictlyIncreasing (lines (cons_option (option_map (pair a) (tuple_of item)) rest))
rise_step a unused rest above h = h
rise_step a (tuple b) rest above h = rise a (lines rest) above h
rise_step a (redirect to) rest above h = h
rise_step a dead rest above h = h

lines_rise : (page : List ℕ) (a n : ℕ) → IsStrictlyIncreasing (lines (filter_map (normal_line page) (range_with_len a n)))
lines_rise page a zero = λ k below. absurd (omega arith)
lines_rise page a (suc n) =
    rise_step a (item_of_line page a) _ (lines_from page (a + 1) n) (lines_rise page (a + 1) n)

pub items_of-rise : (page : List ℕ) → IsStrictlyIncreasing (lines (items_of page))
items_of-rise page = lines_rise page 1 (line_count page)
