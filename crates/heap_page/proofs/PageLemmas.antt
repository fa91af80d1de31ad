-- What a block keeps that is refused for no reason.
use Rattle.std.proofs.Common.{◌≡◌, ℕ, zero, suc, ◌+◌, ◌-◌, ◌*◌, ◌/◌, ◌≤◌, Bool, true, false, cond, eqb, ◌&&◌, leb, List, [], ◌∷◌, length, get_or, Some, None, refl, inl, inr, ◌⊎◌, arith}
use Rattle.std.proofs.lemmas.Bool.{leb-true, eqb-true}
use Rattle.std.proofs.lemmas.Bool.Decides.{nat_tests}
use Rattle.std.specs.List.{list_all}
use Rattle.heap_page.specs.declared.error.PageError.TheVariants.{Size, Bounds, Version}
use Rattle.heap_page.specs.declared.line.LineState.{LineState}
use Rattle.heap_page.specs.declared.line.LineState.TheVariants.{Unused, Normal, Redirect, Dead}
use Rattle.heap_page.specs.Numbers.{u16_at}
use Rattle.heap_page.specs.Line.{ends_by}
use Rattle.heap_page.specs.Page.{page_error, line_count, line_pointer, tuple_end, line_in_bounds, lines_in_bounds, header_in_bounds, is_zero, lower, upper, special}
use Rattle.heap_page.proofs.RangeLemmas.{list_all-range_at, both}

-- what a page keeps: its line pointers lie within it, and so does the tuple of each normal line
pub record IsSound (page : List ℕ) : Type 0 where
  pub size : length page ≡ 8192
  pub lines : 24 + 4 * line_count page ≤ 8192
  pub tuples : (line : ℕ) → 1 ≤ line → line ≤ line_count page → (line_pointer page line).state ≡ Normal → tuple_end page line ≤ 8192

-- which tests a chain of three refusals passed
passed : (size zeros bounds version : Bool) → cond size (cond zeros None (cond bounds (cond version None (Some Version)) (Some Bounds))) (Some Size) ≡ None → (size ≡ true) × ((zeros ≡ true) ⊎ (bounds ≡ true))
passed false zeros bounds version h = cc
passed true true bounds version h = (refl, inl refl)
passed true false false version h = cc
passed true false true version h = (refl, inr refl)

zero_at : (bytes : List ℕ) (i : ℕ) → list_all (λ byte. eqb byte 0) bytes ≡ true → get_or bytes i 0 ≡ 0
zero_at [] i all = refl
zero_at (x ∷ xs) zero all = grind (arith, nat_tests)
zero_at (x ∷ xs) (suc i) all = zero_at xs i (grind (arith, nat_tests))

-- a page of zeros has no lines
lower-zero : (bytes : List ℕ) → is_zero bytes ≡ true → lower bytes ≡ 0
unfolding u16_at
lower-zero bytes all = rw (zero_at bytes 12 all, zero_at bytes 13 all) refl

pub ends_at : (limit offset len : ℕ) (state : LineState) → ends_by limit offset len state ≡ true → state ≡ Normal → offset + len ≤ limit
ends_at limit offset len Normal h normal = leb-true _ _ h
ends_at limit offset len Unused h normal = cc
ends_at limit offset len Redirect h normal = cc
ends_at limit offset len Dead h normal = cc

in_order : (a b c d e : ℕ) → (leb a b && leb b c && leb c d && leb d e) ≡ true → (a ≤ b) × (b ≤ e)
in_order a b c d e h = grind (arith, nat_tests)

lines_fit : (lower : ℕ) → lower ≤ 8192 → 24 + 4 * ((lower - 24) / 4) ≤ 8192
lines_fit lower h = omega arith

pub sound_from_no_error : (page : List ℕ) → page_error page ≡ None → IsSound page
sound_from_no_error page accepted =
    let tests = passed (eqb (length page) 8192) (is_zero page) (header_in_bounds page && lines_in_bounds page) (eqb (u16_at page 18) 8196) accepted in
    let size : length page ≡ 8192 = eqb-true _ _ tests.0 in
    elim tests.1 [
      | inl zeros ↦
          let none : lower page ≡ 0 = lower-zero page zeros in
          let empty : line_count page ≡ 0 = rw none refl in
          record { size = size; lines = rw empty (omega arith); tuples = λ line first last normal. absurd (omega arith) }
      | inr bounds ↦
          let parts = both (header_in_bounds page) (lines_in_bounds page) bounds in
          let order = in_order 24 (lower page) (upper page) (special page) 8192 parts.0 in
          record {
            size = size;
            lines = lines_fit (lower page) order.1;
            tuples = λ line first last normal. ends_at 8192 _ _ _ (list_all-range_at (line_in_bounds page) 1 (line_count page) line parts.1 first (omega arith)) normal;
          }
    ]

few : (count : ℕ) → 24 + 4 * count ≤ 8192 → count ≤ 2042
few count h = omega arith

-- a page has at most 2042 lines
pub line_count-le : (page : List ℕ) → page_error page ≡ None → line_count page ≤ 2042
line_count-le page accepted = few (line_count page) (sound_from_no_error page accepted).lines

-- the line pointers of a page lie within it
pub pointer_within : (page : List ℕ) (line : ℕ) → page_error page ≡ None → line ≤ line_count page → 24 + 4 * line ≤ length page
pointer_within page line accepted last =
    let sound = sound_from_no_error page accepted in
    let size : length page ≡ 8192 = sound.size in
    let lines : 24 + 4 * line_count page ≤ 8192 = sound.lines in
    omega arith

-- and so does the tuple of a normal line
pub tuple_within : (page : List ℕ) (line : ℕ) → page_error page ≡ None → 1 ≤ line → line ≤ line_count page → (line_pointer page line).state ≡ Normal → tuple_end page line ≤ length page
tuple_within page line accepted first last normal =
    let sound = sound_from_no_error page accepted in
    rw sound.size (sound.tuples line first last normal)
