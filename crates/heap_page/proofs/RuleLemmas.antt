-- The tests of a block decide the page rules.
use Rattle.std.proofs.Common.{◌≡◌, ℕ, ◌+◌, ◌≤◌, Bool, true, false, cond, eqb, leb, ◌&&◌, List, length, Option, Some, None, MatchOption, MatchResult, Result, Ok, Err, refl, sym, subst, inl, inr, Decides, arith}
use Rattle.std.specs.Prelude.{All}
use Rattle.std.specs.Result.{result_err}
use Rattle.std.proofs.lemmas.Bool.{le-leb}
use Rattle.std.proofs.lemmas.Bool.Decides.{Decides-eqb, nat_tests}
use Rattle.std.proofs.lemmas.List.Sums.{AllPass-from_list_all, list_all-from_AllPass}
use Rattle.std.proofs.lemmas.Bool.{eqb-true, eq-eqb}
use Rattle.heap_page.specs.declared.error.PageError.{PageError}
use Rattle.heap_page.specs.declared.error.PageError.TheVariants.{Size, Bounds, Version}
use Rattle.heap_page.specs.declared.line.LineState.{LineState}
use Rattle.heap_page.specs.declared.line.LineState.TheVariants.{Unused, Normal, Redirect, Dead}
use Rattle.heap_page.specs.Numbers.{u16_at}
use Rattle.heap_page.specs.Line.{ends_by}
use Rattle.heap_page.specs.Page.{IsPage, IsRefusedAs, IsInBounds, page_error, line_count, line_in_bounds, lines_in_bounds, header_in_bounds, is_zero, lower, upper, special}
use Rattle.heap_page.proofs.RangeLemmas.{list_all-range_at, list_all-range_all, both}
use Rattle.heap_page.proofs.PageLemmas.{ends_at}

Decides-zero : (block : List ℕ) → Decides (is_zero block) (All (λ byte. byte ≡ 0) block)
Decides-zero block = (
  λ h k d below. eqb-true _ _ (AllPass-from_list_all (λ byte. eqb byte 0) block h k d below),
  λ h. list_all-from_AllPass (λ byte. eqb byte 0) block (λ k d below. eq-eqb _ _ (h k d below)),
)

ends : (limit offset len : ℕ) (state : LineState) → (state ≡ Normal → offset + len ≤ limit) → ends_by limit offset len state ≡ true
ends limit offset len Normal h = le-leb _ _ (h refl)
ends limit offset len Unused h = refl
ends limit offset len Redirect h = refl
ends limit offset len Dead h = refl

in_order : (a b c d e : ℕ) → (leb a b && leb b c && leb c d && leb d e) ≡ true → (a ≤ b) × (b ≤ c) × (c ≤ d) × (d ≤ e)
in_order a b c d e h = grind (arith, nat_tests)

order_in : (a b c d e : ℕ) → a ≤ b → b ≤ c → c ≤ d → d ≤ e → (leb a b && leb b c && leb c d && leb d e) ≡ true
order_in a b c d e ab bc cd de = rw (le-leb a b ab, le-leb b c bc, le-leb c d cd, le-leb d e de) refl

Decides-bounds : (block : List ℕ) → Decides (header_in_bounds block && lines_in_bounds block) (IsInBounds block)
Decides-bounds block = (
  λ h. let parts = both (header_in_bounds block) (lines_in_bounds block) h in
      let order = in_order 24 (lower block) (upper block) (special block) 8192 parts.0 in
      record {
        header = order.0;
        free_space = order.1;
        tuples = order.2;
        special_space = order.3;
        lines = λ line first last normal. ends_at 8192 _ _ _ (list_all-range_at (line_in_bounds block) 1 (line_count block) line parts.1 first (omega arith)) normal;
      },
  λ h. let header : header_in_bounds block ≡ true = order_in 24 (lower block) (upper block) (special block) 8192 h.header h.free_space h.tuples h.special_space in
      let lines : lines_in_bounds block ≡ true = list_all-range_all (line_in_bounds block) 1 (line_count block) (λ k low high. ends 8192 _ _ _ (h.lines k low (omega arith))) in
      rw (header, lines) refl,
)

not_when_false : {P : Type 0} (test : Bool) → Decides test P → test ≡ false → ¬ P
not_when_false test d off p = let on : test ≡ true = d.1 p in cc

chosen : (block : List ℕ) (size zeros bounds version : Bool) → Decides size (length block ≡ 8192) → Decides zeros (All (λ byte. byte ≡ 0) block) → Decides bounds (IsInBounds block) → Decides version (u16_at block 18 ≡ 8196) → MatchOption (cond size (cond zeros None (cond bounds (cond version None (Some Version)) (Some Bounds))) (Some Size)) (IsPage block) (IsRefusedAs block)
chosen block false zeros bounds version s z b v = not_when_false false s refl
chosen block true true bounds version s z b v = (s.0 refl, inl (z.0 refl))
chosen block true false false version s z b v =
    (s.0 refl, not_when_false false z refl, not_when_false false b refl)
chosen block true false true false s z b v =
    (s.0 refl, not_when_false false z refl, b.0 refl, not_when_false false v refl)
chosen block true false true true s z b v = (s.0 refl, inr (b.0 refl, v.0 refl))

-- a block is a page where no error is named, and else refused as the error says
page_error-rules : (block : List ℕ) → MatchOption (page_error block) (IsPage block) (IsRefusedAs block)
page_error-rules block =
    chosen block (eqb (length block) 8192) (is_zero block) (header_in_bounds block && lines_in_bounds block) (eqb (u16_at block 18) 8196) (Decides-eqb _ _) (Decides-zero block) (Decides-bounds block) (Decides-eqb _ _)

answers : {T : Type 0} (block : List ℕ) (result : Result T PageError) (error : Option PageError) → result_err result ≡ error → MatchOption error (IsPage block) (IsRefusedAs block) → MatchResult result (λ _. IsPage block) (λ e. IsRefusedAs block e)
answers block (Ok page) error e h = subst (λ (o : Option PageError). MatchOption o (IsPage block) (IsRefusedAs block)) (sym e) h
answers block (Err why) error e h = subst (λ (o : Option PageError). MatchOption o (IsPage block) (IsRefusedAs block)) (sym e) h

pub rules_from_answer : {T : Type 0} (block : List ℕ) (result : Result T PageError) → result_err result ≡ page_error block → MatchResult result (λ _. IsPage block) (λ e. IsRefusedAs block e)
rules_from_answer block result e = answers block result (page_error block) e (page_error-rules block)
