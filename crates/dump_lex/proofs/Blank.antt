-- What stands before a byte, and the separators.
use Rattle.std.proofs.Common.{◌≡◌, ℕ, suc, ◌+◌, ◌<◌, ◌≤◌, Bool, true, false, cond, List, [], ◌∷◌, length, drop, Option, Some, None, refl, sym, ap, ◌∙◌, arith}
use Rattle.std.specs.Prelude.{not, nat_eq, unwrap_or}
use Rattle.std.specs.List.{position_or_len}
use Rattle.std.proofs.lemmas.Bool.{false_from_ne_true, eqb-true, and_parts, or_right}
use Rattle.std.proofs.lemmas.List.Sums.{position_or_len_is, prefix_len-le-length}
use Rattle.bstr.specs.Find.{IsFirstByte, is_byte}
use Rattle.dump_lex.specs.Bytes.{begins, is_newline, is_separator, is_dash, starts_comment, blanks}

-- what a search for a byte gives, or the length
pub first_byte : (byte : ℕ) (bytes : List ℕ) (o : Option ℕ) (r : ℕ) → IsFirstByte (is_byte byte) bytes o → r ≡ unwrap_or o (length bytes) → r ≡ position_or_len (λ b. nat_eq b byte) bytes
first_byte byte bytes None r h e =
    e ∙ sym (position_or_len_is (λ b. nat_eq b byte) bytes (length bytes) 0 (omega arith) (λ k lt. false_from_ne_true _ (h k (omega arith) lt)) (λ lt. absurd (omega arith)))
first_byte byte bytes (Some k) r h e =
    e ∙ sym (position_or_len_is (λ b. nat_eq b byte) bytes k 0 (omega (arith, h.0.high)) (λ j lt. false_from_ne_true _ (h.0.before j (omega arith) lt)) (λ _. h.1))

-- within a comment, up to its line's end
blanks-within : (bs : List ℕ) → blanks true bs ≡ position_or_len is_newline bs + blanks false (drop (position_or_len is_newline bs) bs)
blanks-within [] = refl
blanks-within (b ∷ bs) =
    let n = position_or_len is_newline bs in
    let one : 1 + n ≡ suc n = omega arith in
    let P : Bool → Type 0 = λ t. nat_eq b 10 ≡ t → 1 + blanks (not t) bs ≡ cond (not t) (1 + n) 0 + blanks false (drop (cond (not t) (1 + n) 0) (b ∷ bs)) in
    elim (nat_eq b 10) as P [
      | true ↦ λ e. let s : is_separator b ≡ true = or_right (nat_eq b 32) (nat_eq b 10) e in rw s (omega arith)
      | false ↦ λ _. let skip : blanks false (drop (1 + n) (b ∷ bs)) ≡ blanks false (drop n bs) = ap (λ (k : ℕ). blanks false (drop k (b ∷ bs))) one in omega (arith, skip, blanks-within bs)
    ] refl

abbrev pub IsComment : ℕ → List ℕ → Type 0
IsComment n bytes = (blanks false bytes ≡ n + blanks false (drop n bytes)) × (0 < n) × (n ≤ length bytes)

dash_comment : (bs : List ℕ) → begins is_dash bs ≡ true → IsComment (position_or_len is_newline (45 ∷ bs)) (45 ∷ bs)
dash_comment bs h =
    let n = position_or_len is_newline bs in
    let one : 1 + n ≡ suc n = omega arith in
    let skip : blanks false (drop (1 + n) (45 ∷ bs)) ≡ blanks false (drop n bs) = ap (λ (k : ℕ). blanks false (drop k (45 ∷ bs))) one in
    let here : blanks false (45 ∷ bs) ≡ 1 + blanks true bs = rw h refl in
    (omega (arith, here, skip, blanks-within bs), omega arith, prefix_len-le-length (λ b. not (nat_eq b 10)) (45 ∷ bs))

pub comment : (bytes : List ℕ) (n : ℕ) → starts_comment bytes ≡ true → n ≡ position_or_len is_newline bytes → IsComment n bytes
comment [] n h e = absurd cc
comment (b ∷ bs) n h e =
    let t = and_parts (is_dash b) (begins is_dash bs) h in
    let is : b ≡ 45 = eqb-true b 45 t.0 in
    rw (e, is) (dash_comment bs t.1)
