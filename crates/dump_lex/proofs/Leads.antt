-- What the first byte of a token says of it.
use Rattle.std.proofs.Common.{◌≡◌, ℕ, ◌<◌, ◌≤◌, true, false, cond, refl, inl, inr, arith}
use Rattle.std.specs.Prelude.{nat_le, nat_eq, ◌||◌}
use Rattle.std.proofs.lemmas.Bool.{eqb-true, lt-leb, or_cases, or_from, or_parts, and_left, and_right, ne_eqb, cond_both}
use Rattle.dump_lex.specs.declared.bytes.Lead.{Lead}
use Rattle.dump_lex.specs.declared.bytes.Lead.TheVariants as leads
use Rattle.dump_lex.specs.Bytes.{is_between, is_lower, is_mark, lead_of}
use Rattle.dump_lex.specs.Grammar.{begins_token}
use Rattle.dump_lex.proofs.Runs.{between}

-- what the byte is
abbrev pub IsLead : ℕ → Lead → Type 0
IsLead b leads.Capital = is_between 65 90 b ≡ true
IsLead b leads.Letter = is_lower b ≡ true
IsLead b leads.Digit = is_between 48 57 b ≡ true
IsLead b leads.Quote = b ≡ 34
IsLead b leads.Apostrophe = b ≡ 39
IsLead b leads.Mark = is_mark b ≡ true
IsLead b leads.Other = begins_token b ≡ false

pub lead_is : (b : ℕ) → IsLead b (lead_of b)
lead_is b =
    cond_both (is_between 65 90 b) leads.Capital (cond (is_lower b) leads.Letter (cond (is_between 48 57 b) leads.Digit (cond (nat_eq b 34) leads.Quote (cond (nat_eq b 39) leads.Apostrophe (cond (is_mark b) leads.Mark leads.Other))))) (IsLead b) (λ h. h)
    (λ f. cond_both (is_lower b) leads.Letter (cond (is_between 48 57 b) leads.Digit (cond (nat_eq b 34) leads.Quote (cond (nat_eq b 39) leads.Apostrophe (cond (is_mark b) leads.Mark leads.Other)))) (IsLead b) (λ h. h)
    (λ g. cond_both (is_between 48 57 b) leads.Digit (cond (nat_eq b 34) leads.Quote (cond (nat_eq b 39) leads.Apostrophe (cond (is_mark b) leads.Mark leads.Other))) (IsLead b) (λ h. h)
    (λ k. cond_both (nat_eq b 34) leads.Quote (cond (nat_eq b 39) leads.Apostrophe (cond (is_mark b) leads.Mark leads.Other)) (IsLead b) (eqb-true b 34)
    (λ l. cond_both (nat_eq b 39) leads.Apostrophe (cond (is_mark b) leads.Mark leads.Other) (IsLead b) (eqb-true b 39)
    (λ m. cond_both (is_mark b) leads.Mark leads.Other (IsLead b) (λ h. h) (λ n. rw (f, g, k, l, m, n) refl))))))

below : (low high b : ℕ) → b < low → is_between low high b ≡ false
below low high b h = and_left (nat_le low b) (nat_le b high) (lt-leb low b h)

above : (low high b : ℕ) → high < b → is_between low high b ≡ false
above low high b h = and_right (nat_le low b) (nat_le b high) (lt-leb b high h)

pub lower_range : (b : ℕ) → is_lower b ≡ true → (95 ≤ b) × (b ≤ 122)
lower_range b h = elim (or_cases (is_between 97 122 b) (nat_eq b 95) h) [ inl t ↦ (let r = between 97 122 b t in (omega arith, omega arith)) | inr t ↦ (let r = eqb-true b 95 t in (omega arith, omega arith)) ]

pub capital_lead : (b : ℕ) → is_between 65 90 b ≡ true → lead_of b ≡ leads.Capital
capital_lead b h = rw h refl

pub letter_lead : (b : ℕ) → is_lower b ≡ true → lead_of b ≡ leads.Letter
letter_lead b h = let r = lower_range b h in rw (above 65 90 b (omega arith), h) refl

not_lower : (b : ℕ) → b < 95 → is_lower b ≡ false
not_lower b h = or_from (is_between 97 122 b) (nat_eq b 95) (below 97 122 b (omega arith)) (ne_eqb b 95 (λ e. omega arith))

pub digit_lead : (b : ℕ) → is_between 48 57 b ≡ true → lead_of b ≡ leads.Digit
digit_lead b h = let r = between 48 57 b h in rw (below 65 90 b (omega arith), not_lower b (omega arith), h) refl

pub mark_lead : (b : ℕ) → is_mark b ≡ true → lead_of b ≡ leads.Mark
mark_lead b h =
    elim (or_cases (nat_eq b 40 || nat_eq b 41 || nat_eq b 44 || nat_eq b 59) (nat_eq b 46) h) [
      | inr t ↦ rw (eqb-true b 46 t) refl
      | inl h ↦ elim (or_cases (nat_eq b 40 || nat_eq b 41 || nat_eq b 44) (nat_eq b 59) h) [
        | inr t ↦ rw (eqb-true b 59 t) refl
        | inl h ↦ elim (or_cases (nat_eq b 40 || nat_eq b 41) (nat_eq b 44) h) [
          | inr t ↦ rw (eqb-true b 44 t) refl
          | inl h ↦ elim (or_cases (nat_eq b 40) (nat_eq b 41) h) [ inl t ↦ rw (eqb-true b 40 t) refl | inr t ↦ rw (eqb-true b 41 t) refl ]
        ]
      ]
    ]

pub other_lead : (b : ℕ) → begins_token b ≡ false → lead_of b ≡ leads.Other
other_lead b h =
    let p = or_parts (is_between 65 90 b || is_lower b || is_between 48 57 b || nat_eq b 34 || nat_eq b 39) (is_mark b) h in
    let q = or_parts (is_between 65 90 b || is_lower b || is_between 48 57 b || nat_eq b 34) (nat_eq b 39) p.0 in
    let r = or_parts (is_between 65 90 b || is_lower b || is_between 48 57 b) (nat_eq b 34) q.0 in
    let s = or_parts (is_between 65 90 b || is_lower b) (is_between 48 57 b) r.0 in
    let t = or_parts (is_between 65 90 b) (is_lower b) s.0 in
    rw (t.0, t.1, s.1, r.1, q.1, p.1) refl
