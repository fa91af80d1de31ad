-- The names that tokens are.
use Rattle.std.proofs.Common.{◌≡◌, ℕ, ◌+◌, ◌≤◌, Bool, true, cond, List, [], ◌∷◌, length, take, Option, Some, None, refl, sym, ap, ◌∙◌, inl, inr, arith}
use Rattle.std.specs.Prelude.{nat_lt, nat_le, ◌&&◌, option_map}
use Rattle.std.specs.Option.{option_map_or}
use Rattle.std.specs.List.{list_all}
use Rattle.std.proofs.lemmas.Bool.{lt-ltb, le-leb, or_cases, and_parts, and_from}
use Rattle.dump_lex.specs.declared.bytes.Class.TheVariants as classes
use Rattle.dump_lex.specs.declared.enclosed.Closed.{Closed}
use Rattle.dump_lex.specs.declared.token.TokenKind.{TokenKind}
use Rattle.dump_lex.specs.declared.token.TokenKind.TheVariants as kinds
use Rattle.dump_lex.specs.declared.token.LexKind.TheVariants.{BadName}
use Rattle.dump_lex.specs.Bytes.{in_class, is_lower, is_between}
use Rattle.dump_lex.specs.Enclosed.{enclosed, closing, closed_of, enclosed_text}
use Rattle.dump_lex.specs.Value.{is_name}
use Rattle.dump_lex.specs.Front.{quoted_token, front}
use Rattle.dump_lex.specs.Grammar.{IsWord, IsToken}
use Rattle.dump_lex.specs.Place.{IsNamed}
use Rattle.dump_lex.proofs.Runs.{between}
use Rattle.dump_lex.proofs.Leads.{lower_range}
use Rattle.dump_lex.proofs.Enclosing.{Found}
use Rattle.dump_lex.proofs.Delimited.{closing-doubled, nonzero-written}
use Rattle.dump_lex.proofs.Standing.{token, error, found_stands}

-- ---- what the code tests

abbrev pub name_test : ℕ → List ℕ → Bool
name_test len written = nat_lt 0 len && nat_le len 63 && list_all (λ b. nat_lt 0 b) written

abbrev pub kept : Closed → Option Closed
kept k = Some k

pub quoted_is : (inside : List ℕ) (q : Found) (k : Closed) (written : List ℕ) (b : Bool) → closing 34 inside ≡ q → kept k ≡ option_map closed_of q → written ≡ take k.len inside → b ≡ name_test k.text_len written
    → cond b (token (kinds.Quoted, k.len + 1)) (error BadName) ≡ quoted_token q
quoted_is inside None k written b h e w t = absurd cc
quoted_is inside (Some y) k written b h e w t =
    let same : k ≡ closed_of y = cc in
    let text_len : k.text_len ≡ length y.0 = ap (λ (c : Closed). c.text_len) same in
    let len : k.len ≡ y.1 = ap (λ (c : Closed). c.len) same in
    let whole : list_all (λ b. nat_lt 0 b) written ≡ list_all (λ b. nat_lt 0 b) y.0 = ap (list_all (λ b. nat_lt 0 b)) (w ∙ ap (λ (n : ℕ). take n inside) len) ∙ nonzero-written 34 inside y (omega arith) h in
    rw (t, text_len, len, whole) refl

-- ---- names

word_nonzero : (c : ℕ) → in_class classes.Word c ≡ true → nat_lt 0 c ≡ true
word_nonzero c h =
    elim (or_cases (is_lower c) (is_between 48 57 c) h) [
      | inl t ↦ (let r = lower_range c t in lt-ltb 0 c (omega arith))
      | inr t ↦ (let r = between 48 57 c t in lt-ltb 0 c (omega arith))
    ]

word_whole : (t : List ℕ) → list_all (in_class classes.Word) t ≡ true → list_all (λ b. nat_lt 0 b) t ≡ true
word_whole [] h = refl
word_whole (c ∷ cs) h = let p = and_parts (in_class classes.Word c) (list_all (in_class classes.Word) cs) h in and_from (nat_lt 0 c) (list_all (λ b. nat_lt 0 b) cs) (word_nonzero c p.0) (word_whole cs p.1)

-- a plain word is a name
pub word_named : (t : List ℕ) → IsWord t → length t ≤ 63 → is_name t ≡ true
word_named [] h short = let k = h.0 in absurd cc
word_named (b ∷ bs) h short = rw (lt-ltb 0 (length (b ∷ bs)) (omega arith), le-leb (length (b ∷ bs)) 63 short) (word_whole (b ∷ bs) h.1)

-- the text of what it encloses
pub enclosed_text-enclosed : (d : ℕ) (text : List ℕ) → enclosed_text d (enclosed d text) ≡ text
enclosed_text-enclosed d text = ap (λ (q : Found). option_map_or (λ x. x.0) q []) (closing-doubled d text [] refl)

token_named : (kind : TokenKind) (t : List ℕ) → IsToken kind t → IsNamed kind t
token_named kinds.Plain t h = word_named t h.0 h.1
token_named kinds.Quoted t h = ap (λ (l : List ℕ). is_name (enclosed_text 34 l)) h.2 ∙ ap is_name (enclosed_text-enclosed 34 h.0) ∙ h.1
token_named kinds.Keyword t h = tt
token_named kinds.Str t h = tt
token_named kinds.Hex t h = tt
token_named kinds.Number t h = tt
token_named kinds.Mark t h = tt

pub front_of_grammar : (bytes : List ℕ) (kind : TokenKind) (n : ℕ) → token (kind, n) ≡ front bytes → IsToken kind (take n bytes)
front_of_grammar bytes kind n e = (found_stands bytes kind n (sym e)).1.is_token

pub front_named : (bytes : List ℕ) (kind : TokenKind) (n : ℕ) → token (kind, n) ≡ front bytes → IsNamed kind (take n bytes)
front_named bytes kind n e = token_named kind (take n bytes) (front_of_grammar bytes kind n e)
