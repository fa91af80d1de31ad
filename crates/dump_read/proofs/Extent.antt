-- A statement from where its tokens stand.
use Rattle.std.proofs.Common.{◌≡◌, ℕ, zero, suc, ◌+◌, ◌<◌, Bool, true, false, cond, List, [], ◌∷◌, ◌++◌, length, map, Option, Some, None, Result, Ok, Err, refl, sym, ap, subst, ◌∙◌, arith, length-append}
use Rattle.std.proofs.lemmas.List.{length-map}
use Rattle.dump_lex.specs.declared.token.LexError.{LexError}
use Rattle.dump_lex.specs.Place.{Place, PlacedToken, next, rest_of}
use Rattle.dump_lex.specs.Reading.{word_of}
use Rattle.dump_grammar.specs.declared.error.TextError.{TextError}
use Rattle.dump_grammar.specs.Spelling.{Word}
use Rattle.dump_read.specs.Form.{is_end, form}
use Rattle.dump_read.specs.Reading.{◌>>=◌, Front, with_tokens, gathered, gather, placed_as, placed_of, statement_at}
use Rattle.dump_read.specs.Ahead.{words_on, words_ahead, first_line, IsExtent, StandsNext}

abbrev Next : Type 0
Next = Result (Option (PlacedToken × Place)) LexError

-- ---- tokens that were gathered are those ahead

abbrev WordsAre : Place → List PlacedToken → Type 0
WordsAre p ts = words_ahead (length ts) p ≡ map word_of ts

front_is : (ts us : List PlacedToken) (p q : Place) → ◌≡◌ {A = Result Front TextError} (Ok (us, p)) (Ok (ts, q)) → us ≡ ts
front_is ts us p q e = let k : (us, p) ≡ (ts, q) = cc in ap (λ (x : Front). x.0) k

words_behind : (n : ℕ) (p : Place) (x : PlacedToken × Place) (ts : List PlacedToken) (q : Place) (r : Result Front TextError) → next p ≡ Ok (Some x) → gather n x.1 ≡ r
    → ((us : List PlacedToken) (z : Place) → gather n x.1 ≡ Ok (us, z) → words_ahead (length us) x.1 ≡ map word_of us)
    → with_tokens (x.0 ∷ []) r ≡ Ok (ts, q) → words_ahead (length ts) p ≡ map word_of ts
unfolding words_ahead
words_behind n p x ts q (Err f) is on go e = absurd cc
words_behind n p x ts q (Ok y) is on go e =
    let same : x.0 ∷ y.0 ≡ ts = front_is ts (x.0 ∷ y.0) y.1 q e in
    let ahead : words_ahead (suc (length y.0)) p ≡ word_of x.0 ∷ words_ahead (length y.0) x.1 = ap (λ (r : Next). words_on (words_ahead (length y.0)) r) is in
    subst (WordsAre p) same (ahead ∙ ap (λ (ws : List Word). word_of x.0 ∷ ws) (go y.0 y.1 on))

words_by_end : (n : ℕ) (p : Place) (x : PlacedToken × Place) (ts : List PlacedToken) (q : Place) (b : Bool) → next p ≡ Ok (Some x) → is_end (word_of x.0) ≡ b
    → ((us : List PlacedToken) (z : Place) → gather n x.1 ≡ Ok (us, z) → words_ahead (length us) x.1 ≡ map word_of us)
    → cond b (Ok (x.0 ∷ [], x.1)) (with_tokens (x.0 ∷ []) (gather n x.1)) ≡ Ok (ts, q) → words_ahead (length ts) p ≡ map word_of ts
unfolding words_ahead
words_by_end n p x ts q true is end go e =
    let same : x.0 ∷ [] ≡ ts = front_is ts (x.0 ∷ []) x.1 q e in
    subst (WordsAre p) same (ap (λ (r : Next). words_on (words_ahead 0) r) is)
words_by_end n p x ts q false is end go e = words_behind n p x ts q (gather n x.1) is refl go e

words_by_next : (n : ℕ) (p : Place) (ts : List PlacedToken) (q : Place) (r : Next) → next p ≡ r
    → ((o : Place) (us : List PlacedToken) (z : Place) → gather n o ≡ Ok (us, z) → words_ahead (length us) o ≡ map word_of us)
    → gathered (gather n) p r ≡ Ok (ts, q) → words_ahead (length ts) p ≡ map word_of ts
unfolding words_ahead
words_by_next n p ts q (Err f) is go e = absurd cc
words_by_next n p ts q (Ok None) is go e = subst (WordsAre p) (front_is ts [] p q e) refl
words_by_next n p ts q (Ok (Some x)) is go e = words_by_end n p x ts q (is_end (word_of x.0)) is refl (go x.1) e

pub words_gathered : (n : ℕ) (p : Place) (ts : List PlacedToken) (q : Place) → gather n p ≡ Ok (ts, q) → words_ahead (length ts) p ≡ map word_of ts
unfolding gather words_ahead
words_gathered zero p ts q e = subst (WordsAre p) (front_is ts [] p q e) refl
words_gathered (suc n) p ts q e = words_by_next n p ts q (next p) refl (words_gathered n) e

-- ---- one token more

pub line_first : (front : List PlacedToken) (t : PlacedToken) → length front ≡ 0 → first_line (front ++ t ∷ []) ≡ t.line
line_first [] t e = refl
line_first (x ∷ xs) t e = absurd (omega (arith, e))

pub line_later : (front : List PlacedToken) (t : PlacedToken) → 0 < length front → first_line (front ++ t ∷ []) ≡ first_line front
line_later [] t lt = absurd (omega (arith, lt))
line_later (x ∷ xs) t lt = refl

pub count_one : (front : List PlacedToken) (t : PlacedToken) (count : ℕ) → length front ≡ count → length (front ++ t ∷ []) ≡ count + 1
count_one front t count e = omega (arith, length-append front (t ∷ []), e)

-- ---- the statement of an extent

pub all_stand : (p after : Place) (count line : ℕ) → IsExtent (gather (suc (length (rest_of p))) p) count line after → length (words_ahead count p) ≡ count
all_stand p after count line x = rw (sym x.2) (ap length (words_gathered (suc (length (rest_of p))) p x.0 after x.1) ∙ length-map x.0 word_of)

placed_there : (ts : List PlacedToken) (after : Place) → 0 < length ts → placed_of (ts, after) ≡ placed_as (first_line ts) after (form (map word_of ts))
placed_there [] after lt = absurd (omega arith)
placed_there (t ∷ ts) after lt = refl

pub statement_is : (p after : Place) (count line : ℕ) → IsExtent (gather (suc (length (rest_of p))) p) count line after → 0 < count
    → statement_at p ≡ placed_as line after (form (words_ahead count p))
unfolding statement_at
statement_is p after count line x lt =
    let words = words_gathered (suc (length (rest_of p))) p x.0 after x.1 in
    let there = placed_there x.0 after (omega (arith, lt, x.2)) in
    rw (sym x.2, sym x.3) (ap (λ (r : Result Front TextError). r >>= placed_of) x.1 ∙ there ∙ ap (λ (ws : List Word). placed_as (first_line x.0) after (form ws)) (sym words))

none_there : (ts : List PlacedToken) (after : Place) → length ts ≡ 0 → placed_of (ts, after) ≡ Ok None
none_there [] after e = refl
none_there (t ∷ ts) after e = absurd cc

pub none_is : (p after : Place) (count line : ℕ) → IsExtent (gather (suc (length (rest_of p))) p) count line after → count ≡ 0 → statement_at p ≡ Ok None
unfolding statement_at
none_is p after count line x e = ap (λ (r : Result Front TextError). r >>= placed_of) x.1 ∙ none_there x.0 after (x.2 ∙ e)

pub refused_is : (p : Place) (e : TextError) → gather (suc (length (rest_of p))) p ≡ Err e → statement_at p ≡ Err e
unfolding statement_at
refused_is p e g = ap (λ (r : Result Front TextError). r >>= placed_of) g

pub stands_next : (p after : Place) (count line : ℕ) → IsExtent (gather (suc (length (rest_of p))) p) count line after → 0 < count → StandsNext p
stands_next p after count line x lt = ((x.0, after), x.1, omega (arith, lt, x.2))
