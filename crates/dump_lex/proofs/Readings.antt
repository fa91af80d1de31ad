-- Each text has one reading.
use Rattle.std.proofs.Common.{◌≡◌, ℕ, zero, suc, ◌+◌, ◌-◌, ◌<◌, ◌≤◌, false, List, [], ◌∷◌, length, take, drop, Option, Some, None, Result, Ok, Err, refl, sym, ap, subst, ◌∙◌, length-drop, arith}
use Rattle.dump_lex.specs.declared.token.LexError.{LexError}
use Rattle.dump_lex.specs.Bytes.{blanks}
use Rattle.dump_lex.specs.Front.{front}
use Rattle.dump_lex.specs.Place.{Place, PlacedToken, rest_of, line_at, token_there, token_or_end, next}
use Rattle.dump_lex.specs.Reading.{Reads, TextIsRead, ReadingIsOne}
use Rattle.dump_lex.proofs.Standing.{Answer, front_within}

abbrev pub Step : Type 0
Step = Result (Option (PlacedToken × Place)) LexError

abbrev pub step : PlacedToken × Place → Step
step x = Ok (Some x)

abbrev pub ended : Step
ended = Ok None

abbrev pub failed : LexError → Step
failed e = Err e

-- ---- a token is behind the place, and a place behind it has less left

token_within : (source : List ℕ) (at : ℕ) (bytes : List ℕ) (r : Answer) (x : PlacedToken × Place) → front bytes ≡ r → token_there source at bytes r ≡ step x → (n : ℕ) × (0 < n) × (n ≤ length bytes) × (record { source = source; start = at + n } ≡ x.1)
token_within source at bytes (Ok y) x is e = let w = front_within bytes y is in (y.1, w.0, w.1, let k : (record { kind = y.0; text = take y.1 bytes; start = at; line = line_at source at }, record { source = source; start = at + y.1 }) ≡ x = cc in ap (λ (p : PlacedToken × Place). p.1) k)
token_within source at bytes (Err kind) x is e = absurd cc

found_within : (source : List ℕ) (at : ℕ) (bytes : List ℕ) (x : PlacedToken × Place) → token_or_end source at bytes ≡ step x → (n : ℕ) × (0 < n) × (n ≤ length bytes) × (record { source = source; start = at + n } ≡ x.1)
found_within source at [] x e = absurd cc
found_within source at (b ∷ bs) x e = token_within source at (b ∷ bs) (front (b ∷ bs)) x refl e

pub next_within : (p : Place) (x : PlacedToken × Place) → next p ≡ step x → length (rest_of x.1) < length (rest_of p)
unfolding next
next_within p x e =
    let k = blanks false (rest_of p) in
    let w = found_within p.source (p.start + k) (drop k (rest_of p)) x e in
    let there : length (rest_of x.1) ≡ length p.source - (p.start + k + w.0) = ap (λ (q : Place). length (rest_of q)) (sym w.3) ∙ length-drop (p.start + k + w.0) p.source in
    omega (arith, there, w.1, w.2, length-drop k (rest_of p), length-drop p.start p.source)

-- ---- there is a reading

abbrev Reading : Place → Type 0
Reading p = (tokens : List PlacedToken) × (end : Option LexError) × Reads p tokens end

reading_from : (p : Place) (r : Step) → next p ≡ r → ((x : PlacedToken × Place) → r ≡ step x → Reading x.1) → Reading p
reading_from p (Ok None) e on = ([], None, e)
reading_from p (Ok (Some x)) e on = let later = on x refl in (x.0 ∷ later.0, later.1, (x.1, e, later.2))
reading_from p (Err k) e on = ([], Some k, e)

reading_below : (n : ℕ) (p : Place) → length (rest_of p) < n → Reading p
reading_below zero p lt = absurd (omega arith)
reading_below (suc n) p lt = reading_from p (next p) refl (λ x e. reading_below n x.1 (omega (arith, next_within p x e)))

pub text_is_read : TextIsRead
text_is_read p = reading_below (suc (length (rest_of p))) p (omega arith)

-- ---- and only one

abbrev Same : List PlacedToken → List PlacedToken → Option LexError → Option LexError → Type 0
Same ts us d e = (ts ≡ us) × (d ≡ e)

same_found : (x y : PlacedToken × Place) → step x ≡ step y → x ≡ y
same_found x y e = cc

same_step : (p : Place) (t u : PlacedToken) (q r : Place) → next p ≡ step (t, q) → next p ≡ step (u, r) → (t ≡ u) × (q ≡ r)
same_step p t u q r h k =
    let e = same_found (t, q) (u, r) (sym h ∙ k) in
    (ap (λ (x : PlacedToken × Place). x.0) e, ap (λ (x : PlacedToken × Place). x.1) e)

pub reading_is_one : ReadingIsOne
reading_is_one p [] [] None None h k = (refl, refl)
reading_is_one p [] [] None (Some e) h k = absurd (let c : ended ≡ failed e = sym h ∙ k in cc)
reading_is_one p [] [] (Some d) None h k = absurd (let c : failed d ≡ ended = sym h ∙ k in cc)
reading_is_one p [] [] (Some d) (Some e) h k = (refl, let c : failed d ≡ failed e = sym h ∙ k in cc)
reading_is_one p [] (u ∷ us) None e h k = absurd (let c : ended ≡ step (u, k.0) = sym h ∙ k.1 in cc)
reading_is_one p [] (u ∷ us) (Some d) e h k = absurd (let c : failed d ≡ step (u, k.0) = sym h ∙ k.1 in cc)
reading_is_one p (t ∷ ts) [] d None h k = absurd (let c : step (t, h.0) ≡ ended = sym h.1 ∙ k in cc)
reading_is_one p (t ∷ ts) [] d (Some e) h k = absurd (let c : step (t, h.0) ≡ failed e = sym h.1 ∙ k in cc)
reading_is_one p (t ∷ ts) (u ∷ us) d e h k =
    let s = same_step p t u h.0 k.0 h.1 k.1 in
    let later = reading_is_one h.0 ts us d e h.2 (subst (λ (q : Place). Reads q us e) (sym s.1) k.2) in
    (λ i. s.0 i ∷ later.0 i, later.1)
