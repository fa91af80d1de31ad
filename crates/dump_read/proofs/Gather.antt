-- The loop that gathers the tokens of a statement.
use Rattle.std.proofs.Common.{◌≡◌, ℕ, zero, suc, ◌<◌, Bool, true, false, cond, List, [], ◌∷◌, ◌++◌, length, Option, Some, None, Result, Ok, Err, refl, sym, ap, ◌∙◌, append_assoc, arith}
use Rattle.std.proofs.lemmas.List.{append-nil}
use Rattle.dump_lex.specs.declared.token.LexError.{LexError}
use Rattle.dump_lex.specs.Place.{Place, PlacedToken, next, rest_of}
use Rattle.dump_lex.specs.Reading.{word_of}
use Rattle.dump_grammar.specs.declared.error.TextError.{TextError}
use Rattle.dump_read.specs.Form.{is_end}
use Rattle.dump_read.specs.Reading.{Front, lex_error, with_tokens, gathered, gather}

with_tokens-more : (f g : List PlacedToken) (r : Result Front TextError) → with_tokens f (with_tokens g r) ≡ with_tokens (f ++ g) r
with_tokens-more f g (Ok x) = ap (λ (ts : List PlacedToken). Ok (ts, x.1)) (sym (append_assoc f g x.0))
with_tokens-more f g (Err e) = refl

pub gather_err : (n : ℕ) (p : Place) (front : List PlacedToken) (e : LexError) (total : Result Front TextError) → length (rest_of p) < n → next p ≡ Err e → with_tokens front (gather n p) ≡ total → total ≡ Err (lex_error e)
unfolding gather
gather_err zero p front e total lt h so_far = absurd (omega arith)
gather_err (suc n) p front e total lt h so_far = sym so_far ∙ ap (λ (r : Result (Option (PlacedToken × Place)) LexError). with_tokens front (gathered (gather n) p r)) h

pub gather_none : (n : ℕ) (p q : Place) (front : List PlacedToken) (total : Result Front TextError) → length (rest_of p) < n → next p ≡ Ok None → q ≡ p → with_tokens front (gather n p) ≡ total → total ≡ Ok (front, q)
unfolding gather
gather_none zero p q front total lt h same so_far = absurd (omega arith)
gather_none (suc n) p q front total lt h same so_far =
    sym so_far ∙ ap (λ (r : Result (Option (PlacedToken × Place)) LexError). with_tokens front (gathered (gather n) p r)) h ∙ (λ i. Ok (append-nil front i, sym same i))

pub gather_end : (n : ℕ) (p q : Place) (front : List PlacedToken) (t : PlacedToken) (total : Result Front TextError) → length (rest_of p) < n → next p ≡ Ok (Some (t, q)) → is_end (word_of t) ≡ true → with_tokens front (gather n p) ≡ total → total ≡ Ok (front ++ t ∷ [], q)
unfolding gather
gather_end zero p q front t total lt h end so_far = absurd (omega arith)
gather_end (suc n) p q front t total lt h end so_far =
    let go : Bool → Result Front TextError = λ b. with_tokens front (cond b (Ok (t ∷ [], q)) (with_tokens (t ∷ []) (gather n q))) in
    sym so_far ∙ ap (λ (r : Result (Option (PlacedToken × Place)) LexError). with_tokens front (gathered (gather n) p r)) h ∙ ap go end

pub gather_more : (n : ℕ) (p q : Place) (front : List PlacedToken) (t : PlacedToken) (total : Result Front TextError) → length (rest_of p) < n → next p ≡ Ok (Some (t, q)) → is_end (word_of t) ≡ false → length (rest_of q) < length (rest_of p) → with_tokens front (gather n p) ≡ total
    → (m : ℕ) × (length (rest_of q) < m) × (with_tokens (front ++ t ∷ []) (gather m q) ≡ total)
unfolding gather
gather_more zero p q front t total lt h end on so_far = absurd (omega arith)
gather_more (suc n) p q front t total lt h end on so_far =
    let go : Bool → Result Front TextError = λ b. with_tokens front (cond b (Ok (t ∷ [], q)) (with_tokens (t ∷ []) (gather n q))) in
    let one : with_tokens front (gather (suc n) p) ≡ with_tokens (front ++ t ∷ []) (gather n q) = ap (λ (r : Result (Option (PlacedToken × Place)) LexError). with_tokens front (gathered (gather n) p r)) h ∙ ap go end ∙ with_tokens-more front (t ∷ []) (gather n q) in
    (n, omega arith, sym one ∙ so_far)
