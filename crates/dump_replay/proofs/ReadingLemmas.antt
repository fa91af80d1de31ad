-- A statement that is read takes bytes, and why none is read.
use Rattle.std.proofs.Common.{◌≡◌, ℕ, zero, suc, ◌+◌, ◌<◌, ◌≤◌, List, [], ◌∷◌, length, map, Option, Some, None, Result, Ok, Err, refl, ap, subst, inl, inr, arith}
use Rattle.dump_lex.specs.declared.token.LexError.{LexError}
use Rattle.dump_lex.specs.Place.{Place, PlacedToken, rest_of, next}
use Rattle.dump_lex.specs.Reading.{word_of}
use Rattle.dump_lex.proofs.Runs.{chosen}
use Rattle.dump_lex.proofs.Readings.{next_within}
use Rattle.catalog.specs.declared.error.CatalogError.TheVariants.{OutOfMemory}
use Rattle.dump_grammar.specs.declared.error.TextError.{TextError}
use Rattle.dump_grammar.specs.declared.error.TextCause.TheVariants as causes
use Rattle.dump_grammar.specs.declared.statement.Statement.{Statement}
use Rattle.dump_read.specs.Form.{is_end, form}
use Rattle.dump_read.specs.Reading.{◌>>=◌, Front, PlacedStatement, with_tokens, gathered, gather, placed_as, placed_of, statement_at}

-- the text goes on only so far
abbrev pub Shrinks : Type 0
Shrinks = (p : Place) (x : PlacedStatement) → statement_at p ≡ Ok (Some x) → length (rest_of x.after) < length (rest_of p)

abbrev front_of : Front → Result Front TextError
front_of x = Ok x

ends_there : (p : Place) (x : Front) → front_of ([], p) ≡ front_of x → length (rest_of x.1) + length x.0 ≤ length (rest_of p)
ends_there p x e = let h : (let y : Front = ([], p) in y) ≡ x = cc in subst (λ (y : Front). length (rest_of y.1) + length y.0 ≤ length (rest_of p)) h (omega arith)

one_there : (p q : Place) (t : PlacedToken) (x : Front) → length (rest_of q) < length (rest_of p) → front_of (t ∷ [], q) ≡ front_of x → length (rest_of x.1) + length x.0 ≤ length (rest_of p)
one_there p q t x lt e = let h : (let y : Front = (t ∷ [], q) in y) ≡ x = cc in subst (λ (y : Front). length (rest_of y.1) + length y.0 ≤ length (rest_of p)) h (omega arith)

more_there : (p q : Place) (t : PlacedToken) (r : Result Front TextError) (x : Front) → length (rest_of q) < length (rest_of p) → ((y : Front) → r ≡ Ok y → length (rest_of y.1) + length y.0 ≤ length (rest_of q)) → with_tokens (t ∷ []) r ≡ front_of x
    → length (rest_of x.1) + length x.0 ≤ length (rest_of p)
more_there p q t (Ok y) x lt on e = let h : (let z : Front = (t ∷ y.0, y.1) in z) ≡ x = cc in subst (λ (z : Front). length (rest_of z.1) + length z.0 ≤ length (rest_of p)) h (omega (arith, on y refl))
more_there p q t (Err f) x lt on e = absurd cc

gathered_within : (go : Place → Result Front TextError) (p : Place) (x : Front) (r : Result (Option (PlacedToken × Place)) LexError) → next p ≡ r → ((q : Place) (y : Front) → go q ≡ Ok y → length (rest_of y.1) + length y.0 ≤ length (rest_of q)) → gathered go p r ≡ front_of x
    → length (rest_of x.1) + length x.0 ≤ length (rest_of p)
gathered_within go p x (Err f) is on e = absurd cc
gathered_within go p x (Ok None) is on e = ends_there p x e
gathered_within go p x (Ok (Some y)) is on e =
    let lt = next_within p y is in
    elim (chosen (is_end (word_of y.0)) (front_of (y.0 ∷ [], y.1)) (with_tokens (y.0 ∷ []) (go y.1)) (front_of x) e) [
      | inl t ↦ one_there p y.1 y.0 x lt t.1
      | inr f ↦ more_there p y.1 y.0 (go y.1) x lt (on y.1) f.1
    ]

gather_within : (n : ℕ) (p : Place) (x : Front) → gather n p ≡ front_of x → length (rest_of x.1) + length x.0 ≤ length (rest_of p)
unfolding gather
gather_within zero p x e = ends_there p x e
gather_within (suc n) p x e = gathered_within (gather n) p x (next p) refl (gather_within n) e

formed_within : (line : ℕ) (after : Place) (o : Option Statement) (x : PlacedStatement) (n : ℕ) → placed_as line after o ≡ Ok (Some x) → (0 < suc n) × (after ≡ x.after)
formed_within line after None x n e = absurd cc
formed_within line after (Some s) x n e = (omega arith, let h : (let z : PlacedStatement = record { line = line; statement = s; after = after } in z) ≡ x = cc in ap (λ (z : PlacedStatement). z.after) h)

said_within : (ts : List PlacedToken) (after : Place) (x : PlacedStatement) → placed_of (ts, after) ≡ Ok (Some x) → (0 < length ts) × (after ≡ x.after)
said_within [] after x e = absurd cc
said_within (t ∷ ts) after x e = formed_within t.line after (form (map word_of (t ∷ ts))) x (length ts) e

statement_within : (p : Place) (x : PlacedStatement) (r : Result Front TextError) → gather (suc (length (rest_of p))) p ≡ r → (r >>= placed_of) ≡ Ok (Some x) → length (rest_of x.after) < length (rest_of p)
statement_within p x (Ok y) is e =
    let s = said_within y.0 y.1 x e in
    let w = gather_within (suc (length (rest_of p))) p y is in
    omega (arith, w, s.0, ap (λ (q : Place). length (rest_of q)) s.1)
statement_within p x (Err f) is e = absurd cc

pub shrinks : Shrinks
unfolding statement_at
shrinks p x e = statement_within p x (gather (suc (length (rest_of p))) p) refl e

-- ---- the catalog is no cause of what can't be read

abbrev pub NotCatalog : TextError → Type 0
NotCatalog e = e.cause ≡ causes.Catalog OutOfMemory → ⊥

cause_at : (e f : TextError) → NotCatalog e → e ≡ f → NotCatalog f
cause_at e f h is = subst NotCatalog is h

cause_more : (ts : List PlacedToken) (r : Result Front TextError) (e : TextError) → ((f : TextError) → r ≡ Err f → NotCatalog f) → with_tokens ts r ≡ Err e → NotCatalog e
cause_more ts (Ok y) e on is = absurd cc
cause_more ts (Err f) e on is = let same : f ≡ e = cc in cause_at f e (on f refl) same

cause_gathered : (go : Place → Result Front TextError) (p : Place) (e : TextError) (r : Result (Option (PlacedToken × Place)) LexError) → ((q : Place) (f : TextError) → go q ≡ Err f → NotCatalog f) → gathered go p r ≡ Err e → NotCatalog e
cause_gathered go p e (Err f) on is = let same : (let g : TextError = record { line = f.line; cause = causes.Lex f.kind } in g) ≡ e = cc in cause_at _ e (λ h. cc) same
cause_gathered go p e (Ok None) on is = absurd cc
cause_gathered go p e (Ok (Some y)) on is =
    elim (chosen (is_end (word_of y.0)) (front_of (y.0 ∷ [], y.1)) (with_tokens (y.0 ∷ []) (go y.1)) (Err e) is) [
      | inl t ↦ absurd (let h = t.1 in cc)
      | inr f ↦ cause_more (y.0 ∷ []) (go y.1) e (on y.1) f.1
    ]

cause_gather : (n : ℕ) (p : Place) (e : TextError) → gather n p ≡ Err e → NotCatalog e
unfolding gather
cause_gather zero p e is = absurd cc
cause_gather (suc n) p e is = cause_gathered (gather n) p e (next p) (cause_gather n) is

cause_formed : (line : ℕ) (after : Place) (o : Option Statement) (e : TextError) → placed_as line after o ≡ Err e → NotCatalog e
cause_formed line after None e is = let same : (let g : TextError = record { line = line; cause = causes.UnknownStatement } in g) ≡ e = cc in cause_at _ e (λ h. cc) same
cause_formed line after (Some s) e is = absurd cc

cause_said : (ts : List PlacedToken) (after : Place) (e : TextError) → placed_of (ts, after) ≡ Err e → NotCatalog e
cause_said [] after e is = absurd cc
cause_said (t ∷ ts) after e is = cause_formed t.line after (form (map word_of (t ∷ ts))) e is

cause_statement : (p : Place) (e : TextError) (r : Result Front TextError) → gather (suc (length (rest_of p))) p ≡ r → (r >>= placed_of) ≡ Err e → NotCatalog e
cause_statement p e (Ok y) made is = cause_said y.0 y.1 e is
cause_statement p e (Err f) made is = let same : f ≡ e = cc in cause_at f e (cause_gather (suc (length (rest_of p))) p f made) same

pub reading_cause : (p : Place) (e : TextError) → statement_at p ≡ Err e → NotCatalog e
unfolding statement_at
reading_cause p e is = cause_statement p e (gather (suc (length (rest_of p))) p) refl is

pub read_cause : (p : Place) (e : TextError) → ((e.cause ≡ causes.OutOfMemory → ⊥) → statement_at p ≡ Err e) → NotCatalog e
read_cause p e h is = reading_cause p e (h (λ memory. cc)) is
