-- Readers of several words, put together from readers of one.
use Rattle.std.proofs.Common.{◌≡◌, ℕ, ◌+◌, Bool, true, false, List, [], ◌∷◌, ◌++◌, length, Option, Some, option_and_then, refl, ap, ◌∙◌, arith, append_assoc, length-append}
use Rattle.std.proofs.lemmas.Option.{option_and_then_some, same_Some, some_pair_parts}
use Rattle.dump_grammar.specs.Pieces.{Piece, keyword, mark}
use Rattle.dump_grammar.specs.Spelling.{Word, Spell}
use Rattle.dump_read.specs.Takes.{is_key, is_mark, word_at, rest_if, then_rest, one, key_at, mark_at}
use Rattle.dump_read.proofs.OneWord.{Value, key_back, key_forth, mark_back, mark_forth}

-- The words begin with some that spell the pieces, one each, and then come the rest.
pub record Consumes (ws : List Word) (front : List Piece) (rest : List Word) : Type 0 where
  pub count : length front + length rest ≡ length ws
  pub spells : (more : List Piece) → Spell rest more → Spell ws (front ++ more)

-- What a reader takes, and that it takes it wherever it stands.
pub record Reader {A : Type 0} (read : List Word → Option (A × List Word)) (pieces_of : A → List Piece) (Valid : A → Type 0) : Type 0 where
  pub back : (ws rest : List Word) (x : A) → read ws ≡ Some (x, rest) → Valid x × Consumes ws (pieces_of x) rest
  pub forth : (ws : List Word) (x : A) (more : List Piece) → Valid x → Spell ws (pieces_of x ++ more) → (rest : List Word) × (read ws ≡ Some (x, rest)) × Spell rest more

pub consumes_none : (ws : List Word) → Consumes ws [] ws
consumes_none ws = record { count = omega arith; spells = λ more h. h }

pub consumes_then : (ws mid rest : List Word) (ps qs : List Piece) → Consumes ws ps mid → Consumes mid qs rest → Consumes ws (ps ++ qs) rest
consumes_then ws mid rest ps qs s t = record {
  count = omega (arith, length-append ps qs, s.count, t.count);
  spells = λ more h. rw (append_assoc ps qs more) (s.spells (qs ++ more) (t.spells more h));
}

-- ---- keywords and marks

pub rest_if_some : (b : Bool) (ws rest : List Word) → rest_if b ws ≡ Some rest → (b ≡ true) × (ws ≡ rest)
rest_if_some true ws rest e = (refl, same_Some ws rest e)
rest_if_some false ws rest e = absurd cc

pub key_consumes : (t : List ℕ) (ws rest : List Word) → key_at t ws ≡ Some rest → Consumes ws (keyword t ∷ []) rest
unfolding key_at word_at
key_consumes t [] rest e = absurd cc
key_consumes t (w ∷ ws) rest e =
    let p = rest_if_some (is_key t w) ws rest e in
    record { count = omega (arith, ap length p.1); spells = λ more h. (key_back t w p.0, rw p.1 h) }

pub mark_consumes : (b : ℕ) (ws rest : List Word) → mark_at b ws ≡ Some rest → Consumes ws (mark b ∷ []) rest
unfolding mark_at word_at
mark_consumes b [] rest e = absurd cc
mark_consumes b (w ∷ ws) rest e =
    let p = rest_if_some (is_mark b w) ws rest e in
    record { count = omega (arith, ap length p.1); spells = λ more h. (mark_back b w p.0, rw p.1 h) }

pub key_there : (t : List ℕ) (ws : List Word) (more : List Piece) → Spell ws (keyword t ∷ more) → (rest : List Word) × (key_at t ws ≡ Some rest) × Spell rest more
unfolding key_at word_at
key_there t [] more h = absurd h
key_there t (w ∷ ws) more h = (ws, ap (λ (b : Bool). rest_if b ws) (key_forth t w h.0), h.1)

pub mark_there : (b : ℕ) (ws : List Word) (more : List Piece) → Spell ws (mark b ∷ more) → (rest : List Word) × (mark_at b ws ≡ Some rest) × Spell rest more
unfolding mark_at word_at
mark_there b [] more h = absurd h
mark_there b (w ∷ ws) more h = (ws, ap (λ (b : Bool). rest_if b ws) (mark_forth b w h.0), h.1)

-- ---- one word

one_back : {A : Type 0} (value : Word → Option A) (piece : A → Piece) (Valid : A → Type 0) → Value value piece Valid → (ws rest : List Word) (x : A) → one value ws ≡ Some (x, rest) → Valid x × Consumes ws (piece x ∷ []) rest
unfolding one word_at
one_back value piece Valid v [] rest x e = absurd cc
one_back value piece Valid v (w ∷ ws) rest x e =
    option_and_then_some (then_rest ws) (value w) (x, rest) e (λ y ey made.
    let p = some_pair_parts y x ws rest made in
    let q = v.back w x (ey ∙ ap Some p.0) in
    (q.0, record { count = omega (arith, ap length p.1); spells = λ more h. (q.1, rw p.1 h) }))

one_forth : {A : Type 0} (value : Word → Option A) (piece : A → Piece) (Valid : A → Type 0) → Value value piece Valid → (ws : List Word) (x : A) (more : List Piece) → Valid x → Spell ws (piece x ∷ more) → (rest : List Word) × (one value ws ≡ Some (x, rest)) × Spell rest more
unfolding one word_at
one_forth value piece Valid v [] x more valid h = absurd h
one_forth value piece Valid v (w ∷ ws) x more valid h = (ws, ap (option_and_then (then_rest ws)) (v.forth w x valid h.0), h.1)

pub one_reader : {A : Type 0} {value : Word → Option A} {piece : A → Piece} {Valid : A → Type 0} → Value value piece Valid → Reader (one value) (λ x. piece x ∷ []) Valid
one_reader {A} {value} {piece} {Valid} v = record { back = one_back value piece Valid v; forth = one_forth value piece Valid v }

-- ---- steps of a chain, back from what it read

pub step : {A B P : Type 0} {read : List Word → Option (A × List Word)} {pieces_of : A → List Piece} {Valid : A → Type 0} → Reader read pieces_of Valid → (f : A × List Word → Option B) (ws : List Word) (y : B)
    → option_and_then f (read ws) ≡ Some y → ((x : A) (rest : List Word) → Valid x → Consumes ws (pieces_of x) rest → f (x, rest) ≡ Some y → P) → P
step {A} {B} {P} {read} {pieces_of} {Valid} r f ws y e go =
    option_and_then_some f (read ws) y e (λ x ex made. let p = r.back ws x.1 x.0 ex in go x.0 x.1 p.0 p.1 made)

pub key_step : {B P : Type 0} (t : List ℕ) (f : List Word → Option B) (ws : List Word) (y : B) → option_and_then f (key_at t ws) ≡ Some y → ((rest : List Word) → Consumes ws (keyword t ∷ []) rest → f rest ≡ Some y → P) → P
key_step t f ws y e go = option_and_then_some f (key_at t ws) y e (λ rest found made. go rest (key_consumes t ws rest found) made)

pub mark_step : {B P : Type 0} (b : ℕ) (f : List Word → Option B) (ws : List Word) (y : B) → option_and_then f (mark_at b ws) ≡ Some y → ((rest : List Word) → Consumes ws (mark b ∷ []) rest → f rest ≡ Some y → P) → P
mark_step b f ws y e go = option_and_then_some f (mark_at b ws) y e (λ rest found made. go rest (mark_consumes b ws rest found) made)

-- ---- steps of a chain, on from what stands there

-- the value is read, and behind it stand the words that spell the pieces
abbrev pub Ends : {A : Type 0} → Option (A × List Word) → A → List Piece → Type 0
Ends read x more = (rest : List Word) × (read ≡ Some (x, rest)) × Spell rest more

pub go_on : {A B : Type 0} {read : List Word → Option (A × List Word)} {pieces_of : A → List Piece} {Valid : A → Type 0} → Reader read pieces_of Valid → (f : A × List Word → Option (B × List Word)) (ws : List Word) (x : A) (more last : List Piece) (y : B)
    → Valid x → Spell ws (pieces_of x ++ more) → ((rest : List Word) → Spell rest more → Ends (f (x, rest)) y last) → Ends (option_and_then f (read ws)) y last
go_on r f ws x more last y valid h go =
    let p = r.forth ws x more valid h in
    let q = go p.0 p.2 in
    (q.0, ap (option_and_then f) p.1 ∙ q.1, q.2)

pub key_on : {B : Type 0} (t : List ℕ) (f : List Word → Option (B × List Word)) (ws : List Word) (more last : List Piece) (y : B)
    → Spell ws (keyword t ∷ more) → ((rest : List Word) → Spell rest more → Ends (f rest) y last) → Ends (option_and_then f (key_at t ws)) y last
key_on t f ws more last y h go =
    let p = key_there t ws more h in
    let q = go p.0 p.2 in
    (q.0, ap (option_and_then f) p.1 ∙ q.1, q.2)

pub mark_on : {B : Type 0} (b : ℕ) (f : List Word → Option (B × List Word)) (ws : List Word) (more last : List Piece) (y : B)
    → Spell ws (mark b ∷ more) → ((rest : List Word) → Spell rest more → Ends (f rest) y last) → Ends (option_and_then f (mark_at b ws)) y last
mark_on b f ws more last y h go =
    let p = mark_there b ws more h in
    let q = go p.0 p.2 in
    (q.0, ap (option_and_then f) p.1 ∙ q.1, q.2)
