-- The reader of a column.
use Rattle.std.proofs.Common.{◌≡◌, ℕ, Bool, true, false, List, [], ◌∷◌, ◌++◌, Option, Some, None, option_and_then, refl, sym, ap, subst, ◌∙◌, ℤ}
use Rattle.std.specs.Prelude.{codes, bytes_eq, is_none, ◌&&◌}
use Rattle.std.proofs.lemmas.Bool.{and_parts, and_from}
use Rattle.std.proofs.lemmas.Option.{option_and_then_some}
use Rattle.std.proofs.lemmas.Slice.Eq.{bytes_eq-Decides}
use Rattle.heap_tuple.specs.declared.shape.Align.{Align}
use Rattle.catalog.specs.Forms.{is_length}
use Rattle.dump_lex.specs.declared.token.TokenKind.{TokenKind}
use Rattle.dump_lex.specs.declared.token.TokenKind.TheVariants as tokens
use Rattle.dump_lex.specs.Value.{is_name}
use Rattle.dump_grammar.specs.declared.columns.NamedKind.{NamedKind}
use Rattle.dump_grammar.specs.declared.columns.NamedKind.TheVariants.{Base, Enum, Dropped}
use Rattle.dump_grammar.specs.declared.columns.ColumnText.{ColumnText}
use Rattle.dump_grammar.specs.Pieces.{Piece, keyword, plain, mark, name, hex, qualified, type_word, align_word, missing_pieces, length_piece, column_pieces_of, column_pieces}
use Rattle.dump_grammar.specs.Spelling.{Word, Spell, is_name_kind, is_column_of, is_column}
use Rattle.dump_read.specs.Takes.{is_keyword, is_mark_kind, word_at, rest_if, key_at, mark_at}
use Rattle.dump_read.specs.Form.{missing_by, missing_at, base_at, enum_at, kind_by, column_kind_at, live_at, dropped_at, column_by, column_at}
use Rattle.dump_read.proofs.OneWord.{NameValid, Always, LengthValid, key_not, mark_not}
use Rattle.dump_read.proofs.Steps.{Consumes, Reader, Ends, consumes_none, consumes_then, key_consumes, key_there, step, go_on}
use Rattle.dump_read.proofs.Readers.{made, name_reader, hex_reader, type_reader, align_reader, length_reader, qualified_reader}

-- ---- what doesn't stand next

name_no_keyword : (k : TokenKind) → is_name_kind k ≡ true → is_keyword k ≡ false
name_no_keyword tokens.Keyword e = absurd cc
name_no_keyword tokens.Plain e = refl
name_no_keyword tokens.Quoted e = refl
name_no_keyword tokens.Str e = absurd cc
name_no_keyword tokens.Hex e = absurd cc
name_no_keyword tokens.Number e = absurd cc
name_no_keyword tokens.Mark e = absurd cc

pub name_no_mark : (k : TokenKind) → is_name_kind k ≡ true → is_mark_kind k ≡ false
name_no_mark tokens.Keyword e = absurd cc
name_no_mark tokens.Plain e = refl
name_no_mark tokens.Quoted e = refl
name_no_mark tokens.Str e = absurd cc
name_no_mark tokens.Hex e = absurd cc
name_no_mark tokens.Number e = absurd cc
name_no_mark tokens.Mark e = absurd cc

no_key : (t : List ℕ) (w : Word) (ws : List Word) → is_keyword w.0 ≡ false → key_at t (w ∷ ws) ≡ None
unfolding key_at word_at
no_key t w ws e = ap (λ (b : Bool). rest_if b ws) (key_not t w e)

no_mark : (b : ℕ) (w : Word) (ws : List Word) → is_mark_kind w.0 ≡ false → mark_at b (w ∷ ws) ≡ None
unfolding mark_at word_at
no_mark b w ws e = ap (λ (b : Bool). rest_if b ws) (mark_not b w e)

pub no_key_name : (t n : List ℕ) (ws : List Word) (more : List Piece) → Spell ws (name n ∷ more) → key_at t ws ≡ None
no_key_name t n [] more h = absurd h
no_key_name t n (w ∷ ws) more h = no_key t w ws (name_no_keyword w.0 h.0.0)

pub no_key_plain : (t n : List ℕ) (ws : List Word) (more : List Piece) → Spell ws (plain n ∷ more) → key_at t ws ≡ None
no_key_plain t n [] more h = absurd h
no_key_plain t n (w ∷ ws) more h = no_key t w ws (ap (λ (w : Word). is_keyword w.0) h.0)

pub no_key_mark : (t : List ℕ) (b : ℕ) (ws : List Word) (more : List Piece) → Spell ws (mark b ∷ more) → key_at t ws ≡ None
no_key_mark t b [] more h = absurd h
no_key_mark t b (w ∷ ws) more h = no_key t w ws (ap (λ (w : Word). is_keyword w.0) h.0)

pub no_mark_name : (b : ℕ) (n : List ℕ) (ws : List Word) (more : List Piece) → Spell ws (name n ∷ more) → mark_at b ws ≡ None
no_mark_name b n [] more h = absurd h
no_mark_name b n (w ∷ ws) more h = no_mark b w ws (name_no_mark w.0 h.0.0)

pub no_mark_keyword : (b : ℕ) (n : List ℕ) (ws : List Word) (more : List Piece) → Spell ws (keyword n ∷ more) → mark_at b ws ≡ None
no_mark_keyword b n [] more h = absurd h
no_mark_keyword b n (w ∷ ws) more h = no_mark b w ws (ap (λ (w : Word). is_mark_kind w.0) h.0)

-- ---- what the items of a list are

-- a mark comes next
abbrev pub Marked : List Piece → Type 0
Marked more = (b : ℕ) × (ps : List Piece) × (more ≡ mark b ∷ ps)

-- A reader that takes its value wherever a mark stands behind it.
pub record Item {A : Type 0} (read : List Word → Option (A × List Word)) (pieces_of : A → List Piece) (Valid : A → Type 0) : Type 0 where
  pub back : (ws rest : List Word) (x : A) → read ws ≡ Some (x, rest) → Valid x × Consumes ws (pieces_of x) rest
  pub forth : (ws : List Word) (x : A) (more : List Piece) → Valid x → Marked more → Spell ws (pieces_of x ++ more) → Ends (read ws) x more

pub item_of : {A : Type 0} {read : List Word → Option (A × List Word)} {pieces_of : A → List Piece} {Valid : A → Type 0} → Reader read pieces_of Valid → Item read pieces_of Valid
item_of r = record { back = r.back; forth = λ ws x more valid _ h. r.forth ws x more valid h }

-- ---- the missing value

missing_back_by : (ws rest : List Word) (x : Option (List ℕ)) (o : Option (List Word)) → key_at (codes "MISSING") ws ≡ o → missing_by ws o ≡ Some (x, rest) → Consumes ws (missing_pieces x) rest
missing_back_by ws rest x None h e = made (λ x rest. Consumes ws (missing_pieces x) rest) None x ws rest e (consumes_none ws)
missing_back_by ws rest x (Some w1) h e =
    step hex_reader _ w1 (x, rest) e (λ bytes w2 _ th e2.
    made (λ x rest. Consumes ws (missing_pieces x) rest) (Some bytes) x w2 rest e2 (consumes_then ws w1 w2 _ _ (key_consumes _ ws w1 h) th))

missing_back : (ws rest : List Word) (x : Option (List ℕ)) → missing_at ws ≡ Some (x, rest) → Always x × Consumes ws (missing_pieces x) rest
unfolding missing_at
missing_back ws rest x e = (tt, missing_back_by ws rest x (key_at (codes "MISSING") ws) refl e)

missing_forth : (ws : List Word) (x : Option (List ℕ)) (more : List Piece) → Always x → Marked more → Spell ws (missing_pieces x ++ more) → Ends (missing_at ws) x more
unfolding missing_at
missing_forth ws None more _ marked h =
    let none : key_at (codes "MISSING") ws ≡ None = no_key_mark (codes "MISSING") marked.0 ws marked.1 (subst (λ ps. Spell ws ps) marked.2 h) in
    (ws, ap (missing_by ws) none, h)
missing_forth ws (Some bytes) more _ marked h =
    let p = key_there (codes "MISSING") ws (hex bytes ∷ more) h in
    let q = go_on hex_reader (λ x. Some (Some x.0, x.1)) p.0 bytes more more (Some bytes) tt p.2 (λ w2 h2. (w2, refl, h2)) in
    (q.0, ap (missing_by ws) p.1 ∙ q.1, q.2)

missing_item : Item missing_at missing_pieces Always
missing_item = record { back = missing_back; forth = missing_forth }

-- ---- the kind of a column that wasn't dropped

abbrev KindValid : NamedKind → Type 0
KindValid (Base base) = Unit {0}
KindValid (Enum schema kind) = NameValid schema × NameValid kind
KindValid (Dropped length align) = ⊥

abbrev kind_pieces : NamedKind → List Piece
kind_pieces (Base base) = plain (type_word base) ∷ []
kind_pieces (Enum schema kind) = keyword (codes "ENUM") ∷ qualified schema kind []
kind_pieces (Dropped length align) = []

kind_back_by : (ws rest : List Word) (k : NamedKind) (o : Option (List Word)) → key_at (codes "ENUM") ws ≡ o → kind_by ws o ≡ Some (k, rest) → KindValid k × Consumes ws (kind_pieces k) rest
unfolding base_at enum_at
kind_back_by ws rest k None h e =
    step type_reader _ ws (k, rest) e (λ base w1 _ tb e1.
    made (λ k rest. KindValid k × Consumes ws (kind_pieces k) rest) (Base base) k w1 rest e1 (tt, tb))
kind_back_by ws rest k (Some w1) h e =
    step qualified_reader _ w1 (k, rest) e (λ q w2 hq tq e1.
    made (λ k rest. KindValid k × Consumes ws (kind_pieces k) rest) (Enum q.schema q.name) k w2 rest e1 (hq, consumes_then ws w1 w2 _ _ (key_consumes _ ws w1 h) tq))

kind_back : (ws rest : List Word) (k : NamedKind) → column_kind_at ws ≡ Some (k, rest) → KindValid k × Consumes ws (kind_pieces k) rest
unfolding column_kind_at
kind_back ws rest k e = kind_back_by ws rest k (key_at (codes "ENUM") ws) refl e

kind_forth : (ws : List Word) (k : NamedKind) (more : List Piece) → KindValid k → Spell ws (kind_pieces k ++ more) → Ends (column_kind_at ws) k more
unfolding column_kind_at base_at enum_at
kind_forth ws (Base base) more valid h =
    let none = no_key_plain (codes "ENUM") (type_word base) ws more h in
    let q = go_on type_reader (λ x. Some (Base x.0, x.1)) ws base more more (Base base) tt h (λ w2 h2. (w2, refl, h2)) in
    (q.0, ap (kind_by ws) none ∙ q.1, q.2)
kind_forth ws (Enum schema kind) more valid h =
    let p = key_there (codes "ENUM") ws (qualified schema kind more) h in
    let q = go_on qualified_reader (λ x. Some (Enum (x.0).schema (x.0).name, x.1)) p.0 (record { schema = schema; name = kind }) more more (Enum schema kind) valid p.2 (λ w2 h2. (w2, refl, h2)) in
    (q.0, ap (kind_by ws) p.1 ∙ q.1, q.2)
kind_forth ws (Dropped length align) more valid h = absurd valid

column_kind_reader : Reader column_kind_at kind_pieces KindValid
column_kind_reader = record { back = kind_back; forth = kind_forth }

-- ---- columns that weren't dropped

live_pieces : (n : List ℕ) (missing : Option (List ℕ)) (k : NamedKind) → KindValid k → column_pieces_of n missing k ≡ name n ∷ (kind_pieces k ++ missing_pieces missing)
live_pieces n missing (Base base) valid = refl
live_pieces n missing (Enum schema kind) valid = refl
live_pieces n missing (Dropped length align) valid = absurd valid

live_valid : (n : List ℕ) (missing : Option (List ℕ)) (k : NamedKind) → NameValid n → KindValid k → is_column_of n missing k ≡ true
live_valid n missing (Base base) hn valid = hn
live_valid n missing (Enum schema kind) hn valid = and_from _ _ hn (and_from _ _ valid.0 valid.1)
live_valid n missing (Dropped length align) hn valid = absurd valid

abbrev ColumnValid : ColumnText → Type 0
ColumnValid c = is_column c ≡ true

live_back : (ws rest : List Word) (c : ColumnText) → live_at ws ≡ Some (c, rest) → ColumnValid c × Consumes ws (column_pieces c) rest
unfolding live_at
live_back ws rest c e =
    step name_reader _ ws (c, rest) e (λ n w1 hn tn e1.
    step column_kind_reader _ w1 (c, rest) e1 (λ k w2 hk tk e2.
    option_and_then_some _ (missing_at w2) (c, rest) e2 (λ x ex e3. let missing = x.0 in let w3 = x.1 in let tm = (missing_back w2 w3 missing ex).1 in
    made (λ c rest. ColumnValid c × Consumes ws (column_pieces c) rest) (record { name = n; kind = k; missing = missing }) c w3 rest e3
    (live_valid n missing k hn hk, subst (λ ps. Consumes ws ps w3) (sym (live_pieces n missing k hk)) (consumes_then ws w1 w3 _ _ tn (consumes_then w1 w2 w3 _ _ tk tm))))))

live_forth : (ws : List Word) (n : List ℕ) (missing : Option (List ℕ)) (k : NamedKind) (more : List Piece) → NameValid n → KindValid k → Marked more → Spell ws (name n ∷ (kind_pieces k ++ (missing_pieces missing ++ more))) → Ends (live_at ws) (record { name = n; kind = k; missing = missing }) more
unfolding live_at
live_forth ws n missing k more hn hk marked h =
    go_on name_reader _ ws n (kind_pieces k ++ (missing_pieces missing ++ more)) more _ hn h (λ w1 h1.
    go_on column_kind_reader _ w1 k (missing_pieces missing ++ more) more _ hk h1 (λ w2 h2.
    let p = missing_forth w2 missing more tt marked h2 in
    (p.0, ap (option_and_then (λ x. Some (record { name = n; kind = k; missing = x.0 }, x.1))) p.1, p.2)))

-- ---- columns that were dropped

dropped_back : (ws w0 rest : List Word) (c : ColumnText) → key_at (codes "DROPPED") w0 ≡ Some ws → dropped_at ws ≡ Some (c, rest) → ColumnValid c × Consumes w0 (column_pieces c) rest
unfolding dropped_at
dropped_back ws w0 rest c found e =
    step length_reader _ ws (c, rest) e (λ length w1 hl tl e1.
    step align_reader _ w1 (c, rest) e1 (λ align w2 _ ta e2.
    made (λ c rest. ColumnValid c × Consumes w0 (column_pieces c) rest) (record { name = []; kind = Dropped length align; missing = None }) c w2 rest e2
    (hl, consumes_then w0 ws w2 _ _ (key_consumes _ w0 ws found) (consumes_then ws w1 w2 _ _ tl ta))))

dropped_forth : (ws : List Word) (length : ℤ) (align : Align) (more : List Piece) → LengthValid length → Spell ws (length_piece length ∷ plain (align_word align) ∷ more) → Ends (dropped_at ws) (record { name = []; kind = Dropped length align; missing = None }) more
unfolding dropped_at
dropped_forth ws length align more hl h =
    go_on length_reader _ ws length (plain (align_word align) ∷ more) more _ hl h (λ w1 h1.
    go_on align_reader _ w1 align more more _ tt h1 (λ w2 h2. (w2, refl, h2)))

-- ---- columns

column_back_by : (ws rest : List Word) (c : ColumnText) (o : Option (List Word)) → key_at (codes "DROPPED") ws ≡ o → column_by ws o ≡ Some (c, rest) → ColumnValid c × Consumes ws (column_pieces c) rest
column_back_by ws rest c None h e = live_back ws rest c e
column_back_by ws rest c (Some w1) h e = dropped_back w1 ws rest c h e

column_back : (ws rest : List Word) (c : ColumnText) → column_at ws ≡ Some (c, rest) → ColumnValid c × Consumes ws (column_pieces c) rest
unfolding column_at
column_back ws rest c e = column_back_by ws rest c (key_at (codes "DROPPED") ws) refl e

column_live : (ws : List Word) (n : List ℕ) (missing : Option (List ℕ)) (k : NamedKind) (more : List Piece) → NameValid n → KindValid k → Marked more → Spell ws (name n ∷ (kind_pieces k ++ (missing_pieces missing ++ more))) → Ends (column_at ws) (record { name = n; kind = k; missing = missing }) more
unfolding column_at
column_live ws n missing k more hn hk marked h =
    let q = live_forth ws n missing k more hn hk marked h in
    (q.0, ap (column_by ws) (no_key_name (codes "DROPPED") n ws _ h) ∙ q.1, q.2)

column_dropped : (ws : List Word) (length : ℤ) (align : Align) (more : List Piece) → LengthValid length → Spell ws (keyword (codes "DROPPED") ∷ length_piece length ∷ plain (align_word align) ∷ more) → Ends (column_at ws) (record { name = []; kind = Dropped length align; missing = None }) more
unfolding column_at
column_dropped ws length align more hl h =
    let p = key_there (codes "DROPPED") ws _ h in
    let q = dropped_forth p.0 length align more hl p.2 in
    (q.0, ap (column_by ws) p.1 ∙ q.1, q.2)

no_missing : (missing : Option (List ℕ)) → is_none missing ≡ true → None ≡ missing
no_missing None e = refl
no_missing (Some bytes) e = absurd cc

column_forth_of : (ws : List Word) (n : List ℕ) (missing : Option (List ℕ)) (k : NamedKind) (more : List Piece) → is_column_of n missing k ≡ true → Marked more → Spell ws (column_pieces_of n missing k ++ more) → Ends (column_at ws) (record { name = n; kind = k; missing = missing }) more
column_forth_of ws n missing (Base base) more valid marked h = column_live ws n missing (Base base) more valid tt marked h
column_forth_of ws n missing (Enum schema kind) more valid marked h =
    let p = and_parts (is_name n) (is_name schema && is_name kind) valid in
    let q = and_parts (is_name schema) (is_name kind) p.1 in
    column_live ws n missing (Enum schema kind) more p.0 q marked h
column_forth_of ws n missing (Dropped length align) more valid marked h =
    let p = and_parts (bytes_eq n []) (is_none missing && is_length length) valid in
    let q = and_parts (is_none missing) (is_length length) p.1 in
    let empty : [] ≡ n = sym ((bytes_eq-Decides n []).0 p.0) in
    let none = no_missing missing q.0 in
    subst (λ n. Ends (column_at ws) (record { name = n; kind = Dropped length align; missing = missing }) more) empty
    (subst (λ missing. Ends (column_at ws) (record { name = []; kind = Dropped length align; missing = missing }) more) none
    (column_dropped ws length align more q.1 h))

column_forth : (ws : List Word) (c : ColumnText) (more : List Piece) → ColumnValid c → Marked more → Spell ws (column_pieces c ++ more) → Ends (column_at ws) c more
column_forth ws c more valid marked h = column_forth_of ws c.name c.missing c.kind more valid marked h

pub column_item : Item column_at column_pieces (λ c. is_column c ≡ true)
column_item = record { back = column_back; forth = column_forth }

no_mark_by : (b : ℕ) (ws : List Word) (n : List ℕ) (missing : Option (List ℕ)) (k : NamedKind) (more : List Piece) → Spell ws (column_pieces_of n missing k ++ more) → mark_at b ws ≡ None
no_mark_by b ws n missing (Base base) more h = no_mark_name b n ws _ h
no_mark_by b ws n missing (Enum schema kind) more h = no_mark_name b n ws _ h
no_mark_by b ws n missing (Dropped length align) more h = no_mark_keyword b (codes "DROPPED") ws _ h

-- a column begins with no mark
pub no_mark_column : (b : ℕ) (ws : List Word) (c : ColumnText) (more : List Piece) → Spell ws (column_pieces c ++ more) → mark_at b ws ≡ None
no_mark_column b ws c more h = no_mark_by b ws c.name c.missing c.kind more h
