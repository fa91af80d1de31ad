-- The readers of lists in parentheses.
use Rattle.std.proofs.Common.{◌≡◌, ℕ, zero, suc, ◌<◌, Bool, true, false, List, [], ◌∷◌, ◌++◌, length, map, Option, Some, None, option_and_then, refl, ap, subst, ◌∙◌, arith, append_assoc}
use Rattle.std.specs.Prelude.{nat_lt}
use Rattle.std.specs.List.{list_all}
use Rattle.std.proofs.lemmas.Bool.{and_parts, and_from, lt-ltb}
use Rattle.std.proofs.lemmas.Option.{option_and_then_some}
use Rattle.dump_grammar.specs.declared.columns.ColumnText.{ColumnText}
use Rattle.dump_lex.specs.declared.token.TokenKind.TheVariants as tokens
use Rattle.dump_grammar.specs.Pieces.{Piece, mark, column_pieces, key_pieces, more_items, items}
use Rattle.dump_grammar.specs.Spelling.{Word, Spell, is_column, are_keys}
use Rattle.dump_read.specs.Takes.{is_mark, column_number_in, one, word_at, rest_if, mark_at}
use Rattle.dump_read.specs.Form.{with_items, more_by, more_at, items_at, closed_at, columns_by, columns_in_at, columns_at, keys_at, column_at}
use Rattle.dump_read.proofs.OneWord.{is_column_number}
use Rattle.dump_read.proofs.Steps.{Consumes, Ends, consumes_none, consumes_then, mark_consumes, mark_there, mark_on, mark_step}
use Rattle.dump_read.proofs.Listing.{mark_shorter}
use Rattle.dump_read.proofs.Readers.{made, column_number_reader}
use Rattle.dump_read.proofs.ColumnReader.{Item, Marked, item_of, column_item, no_mark_column}

-- another mark stands next
pub no_other_mark : (b d : ℕ) (ws : List Word) (more : List Piece) → is_mark b (tokens.Mark, d ∷ []) ≡ false → Spell ws (mark d ∷ more) → mark_at b ws ≡ None
unfolding mark_at word_at
no_other_mark b d [] more other h = absurd h
no_other_mark b d (w ∷ ws) more other h = ap (λ (w : Word). rest_if (is_mark b w) ws) h.0 ∙ ap (λ (k : Bool). rest_if k ws) other

no_comma : (ws : List Word) (more : List Piece) → Spell ws (mark 41 ∷ more) → mark_at 44 ws ≡ None
unfolding is_mark
no_comma ws more h = no_other_mark 44 41 ws more refl h

-- ---- items behind commas

abbrev Valids : {A : Type 0} → (A → Bool) → List A → Type 0
Valids valid xs = list_all valid xs ≡ true

marked_more : {A : Type 0} (pieces_of : A → List Piece) (xs : List A) (more : List Piece) → Marked (more_items (map pieces_of xs) ++ mark 41 ∷ more)
marked_more pieces_of [] more = (41, more, refl)
marked_more pieces_of (x ∷ xs) more = (44, _, refl)

more_back_by : {A : Type 0} (read : List Word → Option (A × List Word)) (pieces_of : A → List Piece) (valid : A → Bool) (go : List Word → Option (List A × List Word)) (ws rest : List Word) (xs : List A) (o : Option (List Word))
    → Item read pieces_of (λ x. valid x ≡ true) → ((mid end : List Word) (ys : List A) → go mid ≡ Some (ys, end) → Valids valid ys × Consumes mid (more_items (map pieces_of ys)) end) → mark_at 44 ws ≡ o → more_by read go ws o ≡ Some (xs, rest)
    → Valids valid xs × Consumes ws (more_items (map pieces_of xs)) rest
more_back_by read pieces_of valid go ws rest xs None item later h e = made (λ xs rest. Valids valid xs × Consumes ws (more_items (map pieces_of xs)) rest) [] xs ws rest e (refl, consumes_none ws)
more_back_by {A} read pieces_of valid go ws rest xs (Some w1) item later h e =
    option_and_then_some _ (read w1) (xs, rest) e (λ x ex m.
    let p = item.back w1 x.1 x.0 ex in
    option_and_then_some _ (go x.1) (xs, rest) m (λ y ey m2.
    let q = later x.1 y.1 y.0 ey in
    made (λ xs rest. Valids valid xs × Consumes ws (more_items (map pieces_of xs)) rest) (x.0 ∷ y.0) xs y.1 rest m2
    (and_from _ _ p.0 q.0, consumes_then ws w1 y.1 _ _ (mark_consumes 44 ws w1 h) (consumes_then w1 x.1 y.1 _ _ p.1 q.1))))

more_back : {A : Type 0} (read : List Word → Option (A × List Word)) (pieces_of : A → List Piece) (valid : A → Bool) → Item read pieces_of (λ x. valid x ≡ true) → (n : ℕ) (ws rest : List Word) (xs : List A) → more_at read n ws ≡ Some (xs, rest)
    → Valids valid xs × Consumes ws (more_items (map pieces_of xs)) rest
unfolding more_at
more_back read pieces_of valid item zero ws rest xs e = absurd cc
more_back read pieces_of valid item (suc n) ws rest xs e = more_back_by read pieces_of valid (more_at read n) ws rest xs (mark_at 44 ws) item (λ mid end ys h. more_back read pieces_of valid item n mid end ys h) refl e

more_is : {A : Type 0} (read : List Word → Option (A × List Word)) (n : ℕ) (ws mid behind rest : List Word) (x : A) (xs : List A) → mark_at 44 ws ≡ Some mid → read mid ≡ Some (x, behind) → more_at read n behind ≡ Some (xs, rest) → more_at read (suc n) ws ≡ Some (x ∷ xs, rest)
unfolding more_at
more_is read n ws mid behind rest x xs e f g =
    ap (more_by read (more_at read n) ws) e ∙ ap (option_and_then (λ y. with_items (y.0 ∷ []) (more_at read n y.1))) f ∙ ap (with_items (x ∷ [])) g

more_forth : {A : Type 0} (read : List Word → Option (A × List Word)) (pieces_of : A → List Piece) (valid : A → Bool) → Item read pieces_of (λ x. valid x ≡ true) → (xs : List A) (n : ℕ) (ws : List Word) (more : List Piece) → length ws < n → Valids valid xs
    → Spell ws (more_items (map pieces_of xs) ++ mark 41 ∷ more) → Ends (more_at read n ws) xs (mark 41 ∷ more)
unfolding more_at
more_forth read pieces_of valid item xs zero ws more lt valids h = absurd (omega arith)
more_forth read pieces_of valid item [] (suc n) ws more lt valids h = (ws, ap (more_by read (more_at read n) ws) (no_comma ws more h), h)
more_forth {A} read pieces_of valid item (x ∷ xs) (suc n) ws more lt valids h =
    let v = and_parts (valid x) (list_all valid xs) valids in
    let behind : List Piece = more_items (map pieces_of xs) ++ mark 41 ∷ more in
    let p = mark_there 44 ws (pieces_of x ++ behind) (subst (λ ps. Spell ws (mark 44 ∷ ps)) (append_assoc (pieces_of x) (more_items (map pieces_of xs)) (mark 41 ∷ more)) h) in
    let q = item.forth p.0 x behind v.0 (marked_more pieces_of xs more) p.2 in
    let fewer : length q.0 < n = omega (arith, mark_shorter 44 ws p.0 p.1, (item.back p.0 q.0 x q.1).1.count) in
    let r = more_forth read pieces_of valid item xs n q.0 more fewer v.1 q.2 in
    (r.0, more_is read n ws p.0 q.0 r.0 x xs p.1 q.1 r.1, r.2)

-- ---- one item or more, and `)`

closed_back : {A : Type 0} (read : List Word → Option (A × List Word)) (pieces_of : A → List Piece) (valid : A → Bool) → Item read pieces_of (λ x. valid x ≡ true) → (ws rest : List Word) (xs : List A) → closed_at read ws ≡ Some (xs, rest)
    → Valids valid xs × (0 < length xs) × Consumes ws (items (map pieces_of xs) ++ mark 41 ∷ []) rest
unfolding closed_at items_at
closed_back read pieces_of valid item ws rest xs e =
    option_and_then_some _ (items_at read ws) (xs, rest) e (λ y ey e1.
    option_and_then_some _ (read ws) (y.0, y.1) ey (λ x ex e2.
    let p = item.back ws x.1 x.0 ex in
    option_and_then_some _ (more_at read (suc (length x.1)) x.1) (y.0, y.1) e2 (λ z ez e3.
    let q = more_back read pieces_of valid item (suc (length x.1)) x.1 z.1 z.0 ez in
    mark_step 41 _ y.1 (xs, rest) e1 (λ w3 tm e4.
    let front = made (λ ys end. Valids valid ys × (0 < length ys) × Consumes ws (items (map pieces_of ys)) end) (x.0 ∷ z.0) y.0 z.1 y.1 e3
    (and_from _ _ p.0 q.0, omega arith, consumes_then ws x.1 z.1 _ _ p.1 q.1) in
    made (λ xs rest. Valids valid xs × (0 < length xs) × Consumes ws (items (map pieces_of xs) ++ mark 41 ∷ []) rest) y.0 xs w3 rest e4
    (front.0, front.1, consumes_then ws y.1 w3 _ _ front.2 tm)))))

closed_is : {A : Type 0} (read : List Word → Option (A × List Word)) (ws mid behind rest : List Word) (x : A) (xs : List A) → read ws ≡ Some (x, mid) → more_at read (suc (length mid)) mid ≡ Some (xs, behind) → mark_at 41 behind ≡ Some rest → closed_at read ws ≡ Some (x ∷ xs, rest)
unfolding closed_at items_at
closed_is {A} read ws mid behind rest x xs e f g =
    let found : ◌≡◌ {A = Option (List A × List Word)} (items_at read ws) (Some (x ∷ xs, behind)) = ap (option_and_then (λ y. with_items (y.0 ∷ []) (more_at read (suc (length y.1)) y.1))) e ∙ ap (with_items (x ∷ [])) f in
    ap (option_and_then (λ y. option_and_then (λ rest. Some (y.0, rest)) (mark_at 41 y.1))) found ∙ ap (option_and_then (λ rest. Some (x ∷ xs, rest))) g

closed_forth : {A : Type 0} (read : List Word → Option (A × List Word)) (pieces_of : A → List Piece) (valid : A → Bool) → Item read pieces_of (λ x. valid x ≡ true) → (x : A) (xs : List A) (ws : List Word) (more : List Piece) → valid x ≡ true → Valids valid xs
    → Spell ws (items (map pieces_of (x ∷ xs)) ++ mark 41 ∷ more) → Ends (closed_at read ws) (x ∷ xs) more
closed_forth {A} read pieces_of valid item x xs ws more hx valids h =
    let behind : List Piece = more_items (map pieces_of xs) ++ mark 41 ∷ more in
    let q = item.forth ws x behind hx (marked_more pieces_of xs more) (rw (append_assoc (pieces_of x) (more_items (map pieces_of xs)) (mark 41 ∷ more)) at h) in
    let r = more_forth read pieces_of valid item xs (suc (length q.0)) q.0 more (omega arith) valids q.2 in
    let m = mark_there 41 r.0 more r.2 in
    (m.0, closed_is read ws q.0 r.0 m.0 x xs q.1 r.1 m.1, m.2)

-- ---- columns and keys

abbrev pub parenthesized : List (List Piece) → List Piece → List Piece
parenthesized xs more = mark 40 ∷ (items xs ++ mark 41 ∷ more)

abbrev pub ColumnsValid : List ColumnText → Type 0
ColumnsValid columns = list_all is_column columns ≡ true

-- behind the parentheses of a list
pub closed_more : (ws rest : List Word) (xs : List (List Piece)) (more : List Piece) → Consumes ws (parenthesized xs []) rest → Spell rest more → Spell ws (parenthesized xs more)
closed_more ws rest xs more t h = subst (λ ps. Spell ws (mark 40 ∷ ps)) (append_assoc (items xs) (mark 41 ∷ []) more) (t.spells more h)

columns_back_by : (ws rest : List Word) (cs : List ColumnText) (o : Option (List Word)) → mark_at 41 ws ≡ o → columns_by ws o ≡ Some (cs, rest) → ColumnsValid cs × Consumes ws (items (map column_pieces cs) ++ mark 41 ∷ []) rest
columns_back_by ws rest cs None h e = let p = closed_back column_at column_pieces is_column column_item ws rest cs e in (p.0, p.2)
columns_back_by ws rest cs (Some w1) h e = made (λ cs rest. ColumnsValid cs × Consumes ws (items (map column_pieces cs) ++ mark 41 ∷ []) rest) [] cs w1 rest e (refl, mark_consumes 41 ws w1 h)

pub columns_back : (ws rest : List Word) (cs : List ColumnText) → columns_at ws ≡ Some (cs, rest) → ColumnsValid cs × Consumes ws (parenthesized (map column_pieces cs) []) rest
unfolding columns_at columns_in_at
columns_back ws rest cs e =
    mark_step 40 columns_in_at ws (cs, rest) e (λ w1 t e1.
    let p = columns_back_by w1 rest cs (mark_at 41 w1) refl e1 in
    (p.0, consumes_then ws w1 rest _ _ t p.1))

columns_in_forth : (ws : List Word) (cs : List ColumnText) (more : List Piece) → ColumnsValid cs → Spell ws (items (map column_pieces cs) ++ mark 41 ∷ more) → Ends (columns_in_at ws) cs more
unfolding columns_in_at
columns_in_forth ws [] more valid h = let p = mark_there 41 ws more h in (p.0, ap (columns_by ws) p.1, p.2)
columns_in_forth ws (c ∷ cs) more valid h =
    let v = and_parts (is_column c) (list_all is_column cs) valid in
    let none = no_mark_column 41 ws c _ (rw (append_assoc (column_pieces c) (more_items (map column_pieces cs)) (mark 41 ∷ more)) at h) in
    let q = closed_forth column_at column_pieces is_column column_item c cs ws more v.0 v.1 h in
    (q.0, ap (columns_by ws) none ∙ q.1, q.2)

pub columns_forth : (ws : List Word) (cs : List ColumnText) (more : List Piece) → ColumnsValid cs → Spell ws (parenthesized (map column_pieces cs) more) → Ends (columns_at ws) cs more
unfolding columns_at
columns_forth ws cs more valid h = mark_on 40 columns_in_at ws _ more cs h (λ w1 h1. columns_in_forth w1 cs more valid h1)

abbrev pub KeysValid : List ℕ → Type 0
KeysValid keys = are_keys keys ≡ true

key_item : Item (one column_number_in) key_pieces (λ k. is_column_number k ≡ true)
key_item = item_of column_number_reader

pub keys_back : (ws rest : List Word) (ks : List ℕ) → keys_at ws ≡ Some (ks, rest) → KeysValid ks × Consumes ws (parenthesized (map key_pieces ks) []) rest
unfolding keys_at
keys_back ws rest ks e =
    mark_step 40 (closed_at (one column_number_in)) ws (ks, rest) e (λ w1 t e1.
    let p = closed_back (one column_number_in) key_pieces is_column_number key_item w1 rest ks e1 in
    (and_from _ _ (lt-ltb 0 (length ks) p.1) p.0, consumes_then ws w1 rest _ _ t p.2))

pub keys_forth : (ws : List Word) (ks : List ℕ) (more : List Piece) → KeysValid ks → Spell ws (parenthesized (map key_pieces ks) more) → Ends (keys_at ws) ks more
unfolding keys_at
keys_forth ws [] more valid h = absurd cc
keys_forth ws (k ∷ ks) more valid h =
    let v = and_parts (is_column_number k) (list_all is_column_number ks) (and_parts (nat_lt 0 (length (k ∷ ks))) (list_all is_column_number (k ∷ ks)) valid).1 in
    mark_on 40 (closed_at (one column_number_in)) ws _ more (k ∷ ks) h (λ w1 h1. closed_forth (one column_number_in) key_pieces is_column_number key_item k ks w1 more v.0 v.1 h1)
