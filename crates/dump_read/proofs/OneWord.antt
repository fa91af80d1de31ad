-- What one word writes: each test and each value of a word, against the pieces of the grammar.
use Rattle.std.proofs.Common.{◌≡◌, ℕ, ◌≤◌, Bool, true, false, cond, List, [], ◌∷◌, Option, Some, None, option_and_then, refl, sym, ap, subst, ◌∙◌, ◌&&◌, ◌||◌, not, arith, ℤ, pos, negsuc}
use Rattle.std.specs.Prelude.{codes, bytes_eq, nat_le, ◌==◌}
use Rattle.std.specs.Str.{is_utf8}
use Rattle.std.specs.List.{list_all}
use Rattle.std.proofs.lemmas.Bool.{and_parts, eqb-true, leb-true}
use Rattle.std.proofs.lemmas.Option.{cond_some, option_and_then_some, same_Some}
use Rattle.std.proofs.lemmas.Slice.Eq.{bytes_eq-Decides}
use Rattle.fs_model.specs.Names.{Path, slash, is_name as is_file_name}
use Rattle.fs_model.specs.PathText.{path_in, parts}
use Rattle.dump_lex.specs.declared.token.TokenKind.{TokenKind}
use Rattle.dump_lex.specs.declared.token.TokenKind.TheVariants as tokens
use Rattle.dump_lex.specs.Value.{is_name, name_of, string_of, bytes_of, has_leading_zero, value_after, number_of}
use Rattle.dump_grammar.specs.Pieces.{Piece, keyword, plain, mark, name, number, string, location, hex, length_piece}
use Rattle.catalog.specs.Forms.{is_length}
use Rattle.dump_grammar.specs.Spelling.{Word, Writes, is_name_kind}
use Rattle.dump_read.specs.Takes.{is_keyword, is_plain_kind, is_mark_kind, is_number_kind, is_string_kind, is_hex_kind, is_key, is_plain, is_mark, named, name_in, number_in, string_in, path_of, location_in, hex_in, fixed_length, length_in, key_of, column_number_in}

-- What a value is of a word, and the piece that says so.
pub record Value {A : Type 0} (value : Word → Option A) (piece : A → Piece) (Valid : A → Type 0) : Type 0 where
  pub back : (w : Word) (a : A) → value w ≡ Some a → Valid a × Writes w (piece a)
  pub forth : (w : Word) (a : A) → Valid a → Writes w (piece a) → value w ≡ Some a

cond_pick : {A : Type 0} (b : Bool) (x : Option A) (y : A) → cond b x None ≡ Some y → (b ≡ true) × (x ≡ Some y)
cond_pick true x y e = (refl, e)
cond_pick false x y e = absurd cc

pub same_bytes : (xs : List ℕ) → bytes_eq xs xs ≡ true
same_bytes xs = (bytes_eq-Decides xs xs).1 refl

-- ---- kinds

is_a_keyword : (k : TokenKind) → is_keyword k ≡ true → k ≡ tokens.Keyword
is_a_keyword tokens.Keyword e = refl
is_a_keyword tokens.Plain e = absurd cc
is_a_keyword tokens.Quoted e = absurd cc
is_a_keyword tokens.Str e = absurd cc
is_a_keyword tokens.Hex e = absurd cc
is_a_keyword tokens.Number e = absurd cc
is_a_keyword tokens.Mark e = absurd cc

is_a_plain : (k : TokenKind) → is_plain_kind k ≡ true → k ≡ tokens.Plain
is_a_plain tokens.Keyword e = absurd cc
is_a_plain tokens.Plain e = refl
is_a_plain tokens.Quoted e = absurd cc
is_a_plain tokens.Str e = absurd cc
is_a_plain tokens.Hex e = absurd cc
is_a_plain tokens.Number e = absurd cc
is_a_plain tokens.Mark e = absurd cc

is_a_mark : (k : TokenKind) → is_mark_kind k ≡ true → k ≡ tokens.Mark
is_a_mark tokens.Keyword e = absurd cc
is_a_mark tokens.Plain e = absurd cc
is_a_mark tokens.Quoted e = absurd cc
is_a_mark tokens.Str e = absurd cc
is_a_mark tokens.Hex e = absurd cc
is_a_mark tokens.Number e = absurd cc
is_a_mark tokens.Mark e = refl

is_a_number : (k : TokenKind) → is_number_kind k ≡ true → k ≡ tokens.Number
is_a_number tokens.Keyword e = absurd cc
is_a_number tokens.Plain e = absurd cc
is_a_number tokens.Quoted e = absurd cc
is_a_number tokens.Str e = absurd cc
is_a_number tokens.Hex e = absurd cc
is_a_number tokens.Number e = refl
is_a_number tokens.Mark e = absurd cc

is_a_string : (k : TokenKind) → is_string_kind k ≡ true → k ≡ tokens.Str
is_a_string tokens.Keyword e = absurd cc
is_a_string tokens.Plain e = absurd cc
is_a_string tokens.Quoted e = absurd cc
is_a_string tokens.Str e = refl
is_a_string tokens.Hex e = absurd cc
is_a_string tokens.Number e = absurd cc
is_a_string tokens.Mark e = absurd cc

is_a_hex : (k : TokenKind) → is_hex_kind k ≡ true → k ≡ tokens.Hex
is_a_hex tokens.Keyword e = absurd cc
is_a_hex tokens.Plain e = absurd cc
is_a_hex tokens.Quoted e = absurd cc
is_a_hex tokens.Str e = absurd cc
is_a_hex tokens.Hex e = refl
is_a_hex tokens.Number e = absurd cc
is_a_hex tokens.Mark e = absurd cc

-- ---- keywords, plain words and marks

pub key_back : (t : List ℕ) (w : Word) → is_key t w ≡ true → Writes w (keyword t)
unfolding is_key
key_back t w e = let p = and_parts (is_keyword w.0) (bytes_eq w.1 t) e in λ i. (is_a_keyword w.0 p.0 i, (bytes_eq-Decides w.1 t).0 p.1 i)

pub key_forth : (t : List ℕ) (w : Word) → Writes w (keyword t) → is_key t w ≡ true
unfolding is_key
key_forth t w e = ap (is_key t) e ∙ same_bytes t

pub plain_back : (t : List ℕ) (w : Word) → is_plain t w ≡ true → Writes w (plain t)
unfolding is_plain
plain_back t w e = let p = and_parts (is_plain_kind w.0) (bytes_eq w.1 t) e in λ i. (is_a_plain w.0 p.0 i, (bytes_eq-Decides w.1 t).0 p.1 i)

pub mark_back : (b : ℕ) (w : Word) → is_mark b w ≡ true → Writes w (mark b)
unfolding is_mark
mark_back b w e = let p = and_parts (is_mark_kind w.0) (bytes_eq w.1 (b ∷ [])) e in λ i. (is_a_mark w.0 p.0 i, (bytes_eq-Decides w.1 (b ∷ [])).0 p.1 i)

pub mark_forth : (b : ℕ) (w : Word) → Writes w (mark b) → is_mark b w ≡ true
unfolding is_mark
mark_forth b w e = ap (is_mark b) e ∙ same_bytes (b ∷ [])

-- ---- values

abbrev pub NameValid : List ℕ → Type 0
NameValid n = is_name n ≡ true

abbrev pub Always : {A : Type 0} → A → Type 0
Always x = Unit {0}

name_back : (w : Word) (n : List ℕ) → name_in w ≡ Some n → NameValid n × Writes w (name n)
unfolding name_in
name_back w n e =
    let p = cond_pick (is_name_kind w.0) (named (name_of w.0 w.1)) n e in
    let q = cond_some (is_name (name_of w.0 w.1)) (name_of w.0 w.1) n p.1 in
    let valid : is_name n ≡ true = rw (sym q.1) q.0 in
    (valid, (p.0, q.1, valid))

name_forth : (w : Word) (n : List ℕ) → NameValid n → Writes w (name n) → name_in w ≡ Some n
unfolding name_in
name_forth w n valid h = rw (h.0, h.1, valid) refl

pub name_value : Value name_in name NameValid
name_value = record { back = name_back; forth = name_forth }

number_back : (w : Word) (n : ℕ) → number_in w ≡ Some n → Writes w (number n)
unfolding number_in
number_back w n e = let p = cond_pick (is_number_kind w.0) (number_of w.1) n e in (is_a_number w.0 p.0, p.1)

number_forth : (w : Word) (n : ℕ) → Writes w (number n) → number_in w ≡ Some n
unfolding number_in
number_forth w n h = rw (h.0, h.1) refl

string_back : (w : Word) (s : List ℕ) → string_in w ≡ Some s → Writes w (string s)
unfolding string_in
string_back w s e = let p = cond_some (is_string_kind w.0) (string_of w.1) s e in (is_a_string w.0 p.0, p.1)

string_forth : (w : Word) (s : List ℕ) → Writes w (string s) → string_in w ≡ Some s
unfolding string_in
string_forth w s h = rw (h.0, h.1) refl

pub string_value : Value string_in string Always
string_value = record { back = λ w s e. (tt, string_back w s e); forth = λ w s _ h. string_forth w s h }

hex_back : (w : Word) (s : List ℕ) → hex_in w ≡ Some s → Writes w (hex s)
unfolding hex_in
hex_back w s e = let p = cond_some (is_hex_kind w.0) (bytes_of w.1) s e in (is_a_hex w.0 p.0, p.1)

hex_forth : (w : Word) (s : List ℕ) → Writes w (hex s) → hex_in w ≡ Some s
unfolding hex_in
hex_forth w s h = rw (h.0, h.1) refl

pub hex_value : Value hex_in hex Always
hex_value = record { back = λ w s e. (tt, hex_back w s e); forth = λ w s _ h. hex_forth w s h }

-- ---- numbers with a range of their own, and locations

number_below : (b : Bool) (v n : ℕ) → nat_le v 4294967295 ≡ b → cond (not b) None (Some v) ≡ Some n → n ≤ 4294967295
number_below true v n h e = omega (arith, leb-true v 4294967295 h, same_Some v n e)
number_below false v n h e = absurd cc

number_within : (b : Bool) (v n : ℕ) → cond (b || not (nat_le v 4294967295)) None (Some v) ≡ Some n → n ≤ 4294967295
number_within true v n e = absurd cc
number_within false v n e = number_below (nat_le v 4294967295) v n refl e

abbrev pub LengthValid : ℤ → Type 0
LengthValid n = is_length n ≡ true

pub mark_not : (b : ℕ) (w : Word) → is_mark_kind w.0 ≡ false → is_mark b w ≡ false
unfolding is_mark
mark_not b w e = ap (λ (k : Bool). k && bytes_eq w.1 (b ∷ [])) e

pub key_not : (t : List ℕ) (w : Word) → is_keyword w.0 ≡ false → is_key t w ≡ false
unfolding is_key
key_not t w e = ap (λ (b : Bool). b && bytes_eq w.1 t) e

length_by : (w : Word) (l : ℤ) (b : Bool) → is_key (codes "VAR") w ≡ b → cond b (Some (negsuc 0)) (option_and_then fixed_length (number_in w)) ≡ Some l → LengthValid l × Writes w (length_piece l)
length_by w l true h e = subst (λ (l : ℤ). LengthValid l × Writes w (length_piece l)) (same_Some (negsuc 0) l e) (refl, key_back (codes "VAR") w h)
length_by w l false h e = option_and_then_some fixed_length (number_in w) l e (λ n en made.
    let r = cond_some (nat_le n 32767) (pos n) l made in
    subst (λ (l : ℤ). LengthValid l × Writes w (length_piece l)) r.1 (r.0, number_back w n en))

length_back : (w : Word) (l : ℤ) → length_in w ≡ Some l → LengthValid l × Writes w (length_piece l)
unfolding length_in
length_back w l e = length_by w l (is_key (codes "VAR") w) refl e

length_forth : (w : Word) (l : ℤ) → LengthValid l → Writes w (length_piece l) → length_in w ≡ Some l
unfolding length_in
length_forth w (pos n) valid h =
    let other : is_key (codes "VAR") w ≡ false = key_not (codes "VAR") w (ap is_keyword h.0) in
    rw (other, number_forth w n h, valid) refl
length_forth w (negsuc k) valid h =
    let zero_is : 0 ≡ k = sym (eqb-true k 0 valid) in
    rw (key_forth (codes "VAR") w h) (ap (λ (k : ℕ). Some (negsuc k)) zero_is)

pub length_value : Value length_in length_piece LengthValid
length_value = record { back = length_back; forth = length_forth }

abbrev pub is_column_number : ℕ → Bool
is_column_number k = nat_le k 65535

abbrev pub ColumnNumberValid : ℕ → Type 0
ColumnNumberValid k = is_column_number k ≡ true

column_number_back : (w : Word) (k : ℕ) → column_number_in w ≡ Some k → ColumnNumberValid k × Writes w (number k)
unfolding column_number_in
column_number_back w k e = option_and_then_some key_of (number_in w) k e (λ n en made.
    let r = cond_some (nat_le n 65535) n k made in
    subst (λ (k : ℕ). ColumnNumberValid k × Writes w (number k)) r.1 (r.0, number_back w n en))

column_number_forth : (w : Word) (k : ℕ) → ColumnNumberValid k → Writes w (number k) → column_number_in w ≡ Some k
unfolding column_number_in
column_number_forth w k valid h = rw (number_forth w k h, valid) refl

pub column_number_value : Value column_number_in number ColumnNumberValid
column_number_value = record { back = column_number_back; forth = column_number_forth }

abbrev pub LocationValid : Path → Type 0
LocationValid path = list_all is_file_name path ≡ true

has_names : (text : List ℕ) (path : Path) → path_in text ≡ Some path → LocationValid path
has_names [] path e = absurd cc
has_names (b ∷ text) path e =
    let p = cond_some ((b == slash) && list_all is_file_name (parts text)) (parts text) path e in
    subst LocationValid p.1 (and_parts (b == slash) (list_all is_file_name (parts text)) p.0).1

location_back : (w : Word) (path : Path) → location_in w ≡ Some path → LocationValid path × Writes w (location path)
unfolding location_in
location_back w path e = option_and_then_some path_of (string_in w) path e (λ text found made.
    let p = cond_pick (is_utf8 text) (path_in text) path made in
    let s = string_back w text found in
    let utf8 : is_utf8 (string_of w.1) ≡ true = ap is_utf8 s.1 ∙ p.0 in
    let is : path_in (string_of w.1) ≡ Some path = ap path_in s.1 ∙ p.1 in
    (has_names text path p.1, (s.0, utf8, is)))

location_forth : (w : Word) (path : Path) → Writes w (location path) → location_in w ≡ Some path
unfolding location_in
location_forth w path h =
    ap (option_and_then path_of) (string_forth w (string_of w.1) (h.0, refl)) ∙ ap (λ (b : Bool). cond b (path_in (string_of w.1)) None) h.1 ∙ h.2

pub location_value : Value location_in location LocationValid
location_value = record { back = location_back; forth = λ w path _ h. location_forth w path h }

abbrev pub NumberValid : ℕ → Type 0
NumberValid n = n ≤ 4294967295

number_small : (ds : List ℕ) (n : ℕ) → number_of ds ≡ Some n → NumberValid n
number_small ds n e = number_within (has_leading_zero ds) (value_after 0 ds) n e

pub number_value : Value number_in number NumberValid
number_value = record { back = λ w n e. (number_small w.1 n (number_back w n e).1, number_back w n e); forth = λ w n _ h. number_forth w n h }
