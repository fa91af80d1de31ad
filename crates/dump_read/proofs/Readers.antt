-- Readers of the parts of statements.
use Rattle.std.proofs.Common.{◌≡◌, ℕ, List, [], ◌∷◌, ◌++◌, Option, Some, refl, subst}
use Rattle.std.proofs.lemmas.Option.{some_pair_parts}
use Rattle.dump_grammar.specs.Pieces.{Piece, keyword, plain, mark, name, number, string, location, hex, qualified, kind_word, type_word, align_word, flag_word, length_piece}
use Rattle.dump_grammar.specs.Spelling.{Word, Spell}
use Rattle.dump_read.specs.declared.parts.Qualified.{Qualified}
use Rattle.dump_read.specs.Takes.{name_in, number_in, string_in, location_in, hex_in, kind_in, type_in, align_in, flag_in, length_in, column_number_in, one}
use Rattle.dump_read.specs.Form.{name_at, qualified_at, keyed_name_at, verb_word, verb_in, object_word, object_in}
use Rattle.dump_read.proofs.OneWord.{NameValid, Always, LengthValid, ColumnNumberValid, LocationValid, NumberValid, name_value, string_value, hex_value, length_value, column_number_value, location_value, number_value}
use Rattle.dump_read.proofs.Found.{kind_value, type_value, align_value, flag_value, verb_value, object_value}
use Rattle.dump_read.proofs.Steps.{Consumes, Reader, Ends, consumes_then, one_reader, step, key_step, mark_step, go_on, key_on, mark_on}

-- what holds of what was made holds of what was read
pub made : {A : Type 0} (P : A → List Word → Type 0) (x y : A) (r s : List Word) → ◌≡◌ {A = Option (A × List Word)} (Some (x, r)) (Some (y, s)) → P x r → P y s
made P x y r s e p = let q = some_pair_parts x y r s e in subst (λ z. P z s) q.0 (subst (λ t. P x t) q.1 p)

-- ---- one word

pub name_reader : Reader (one name_in) (λ n. name n ∷ []) NameValid
name_reader = one_reader name_value

pub number_reader : Reader (one number_in) (λ n. number n ∷ []) NumberValid
number_reader = one_reader number_value

pub string_reader : Reader (one string_in) (λ s. string s ∷ []) Always
string_reader = one_reader string_value

pub hex_reader : Reader (one hex_in) (λ s. hex s ∷ []) Always
hex_reader = one_reader hex_value

pub location_reader : Reader (one location_in) (λ p. location p ∷ []) LocationValid
location_reader = one_reader location_value

pub kind_reader : Reader (one kind_in) (λ k. plain (kind_word k) ∷ []) Always
kind_reader = one_reader kind_value

pub type_reader : Reader (one type_in) (λ b. plain (type_word b) ∷ []) Always
type_reader = one_reader type_value

pub align_reader : Reader (one align_in) (λ a. plain (align_word a) ∷ []) Always
align_reader = one_reader align_value

pub flag_reader : Reader (one flag_in) (λ on. keyword (flag_word on) ∷ []) Always
flag_reader = one_reader flag_value

pub verb_reader : Reader (one verb_in) (λ l. keyword (verb_word l) ∷ []) Always
verb_reader = one_reader verb_value

pub object_reader : Reader (one object_in) (λ o. keyword (object_word o) ∷ []) Always
object_reader = one_reader object_value

pub length_reader : Reader (one length_in) (λ l. length_piece l ∷ []) LengthValid
length_reader = one_reader length_value

pub column_number_reader : Reader (one column_number_in) (λ k. number k ∷ []) ColumnNumberValid
column_number_reader = one_reader column_number_value

-- ---- names behind a keyword, and in a schema

keyed_back : (t : List ℕ) (ws rest : List Word) (n : List ℕ) → keyed_name_at t ws ≡ Some (n, rest) → NameValid n × Consumes ws (keyword t ∷ name n ∷ []) rest
unfolding keyed_name_at
keyed_back t ws rest n e = key_step t name_at ws (n, rest) e (λ w1 tk found.
    let p = name_reader.back w1 rest n found in
    (p.0, consumes_then ws w1 rest (keyword t ∷ []) (name n ∷ []) tk p.1))

keyed_forth : (t : List ℕ) (ws : List Word) (n : List ℕ) (more : List Piece) → NameValid n → Spell ws (keyword t ∷ name n ∷ more) → Ends (keyed_name_at t ws) n more
unfolding keyed_name_at
keyed_forth t ws n more valid h = key_on t name_at ws (name n ∷ more) more n h (λ w1 h1. name_reader.forth w1 n more valid h1)

pub keyed_reader : (t : List ℕ) → Reader (keyed_name_at t) (λ n. keyword t ∷ name n ∷ []) NameValid
keyed_reader t = record { back = keyed_back t; forth = keyed_forth t }

abbrev pub PlaceValid : Qualified → Type 0
PlaceValid q = NameValid q.schema × NameValid q.name

abbrev pub place_pieces : Qualified → List Piece
place_pieces q = qualified q.schema q.name []

qualified_back : (ws rest : List Word) (q : Qualified) → qualified_at ws ≡ Some (q, rest) → PlaceValid q × Consumes ws (place_pieces q) rest
unfolding qualified_at
qualified_back ws rest q e =
    step name_reader _ ws (q, rest) e (λ schema w1 hs ts e1.
    mark_step 46 _ w1 (q, rest) e1 (λ w2 tm e2.
    step name_reader _ w2 (q, rest) e2 (λ n w3 hn tn e3.
    made (λ q rest. PlaceValid q × Consumes ws (place_pieces q) rest) _ q w3 rest e3
    ((hs, hn), consumes_then ws w1 w3 _ _ ts (consumes_then w1 w2 w3 _ _ tm tn)))))

qualified_forth : (ws : List Word) (q : Qualified) (more : List Piece) → PlaceValid q → Spell ws (place_pieces q ++ more) → Ends (qualified_at ws) q more
unfolding qualified_at
qualified_forth ws q more valid h =
    go_on name_reader _ ws q.schema (mark 46 ∷ name q.name ∷ more) more q valid.0 h (λ w1 h1.
    mark_on 46 _ w1 (name q.name ∷ more) more q h1 (λ w2 h2.
    go_on name_reader _ w2 q.name more more q valid.1 h2 (λ w3 h3. (w3, refl, h3))))

pub qualified_reader : Reader qualified_at place_pieces PlaceValid
qualified_reader = record { back = qualified_back; forth = qualified_forth }
