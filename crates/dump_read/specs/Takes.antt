-- The value that words begin with, and the words behind it.
use Rattle.std.specs.Prelude.{ℕ, ℤ, pos, negsuc, Bool, true, false, ◌&&◌, nat_le, bytes_eq, List, [], ◌∷◌, Option, Some, None, option_and_then, if◌then◌else◌, codes}
use Rattle.std.specs.List.{find}
use Rattle.std.specs.Str.{is_utf8}
use Rattle.fs_model.specs.Names.{Path}
use Rattle.fs_model.specs.PathText.{path_in}
use Rattle.heap_tuple.specs.declared.shape.Align.{Align}
use Rattle.heap_tuple.specs.declared.shape.Align.TheVariants as aligns
use Rattle.catalog.specs.declared.types.BaseType.{BaseType}
use Rattle.catalog.specs.declared.types.BaseType.TheVariants as types
use Rattle.dump_lex.specs.declared.token.TokenKind.{TokenKind}
use Rattle.dump_lex.specs.declared.token.TokenKind.TheVariants as tokens
use Rattle.dump_lex.specs.Value.{is_name, name_of, string_of, bytes_of, number_of}
use Rattle.dump_grammar.specs.declared.statement.NextKind.{NextKind}
use Rattle.dump_grammar.specs.declared.statement.NextKind.TheVariants as kinds
use Rattle.dump_grammar.specs.Pieces.{kind_word, type_word, align_word, flag_word}
use Rattle.dump_grammar.specs.Spelling.{Word, is_name_kind}

infixl 10 ◌>>=◌
abbrev pub ◌>>=◌ : {A B : Type 0} → Option A → (A → Option B) → Option B
o >>= f = option_and_then f o

-- ---- one word

abbrev pub is_keyword : TokenKind → Bool
is_keyword tokens.Keyword = true
is_keyword _ = false

abbrev pub is_plain_kind : TokenKind → Bool
is_plain_kind tokens.Plain = true
is_plain_kind _ = false

abbrev pub is_mark_kind : TokenKind → Bool
is_mark_kind tokens.Mark = true
is_mark_kind _ = false

abbrev pub is_number_kind : TokenKind → Bool
is_number_kind tokens.Number = true
is_number_kind _ = false

abbrev pub is_string_kind : TokenKind → Bool
is_string_kind tokens.Str = true
is_string_kind _ = false

abbrev pub is_hex_kind : TokenKind → Bool
is_hex_kind tokens.Hex = true
is_hex_kind _ = false

unfoldable pub is_key : List ℕ → Word → Bool
is_key text w = is_keyword w.0 && bytes_eq w.1 text

unfoldable pub is_plain : List ℕ → Word → Bool
is_plain text w = is_plain_kind w.0 && bytes_eq w.1 text

unfoldable pub is_mark : ℕ → Word → Bool
is_mark b w = is_mark_kind w.0 && bytes_eq w.1 (b ∷ [])

abbrev pub named : List ℕ → Option (List ℕ)
named n = if is_name n then Some n else None

unfoldable pub name_in : Word → Option (List ℕ)
name_in w = if is_name_kind w.0 then named (name_of w.0 w.1) else None

unfoldable pub number_in : Word → Option ℕ
number_in w = if is_number_kind w.0 then number_of w.1 else None

unfoldable pub string_in : Word → Option (List ℕ)
string_in w = if is_string_kind w.0 then Some (string_of w.1) else None

abbrev pub path_of : List ℕ → Option Path
path_of text = if is_utf8 text then path_in text else None

-- the path that a string is, if it is text that reads as one
unfoldable pub location_in : Word → Option Path
location_in w = string_in w >>= path_of

unfoldable pub hex_in : Word → Option (List ℕ)
hex_in w = if is_hex_kind w.0 then Some (bytes_of w.1) else None

-- ---- words that name a value, each by its word in the table of the grammar

abbrev pub next_kinds : List NextKind
next_kinds = kinds.Role ∷ kinds.Tablespace ∷ kinds.Database ∷ kinds.TypeOid ∷ kinds.Label ∷ kinds.Table ∷ kinds.TableFile ∷ kinds.Toast ∷ kinds.ToastFile ∷ kinds.ToastIndex ∷ kinds.ToastIndexFile ∷ kinds.Index ∷ kinds.IndexFile ∷ kinds.Sequence ∷ kinds.SequenceFile ∷ []

unfoldable pub kind_in : Word → Option NextKind
kind_in w = find (λ kind. is_plain (kind_word kind) w) next_kinds

abbrev pub base_types : List BaseType
base_types = types.Bool ∷ types.Int2 ∷ types.Int4 ∷ types.Oid ∷ types.Float4 ∷ types.Date ∷ types.RegCollation ∷ types.RegConfig ∷ types.RegDictionary ∷ types.RegNamespace ∷ types.RegOper ∷ types.RegOperator ∷ types.RegProc ∷ types.RegProcedure ∷ types.Int8 ∷ types.Float8 ∷ types.Timestamp ∷ types.TimestampTz ∷ types.Uuid ∷ types.Name ∷ types.AclItem ∷ types.Text ∷ types.VarChar ∷ types.Bytea ∷ types.Numeric ∷ types.Jsonb ∷ []

unfoldable pub type_in : Word → Option BaseType
type_in w = find (λ base. is_plain (type_word base) w) base_types

abbrev pub alignments : List Align
alignments = aligns.C ∷ aligns.S ∷ aligns.I ∷ aligns.D ∷ []

unfoldable pub align_in : Word → Option Align
align_in w = find (λ align. is_plain (align_word align) w) alignments

unfoldable pub flag_in : Word → Option Bool
flag_in w = find (λ on. is_key (flag_word on) w) (true ∷ false ∷ [])

-- ---- numbers with a range of their own

abbrev pub fixed_length : ℕ → Option ℤ
fixed_length n = if nat_le n 32767 then Some (pos n) else None

-- how long the fields of a dropped column are
unfoldable pub length_in : Word → Option ℤ
length_in w = if is_key (codes "VAR") w then Some (negsuc 0) else (number_in w >>= fixed_length)

abbrev pub key_of : ℕ → Option ℕ
key_of n = if nat_le n 65535 then Some n else None

-- the number of a column
unfoldable pub column_number_in : Word → Option ℕ
column_number_in w = number_in w >>= key_of

-- ---- the first of several words

unfoldable pub word_at : List Word → Option (Word × List Word)
word_at [] = None
word_at (w ∷ ws) = Some (w, ws)

abbrev pub then_rest : {A : Type 0} → List Word → A → Option (A × List Word)
then_rest ws x = Some (x, ws)

-- the value of the first word
unfoldable pub one : {A : Type 0} → (Word → Option A) → List Word → Option (A × List Word)
one value ws = word_at ws >>= λ x. value x.0 >>= then_rest x.1

abbrev pub rest_if : Bool → List Word → Option (List Word)
rest_if is ws = if is then Some ws else None

-- the words behind a keyword
unfoldable pub key_at : List ℕ → List Word → Option (List Word)
key_at text ws = word_at ws >>= λ x. rest_if (is_key text x.0) x.1

-- the words behind a mark
unfoldable pub mark_at : ℕ → List Word → Option (List Word)
mark_at b ws = word_at ws >>= λ x. rest_if (is_mark b x.0) x.1
