-- Which words spell a statement, and how its canonical line is written.
use Rattle.std.specs.Prelude.{◌≡◌, ℕ, ◌≤◌, Bool, true, false, ◌&&◌, ◌||◌, not, nat_lt, nat_le, nat_eq, List, [], ◌∷◌, ◌++◌, length, Option, Some, None, is_none, if◌then◌else◌, bytes_eq}
use Rattle.std.specs.List.{list_all, flat_map}
use Rattle.std.specs.Str.{is_utf8}
use Rattle.std.specs.Fmt.{decimal}
use Rattle.fs_model.specs.Names.{is_name as is_file_name}
use Rattle.fs_model.specs.PathText.{path_in, text_of as path_text}
use Rattle.dump_lex.specs.declared.token.TokenKind.{TokenKind}
use Rattle.dump_lex.specs.declared.token.TokenKind.TheVariants as tokens
use Rattle.dump_lex.specs.declared.token.Token.{Token}
use Rattle.dump_lex.specs.Enclosed.{enclosed}
use Rattle.dump_lex.specs.Grammar.{hex_text}
use Rattle.dump_lex.specs.Value.{is_name, name_of, string_of, bytes_of, number_of}
use Rattle.dump_lex.specs.Written.{name_text, name_kind, hex_of, are_bytes}
use Rattle.catalog.specs.Forms.{is_length}
use Rattle.dump_grammar.specs.declared.statement.Statement.{Statement}
use Rattle.dump_grammar.specs.declared.statement.Statement.TheVariants.{Bootstrap, SetNext, CreateRole, CreateTablespace, CreateDatabase, AlterDatabase, Connect, CreateSchema, CreateEnum, AddLabel, CreateTable, CreateIndex, CreateSequence}
use Rattle.dump_grammar.specs.declared.columns.NamedKind.{NamedKind}
use Rattle.dump_grammar.specs.declared.columns.NamedKind.TheVariants.{Base, Enum, Dropped}
use Rattle.dump_grammar.specs.declared.columns.ColumnText.{ColumnText}
use Rattle.dump_grammar.specs.Pieces.{Piece, keyword, plain, mark, name, number, string, location, hex, pieces}

-- a token without where it stands
abbrev pub Word : Type 0
Word = TokenKind × List ℕ

abbrev pub word_of : Token → Word
word_of t = (t.kind, t.text.now)

-- ---- reading

abbrev pub is_name_kind : TokenKind → Bool
is_name_kind tokens.Plain = true
is_name_kind tokens.Quoted = true
is_name_kind _ = false

-- the word writes the piece
abbrev pub Writes : Word → Piece → Type 0
Writes w (keyword text) = w ≡ (tokens.Keyword, text)
Writes w (plain text) = w ≡ (tokens.Plain, text)
Writes w (mark b) = w ≡ (tokens.Mark, b ∷ [])
Writes w (name n) = (is_name_kind w.0 ≡ true) × (name_of w.0 w.1 ≡ n) × (is_name n ≡ true)
Writes w (number n) = (w.0 ≡ tokens.Number) × (number_of w.1 ≡ Some n)
Writes w (string text) = (w.0 ≡ tokens.Str) × (string_of w.1 ≡ text)
Writes w (location path) = (w.0 ≡ tokens.Str) × (is_utf8 (string_of w.1) ≡ true) × (path_in (string_of w.1) ≡ Some path)
Writes w (hex bytes) = (w.0 ≡ tokens.Hex) × (bytes_of w.1 ≡ bytes)

-- the words write the pieces, one each
abbrev pub Spell : List Word → List Piece → Type 0
Spell [] [] = Unit {0}
Spell [] (p ∷ ps) = ⊥
Spell (w ∷ ws) [] = ⊥
Spell (w ∷ ws) (p ∷ ps) = Writes w p × Spell ws ps

-- ---- statements that can be spelled

-- a dropped column has no name and no missing value
abbrev pub is_column_of : List ℕ → Option (List ℕ) → NamedKind → Bool
is_column_of n missing (Base base) = is_name n
is_column_of n missing (Enum schema kind) = is_name n && (is_name schema && is_name kind)
is_column_of n missing (Dropped length align) = bytes_eq n [] && (is_none missing && is_length length)

abbrev pub is_column : ColumnText → Bool
is_column c = is_column_of c.name c.missing c.kind

-- keys have 16 bits, and there is one
abbrev pub are_keys : List ℕ → Bool
are_keys keys = nat_lt 0 (length keys) && list_all (λ k. nat_le k 65535) keys

-- its names are names, and its numbers have their range
abbrev pub IsStatement : Statement → Type 0
IsStatement (Bootstrap n) = is_name n ≡ true
IsStatement (SetNext kind n) = n ≤ 4294967295
IsStatement (CreateRole n) = is_name n ≡ true
IsStatement (CreateTablespace n owner path) = (is_name n ≡ true) × (is_name owner ≡ true) × (list_all is_file_name path ≡ true)
IsStatement (CreateDatabase n owner) = (is_name n ≡ true) × (is_name owner ≡ true)
IsStatement (AlterDatabase n on) = is_name n ≡ true
IsStatement (Connect n) = is_name n ≡ true
IsStatement (CreateSchema n owner) = (is_name n ≡ true) × (is_name owner ≡ true)
IsStatement (CreateEnum schema n owner) = (is_name schema ≡ true) × (is_name n ≡ true) × (is_name owner ≡ true)
IsStatement (AddLabel schema n text) = (is_name schema ≡ true) × (is_name n ≡ true)
IsStatement (CreateTable schema n owner tablespace columns) = (is_name schema ≡ true) × (is_name n ≡ true) × (is_name owner ≡ true) × (is_name tablespace ≡ true) × (list_all is_column columns ≡ true)
IsStatement (CreateIndex n schema table tablespace keys) = (is_name n ≡ true) × (is_name schema ≡ true) × (is_name table ≡ true) × (is_name tablespace ≡ true) × (are_keys keys ≡ true)
IsStatement (CreateSequence schema n owner) = (is_name schema ≡ true) × (is_name n ≡ true) × (is_name owner ≡ true)

-- ---- writing

-- the token that writes a piece
abbrev pub written : Piece → Word
written (keyword text) = (tokens.Keyword, text)
written (plain text) = (tokens.Plain, text)
written (mark b) = (tokens.Mark, b ∷ [])
written (name n) = (name_kind n, name_text n)
written (number n) = (tokens.Number, decimal n)
written (string text) = (tokens.Str, enclosed 39 text)
written (location path) = (tokens.Str, enclosed 39 (path_text path))
written (hex bytes) = (tokens.Hex, hex_text (hex_of bytes))

abbrev pub text_of : Piece → List ℕ
text_of p = (written p).1

-- no space stands behind `(` and `.`, and none before `)`, `,`, `.` and `;`
abbrev pub opens : Piece → Bool
opens (mark b) = nat_eq b 40 || nat_eq b 46
opens _ = false

abbrev pub closes : Piece → Bool
closes (mark b) = not (nat_eq b 40)
closes _ = false

abbrev pub gap : Piece → Piece → List ℕ
gap p q = if opens p || closes q then [] else 32 ∷ []

-- what stands behind a piece, up to the newline
abbrev pub behind : Piece → List Piece → List ℕ
behind p [] = 10 ∷ []
behind p (q ∷ qs) = gap p q ++ (text_of q ++ behind q qs)

abbrev pub spelled : List Piece → List ℕ
spelled [] = []
spelled (p ∷ ps) = text_of p ++ behind p ps

-- the line of a statement, with its newline
abbrev pub line_of : Statement → List ℕ
line_of s = spelled (pieces s)

abbrev pub lines_of : List Statement → List ℕ
lines_of statements = flat_map line_of statements

-- ---- statements whose line is read again

-- the bytes of a missing value are bytes
abbrev pub is_written_missing : Option (List ℕ) → Bool
is_written_missing None = true
is_written_missing (Some bytes) = are_bytes bytes

abbrev pub is_written_column : ColumnText → Bool
is_written_column c = is_written_missing c.missing

-- what its pieces say can be written: the text of a location is text, and bytes are bytes
abbrev pub IsWritable : Statement → Type 0
IsWritable (CreateTablespace n owner path) = is_utf8 (path_text path) ≡ true
IsWritable (CreateTable schema n owner tablespace columns) = list_all is_written_column columns ≡ true
IsWritable _ = Unit {0}
