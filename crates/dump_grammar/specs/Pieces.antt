-- The grammar of statements: the pieces that each one is spelled by. It is the one table that statements are read and
-- written by.
use Rattle.std.specs.Prelude.{ℕ, ℤ, pos, negsuc, Bool, true, false, List, [], ◌∷◌, ◌++◌, map, Option, Some, None, codes}
use Rattle.fs_model.specs.Names.{Path}
use Rattle.heap_tuple.specs.declared.shape.Align.{Align}
use Rattle.heap_tuple.specs.declared.shape.Align.TheVariants as aligns
use Rattle.catalog.specs.declared.types.BaseType.{BaseType}
use Rattle.catalog.specs.declared.types.BaseType.TheVariants as types
use Rattle.dump_grammar.specs.declared.statement.NextKind.{NextKind}
use Rattle.dump_grammar.specs.declared.statement.NextKind.TheVariants as kinds
use Rattle.dump_grammar.specs.declared.statement.Statement.{Statement}
use Rattle.dump_grammar.specs.declared.statement.Statement.TheVariants.{Bootstrap, SetNext, CreateRole, CreateTablespace, CreateDatabase, AlterDatabase, Connect, CreateSchema, CreateEnum, AddLabel, CreateTable, CreateIndex, CreateSequence}
use Rattle.dump_grammar.specs.declared.columns.NamedKind.{NamedKind}
use Rattle.dump_grammar.specs.declared.columns.NamedKind.TheVariants.{Base, Enum, Dropped}
use Rattle.dump_grammar.specs.declared.columns.ColumnText.{ColumnText}

-- A piece is one token. A keyword, a plain word and a mark stand for themselves. Each of the others has a value, which
-- several tokens may write.
pub data Piece : Type 0 where
  keyword : List ℕ → Piece
  plain : List ℕ → Piece
  mark : ℕ → Piece
  name : List ℕ → Piece
  number : ℕ → Piece
  string : List ℕ → Piece
  location : Path → Piece
  hex : List ℕ → Piece

-- ---- words that name a value

-- the word behind SET NEXT
abbrev pub kind_word : NextKind → List ℕ
kind_word kinds.Role = codes "role"
kind_word kinds.Tablespace = codes "tablespace"
kind_word kinds.Database = codes "database"
kind_word kinds.TypeOid = codes "type"
kind_word kinds.Label = codes "label"
kind_word kinds.Table = codes "table"
kind_word kinds.TableFile = codes "table_file"
kind_word kinds.Toast = codes "toast"
kind_word kinds.ToastFile = codes "toast_file"
kind_word kinds.ToastIndex = codes "toast_index"
kind_word kinds.ToastIndexFile = codes "toast_index_file"
kind_word kinds.Index = codes "index"
kind_word kinds.IndexFile = codes "index_file"
kind_word kinds.Sequence = codes "sequence"
kind_word kinds.SequenceFile = codes "sequence_file"

-- the name of a built-in type, `typname` of `pg_type`
abbrev pub type_word : BaseType → List ℕ
type_word types.Bool = codes "bool"
type_word types.Int2 = codes "int2"
type_word types.Int4 = codes "int4"
type_word types.Oid = codes "oid"
type_word types.Float4 = codes "float4"
type_word types.Date = codes "date"
type_word types.RegCollation = codes "regcollation"
type_word types.RegConfig = codes "regconfig"
type_word types.RegDictionary = codes "regdictionary"
type_word types.RegNamespace = codes "regnamespace"
type_word types.RegOper = codes "regoper"
type_word types.RegOperator = codes "regoperator"
type_word types.RegProc = codes "regproc"
type_word types.RegProcedure = codes "regprocedure"
type_word types.Int8 = codes "int8"
type_word types.Float8 = codes "float8"
type_word types.Timestamp = codes "timestamp"
type_word types.TimestampTz = codes "timestamptz"
type_word types.Uuid = codes "uuid"
type_word types.Name = codes "name"
type_word types.AclItem = codes "aclitem"
type_word types.Text = codes "text"
type_word types.VarChar = codes "varchar"
type_word types.Bytea = codes "bytea"
type_word types.Numeric = codes "numeric"
type_word types.Jsonb = codes "jsonb"

-- `attalign` of `pg_attribute`
abbrev pub align_word : Align → List ℕ
align_word aligns.C = codes "c"
align_word aligns.S = codes "s"
align_word aligns.I = codes "i"
align_word aligns.D = codes "d"

abbrev pub flag_word : Bool → List ℕ
flag_word true = codes "ON"
flag_word false = codes "OFF"

-- ---- parts of statements

abbrev pub open_mark : Piece
open_mark = mark 40

abbrev pub close_mark : Piece
close_mark = mark 41

abbrev pub comma : Piece
comma = mark 44

abbrev pub dot : Piece
dot = mark 46

abbrev pub semicolon : Piece
semicolon = mark 59

-- a name in a schema
abbrev pub qualified : List ℕ → List ℕ → List Piece → List Piece
qualified schema n more = name schema ∷ dot ∷ name n ∷ more

abbrev pub owned : List ℕ → List Piece → List Piece
owned owner more = keyword (codes "OWNER") ∷ name owner ∷ more

-- the value of the rows that are older than a column
abbrev pub missing_pieces : Option (List ℕ) → List Piece
missing_pieces None = []
missing_pieces (Some bytes) = keyword (codes "MISSING") ∷ hex bytes ∷ []

-- how long the fields of a dropped column are
abbrev pub length_piece : ℤ → Piece
length_piece (pos n) = number n
length_piece (negsuc n) = keyword (codes "VAR")

abbrev pub column_pieces_of : List ℕ → Option (List ℕ) → NamedKind → List Piece
column_pieces_of n missing (Base base) = name n ∷ plain (type_word base) ∷ missing_pieces missing
column_pieces_of n missing (Enum schema kind) = name n ∷ keyword (codes "ENUM") ∷ qualified schema kind (missing_pieces missing)
column_pieces_of n missing (Dropped length align) = keyword (codes "DROPPED") ∷ length_piece length ∷ plain (align_word align) ∷ []

abbrev pub column_pieces : ColumnText → List Piece
column_pieces c = column_pieces_of c.name c.missing c.kind

abbrev pub key_pieces : ℕ → List Piece
key_pieces k = number k ∷ []

-- a comma before each
abbrev pub more_items : List (List Piece) → List Piece
more_items [] = []
more_items (x ∷ xs) = comma ∷ (x ++ more_items xs)

-- commas between
abbrev pub items : List (List Piece) → List Piece
items [] = []
items (x ∷ xs) = x ++ more_items xs

-- the end of a statement with items in parentheses
abbrev pub listed : List (List Piece) → List Piece
listed xs = open_mark ∷ (items xs ++ close_mark ∷ semicolon ∷ [])

-- ---- statements

abbrev pub pieces : Statement → List Piece
pieces (Bootstrap n) = keyword (codes "BOOTSTRAP") ∷ name n ∷ semicolon ∷ []
pieces (SetNext kind n) = keyword (codes "SET") ∷ keyword (codes "NEXT") ∷ plain (kind_word kind) ∷ number n ∷ semicolon ∷ []
pieces (CreateRole n) = keyword (codes "CREATE") ∷ keyword (codes "ROLE") ∷ name n ∷ semicolon ∷ []
pieces (CreateTablespace n owner path) = keyword (codes "CREATE") ∷ keyword (codes "TABLESPACE") ∷ name n ∷ owned owner (keyword (codes "LOCATION") ∷ location path ∷ semicolon ∷ [])
pieces (CreateDatabase n owner) = keyword (codes "CREATE") ∷ keyword (codes "DATABASE") ∷ name n ∷ owned owner (semicolon ∷ [])
pieces (AlterDatabase n on) = keyword (codes "ALTER") ∷ keyword (codes "DATABASE") ∷ name n ∷ keyword (codes "CONNECTIONS") ∷ keyword (flag_word on) ∷ semicolon ∷ []
pieces (Connect n) = keyword (codes "CONNECT") ∷ name n ∷ semicolon ∷ []
pieces (CreateSchema n owner) = keyword (codes "CREATE") ∷ keyword (codes "SCHEMA") ∷ name n ∷ owned owner (semicolon ∷ [])
pieces (CreateEnum schema n owner) = keyword (codes "CREATE") ∷ keyword (codes "ENUM") ∷ qualified schema n (owned owner (semicolon ∷ []))
pieces (AddLabel schema n text) = keyword (codes "ADD") ∷ keyword (codes "LABEL") ∷ qualified schema n (string text ∷ semicolon ∷ [])
pieces (CreateTable schema n owner tablespace columns) = keyword (codes "CREATE") ∷ keyword (codes "TABLE") ∷ qualified schema n (owned owner (keyword (codes "TABLESPACE") ∷ name tablespace ∷ listed (map column_pieces columns)))
pieces (CreateIndex n schema table tablespace keys) = keyword (codes "CREATE") ∷ keyword (codes "INDEX") ∷ name n ∷ keyword (codes "ON") ∷ qualified schema table (keyword (codes "TABLESPACE") ∷ name tablespace ∷ listed (map key_pieces keys))
pieces (CreateSequence schema n owner) = keyword (codes "CREATE") ∷ keyword (codes "SEQUENCE") ∷ qualified schema n (owned owner (semicolon ∷ []))
