-- The pieces of a statement are such as can be written.
use Rattle.std.proofs.Common.{◌≡◌, ℕ, ℤ, pos, negsuc, ◌≤◌, Bool, true, false, List, [], ◌∷◌, ◌++◌, map, Option, Some, None, refl, arith}
use Rattle.std.specs.Prelude.{◌&&◌, nat_lt, nat_le, length, is_none, bytes_eq}
use Rattle.std.specs.List.{list_all}
use Rattle.std.proofs.lemmas.Bool.{leb-true}
use Rattle.catalog.specs.Forms.{is_length}
use Rattle.catalog.specs.declared.types.BaseType.{BaseType}
use Rattle.catalog.specs.declared.types.BaseType.TheVariants as types
use Rattle.heap_tuple.specs.declared.shape.Align.{Align}
use Rattle.heap_tuple.specs.declared.shape.Align.TheVariants as aligns
use Rattle.dump_lex.specs.declared.token.TokenKind.TheVariants as tokens
use Rattle.dump_lex.specs.Grammar.{IsToken}
use Rattle.dump_lex.specs.Value.{is_name}
use Rattle.dump_grammar.specs.declared.statement.NextKind.{NextKind}
use Rattle.dump_grammar.specs.declared.statement.NextKind.TheVariants as kinds
use Rattle.dump_grammar.specs.declared.statement.Statement.{Statement}
use Rattle.dump_grammar.specs.declared.statement.Statement.TheVariants.{Bootstrap, SetNext, CreateRole, CreateTablespace, CreateDatabase, AlterDatabase, Connect, CreateSchema, CreateEnum, AddLabel, CreateTable, CreateIndex, CreateSequence}
use Rattle.dump_grammar.specs.declared.columns.NamedKind.{NamedKind}
use Rattle.dump_grammar.specs.declared.columns.NamedKind.TheVariants.{Base, Enum, Dropped}
use Rattle.dump_grammar.specs.declared.columns.ColumnText.{ColumnText}
use Rattle.dump_grammar.specs.Pieces.{Piece, kind_word, type_word, align_word, flag_word, missing_pieces, length_piece, column_pieces_of, column_pieces, key_pieces, more_items, items, pieces}
use Rattle.dump_grammar.specs.Spelling.{is_column_of, is_column, is_written_missing, is_written_column, IsStatement, IsWritable}
use Rattle.dump_spelling.proofs.PathTexts.{text_again}
use Rattle.dump_spelling.proofs.Tokens.{IsPiece, ArePieces}

both_true : (a b : Bool) → (a && b) ≡ true → (a ≡ true) × (b ≡ true)
both_true true b e = (refl, e)
both_true false b e = absurd cc

-- a plain word of at most 63 bytes
short : (m n : ℕ) → nat_le m n ≡ true → m ≤ n
short m n h = leb-true m n h

kind_piece : (kind : NextKind) → IsToken tokens.Plain (kind_word kind)
kind_piece kinds.Role = ((refl, refl), short _ _ refl)
kind_piece kinds.Tablespace = ((refl, refl), short _ _ refl)
kind_piece kinds.Database = ((refl, refl), short _ _ refl)
kind_piece kinds.TypeOid = ((refl, refl), short _ _ refl)
kind_piece kinds.Label = ((refl, refl), short _ _ refl)
kind_piece kinds.Table = ((refl, refl), short _ _ refl)
kind_piece kinds.TableFile = ((refl, refl), short _ _ refl)
kind_piece kinds.Toast = ((refl, refl), short _ _ refl)
kind_piece kinds.ToastFile = ((refl, refl), short _ _ refl)
kind_piece kinds.ToastIndex = ((refl, refl), short _ _ refl)
kind_piece kinds.ToastIndexFile = ((refl, refl), short _ _ refl)
kind_piece kinds.Index = ((refl, refl), short _ _ refl)
kind_piece kinds.IndexFile = ((refl, refl), short _ _ refl)
kind_piece kinds.Sequence = ((refl, refl), short _ _ refl)
kind_piece kinds.SequenceFile = ((refl, refl), short _ _ refl)

type_piece : (base : BaseType) → IsToken tokens.Plain (type_word base)
type_piece types.Bool = ((refl, refl), short _ _ refl)
type_piece types.Int2 = ((refl, refl), short _ _ refl)
type_piece types.Int4 = ((refl, refl), short _ _ refl)
type_piece types.Oid = ((refl, refl), short _ _ refl)
type_piece types.Float4 = ((refl, refl), short _ _ refl)
type_piece types.Date = ((refl, refl), short _ _ refl)
type_piece types.RegCollation = ((refl, refl), short _ _ refl)
type_piece types.RegConfig = ((refl, refl), short _ _ refl)
type_piece types.RegDictionary = ((refl, refl), short _ _ refl)
type_piece types.RegNamespace = ((refl, refl), short _ _ refl)
type_piece types.RegOper = ((refl, refl), short _ _ refl)
type_piece types.RegOperator = ((refl, refl), short _ _ refl)
type_piece types.RegProc = ((refl, refl), short _ _ refl)
type_piece types.RegProcedure = ((refl, refl), short _ _ refl)
type_piece types.Int8 = ((refl, refl), short _ _ refl)
type_piece types.Float8 = ((refl, refl), short _ _ refl)
type_piece types.Timestamp = ((refl, refl), short _ _ refl)
type_piece types.TimestampTz = ((refl, refl), short _ _ refl)
type_piece types.Uuid = ((refl, refl), short _ _ refl)
type_piece types.Name = ((refl, refl), short _ _ refl)
type_piece types.AclItem = ((refl, refl), short _ _ refl)
type_piece types.Text = ((refl, refl), short _ _ refl)
type_piece types.VarChar = ((refl, refl), short _ _ refl)
type_piece types.Bytea = ((refl, refl), short _ _ refl)
type_piece types.Numeric = ((refl, refl), short _ _ refl)
type_piece types.Jsonb = ((refl, refl), short _ _ refl)

align_piece : (align : Align) → IsToken tokens.Plain (align_word align)
align_piece aligns.C = ((refl, refl), short _ _ refl)
align_piece aligns.S = ((refl, refl), short _ _ refl)
align_piece aligns.I = ((refl, refl), short _ _ refl)
align_piece aligns.D = ((refl, refl), short _ _ refl)

flag_piece : (on : Bool) → IsToken tokens.Keyword (flag_word on)
flag_piece true = (refl, refl)
flag_piece false = (refl, refl)

pieces-append : (ps qs : List Piece) → ArePieces ps → ArePieces qs → ArePieces (ps ++ qs)
pieces-append [] qs h k = k
pieces-append (p ∷ ps) qs h k = (h.0, pieces-append ps qs h.1 k)

-- ---- columns and keys

missing_are : (missing : Option (List ℕ)) → is_written_missing missing ≡ true → ArePieces (missing_pieces missing)
missing_are None h = tt
missing_are (Some bytes) h = ((refl, refl), (h, tt))

length_is : (length : ℤ) → is_length length ≡ true → IsPiece (length_piece length)
length_is (pos n) h = let k = leb-true n 32767 h in omega arith
length_is (negsuc n) h = (refl, refl)

column_are_of : (n : List ℕ) (missing : Option (List ℕ)) (kind : NamedKind) → is_column_of n missing kind ≡ true → is_written_missing missing ≡ true → ArePieces (column_pieces_of n missing kind)
column_are_of n missing (Base base) h k = (h, (type_piece base, missing_are missing k))
column_are_of n missing (Enum schema kind) h k =
    let a = both_true (is_name n) (is_name schema && is_name kind) h in
    let b = both_true (is_name schema) (is_name kind) a.1 in
    (a.0, ((refl, refl), (b.0, (refl, (b.1, missing_are missing k)))))
column_are_of n missing (Dropped length align) h k =
    let a = both_true (bytes_eq n []) (is_none missing && is_length length) h in
    let b = both_true (is_none missing) (is_length length) a.1 in
    ((refl, refl), (length_is length b.1, (align_piece align, tt)))

column_are : (c : ColumnText) → is_column c ≡ true → is_written_column c ≡ true → ArePieces (column_pieces c)
column_are c h k = column_are_of c.name c.missing c.kind h k

more_columns_are : (cs : List ColumnText) → list_all is_column cs ≡ true → list_all is_written_column cs ≡ true → ArePieces (more_items (map column_pieces cs))
more_columns_are [] h k = tt
more_columns_are (c ∷ cs) h k =
    let a = both_true (is_column c) (list_all is_column cs) h in
    let b = both_true (is_written_column c) (list_all is_written_column cs) k in
    (refl, pieces-append (column_pieces c) (more_items (map column_pieces cs)) (column_are c a.0 b.0) (more_columns_are cs a.1 b.1))

columns_are : (cs : List ColumnText) → list_all is_column cs ≡ true → list_all is_written_column cs ≡ true → ArePieces (items (map column_pieces cs))
columns_are [] h k = tt
columns_are (c ∷ cs) h k =
    let a = both_true (is_column c) (list_all is_column cs) h in
    let b = both_true (is_written_column c) (list_all is_written_column cs) k in
    pieces-append (column_pieces c) (more_items (map column_pieces cs)) (column_are c a.0 b.0) (more_columns_are cs a.1 b.1)

key_is : (k : ℕ) → nat_le k 65535 ≡ true → k ≤ 4294967295
key_is k h = let t = leb-true k 65535 h in omega arith

more_keys_are : (ks : List ℕ) → list_all (λ k. nat_le k 65535) ks ≡ true → ArePieces (more_items (map key_pieces ks))
more_keys_are [] h = tt
more_keys_are (k ∷ ks) h =
    let a = both_true (nat_le k 65535) (list_all (λ n. nat_le n 65535) ks) h in
    (refl, (key_is k a.0, more_keys_are ks a.1))

keys_are : (ks : List ℕ) → list_all (λ k. nat_le k 65535) ks ≡ true → ArePieces (items (map key_pieces ks))
keys_are [] h = tt
keys_are (k ∷ ks) h =
    let a = both_true (nat_le k 65535) (list_all (λ n. nat_le n 65535) ks) h in
    (key_is k a.0, more_keys_are ks a.1)

-- ---- statements

pub are_pieces : (s : Statement) → IsStatement s → IsWritable s → ArePieces (pieces s)
are_pieces (Bootstrap n) h w = ((refl, refl), (h, (refl, tt)))
are_pieces (SetNext kind n) h w = ((refl, refl), ((refl, refl), (kind_piece kind, (h, (refl, tt)))))
are_pieces (CreateRole n) h w = ((refl, refl), ((refl, refl), (h, (refl, tt))))
are_pieces (CreateTablespace n owner path) h w = ((refl, refl), ((refl, refl), (h.0, ((refl, refl), (h.1, ((refl, refl), ((w, text_again path h.2), (refl, tt))))))))
are_pieces (CreateDatabase n owner) h w = ((refl, refl), ((refl, refl), (h.0, ((refl, refl), (h.1, (refl, tt))))))
are_pieces (AlterDatabase n on) h w = ((refl, refl), ((refl, refl), (h, ((refl, refl), (flag_piece on, (refl, tt))))))
are_pieces (Connect n) h w = ((refl, refl), (h, (refl, tt)))
are_pieces (CreateSchema n owner) h w = ((refl, refl), ((refl, refl), (h.0, ((refl, refl), (h.1, (refl, tt))))))
are_pieces (CreateEnum schema n owner) h w = ((refl, refl), ((refl, refl), (h.0, (refl, (h.1, ((refl, refl), (h.2, (refl, tt))))))))
are_pieces (AddLabel schema n text) h w = ((refl, refl), ((refl, refl), (h.0, (refl, (h.1, (tt, (refl, tt)))))))
are_pieces (CreateTable schema n owner tablespace columns) h w =
    ((refl, refl), ((refl, refl), (h.0, (refl, (h.1, ((refl, refl), (h.2, ((refl, refl), (h.3, (refl, pieces-append (items (map column_pieces columns)) _ (columns_are columns h.4 w) (refl, (refl, tt))))))))))))
are_pieces (CreateIndex n schema table tablespace keys) h w =
    let k = both_true (nat_lt 0 (length keys)) (list_all (λ k. nat_le k 65535) keys) h.4 in
    ((refl, refl), ((refl, refl), (h.0, ((refl, refl), (h.1, (refl, (h.2, ((refl, refl), (h.3, (refl, pieces-append (items (map key_pieces keys)) _ (keys_are keys k.1) (refl, (refl, tt))))))))))))
are_pieces (CreateSequence schema n owner) h w = ((refl, refl), ((refl, refl), (h.0, (refl, (h.1, ((refl, refl), (h.2, (refl, tt))))))))
