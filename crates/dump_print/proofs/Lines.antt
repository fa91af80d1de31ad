-- The lines with a list in parentheses, put together from their parts.
use Rattle.std.specs.Prelude.{◌≡◌, ℕ, pos, negsuc, false, List, [], ◌∷◌, ◌++◌, map, Option, Some, None, codes}
use Rattle.std.specs.Fmt.{decimal}
use Rattle.std.proofs.Common.{refl, ap, ◌∙◌, append_assoc}
use Rattle.catalog.specs.declared.owners.Role.{Role}
use Rattle.catalog.specs.declared.owners.Tablespace.{Tablespace}
use Rattle.catalog.specs.declared.enums.EnumType.{EnumType}
use Rattle.catalog.specs.declared.relations.Column.{Column}
use Rattle.catalog.specs.declared.relations.Table.{Table}
use Rattle.catalog.specs.declared.relations.Index.{Index}
use Rattle.dump_lex.specs.Written.{name_text}
use Rattle.dump_grammar.specs.declared.columns.NamedKind.{NamedKind}
use Rattle.dump_grammar.specs.declared.columns.NamedKind.TheVariants.{Base, Enum, Dropped}
use Rattle.dump_grammar.specs.Pieces.{Piece, keyword, plain, name, number, open_mark, close_mark, comma, semicolon, type_word, align_word, missing_pieces, column_pieces_of, column_pieces, key_pieces, more_items, items}
use Rattle.dump_grammar.specs.Spelling.{opens, closes, gap, behind, line_of}
use Rattle.dump_grammar.specs.Canonical.{column_text, create_table, create_index, table_place, role_name, tablespace_name}
use Rattle.dump_print.specs.Parts.{more_text, list_text, missing_text, column_text_of, written_column, table_head, index_head}

-- ---- lists in parentheses

-- what a list of pieces is written as behind any piece that no gap is kept from
abbrev pub IsTail : List Piece → List ℕ → Type 0
IsTail rest text = (p : Piece) → opens p ≡ false → behind p rest ≡ text

-- the gap between a piece and one that closes nothing
abbrev pub IsGap : Piece → List ℕ → Type 0
IsGap p g = (q : Piece) → closes q ≡ false → gap p q ≡ g

-- what is written for an entry, behind any piece and in front of any tail
abbrev pub IsWritten : {A : Type 0} → (A → List Piece) → (A → List ℕ) → Type 0
IsWritten {A} spell write =
    (p : Piece) (g : List ℕ) → IsGap p g → (x : A) (rest : List Piece) (text : List ℕ) → IsTail rest text → behind p (spell x ++ rest) ≡ g ++ (write x ++ text)

abbrev pub closing : List Piece
closing = close_mark ∷ semicolon ∷ []

opened : IsGap open_mark []
opened q h = refl

separated : IsGap comma (32 ∷ [])
separated q h = rw h refl

pub more_are : {A : Type 0} (spell : A → List Piece) (write : A → List ℕ) → IsWritten spell write → (xs : List A) → IsTail (more_items (map spell xs) ++ closing) (more_text write xs)
more_are spell write w [] p h = rw h refl
more_are spell write w (x ∷ xs) p h =
    rw h (ap (λ (l : List Piece). 44 ∷ behind comma l) (append_assoc (spell x) (more_items (map spell xs)) closing)
    ∙ ap (λ (l : List ℕ). 44 ∷ l) (w comma (32 ∷ []) separated x (more_items (map spell xs) ++ closing) (more_text write xs) (more_are spell write w xs)))

pub listed_are : {A : Type 0} (spell : A → List Piece) (write : A → List ℕ) → IsWritten spell write → (xs : List A) → behind open_mark (items (map spell xs) ++ closing) ≡ list_text write xs
listed_are spell write w [] = refl
listed_are spell write w (x ∷ xs) =
    ap (λ (l : List Piece). behind open_mark l) (append_assoc (spell x) (more_items (map spell xs)) closing)
    ∙ w open_mark [] opened x (more_items (map spell xs) ++ closing) (more_text write xs) (more_are spell write w xs)

-- ---- columns

missing_is : (rest : List Piece) (text : List ℕ) → IsTail rest text → (p : Piece) → opens p ≡ false → (missing : Option (List ℕ)) → behind p (missing_pieces missing ++ rest) ≡ missing_text missing ++ text
missing_is rest text tail p h None = tail p h
missing_is rest text tail p h (Some bytes) = rw h (ap (λ (l : List ℕ). missing_text (Some bytes) ++ l) (tail _ refl))

prefixed : (x g y z : List ℕ) → x ≡ g → y ≡ z → x ++ y ≡ g ++ z
prefixed x g y z e f = ap (λ (l : List ℕ). l ++ y) e ∙ ap (λ (l : List ℕ). g ++ l) f

base_joins : (n a w m x t : List ℕ) → x ≡ m ++ t → n ++ (a ++ (w ++ x)) ≡ (n ++ (a ++ (w ++ m))) ++ t
base_joins n a w m x t e = ap (λ (l : List ℕ). n ++ (a ++ (w ++ l))) e ∙ simp append_assoc

enum_joins : (n a s b k m x t : List ℕ) → x ≡ m ++ t → n ++ (a ++ (s ++ (b ++ (k ++ x)))) ≡ (n ++ (a ++ ((s ++ (b ++ k)) ++ m))) ++ t
enum_joins n a s b k m x t e = ap (λ (l : List ℕ). n ++ (a ++ (s ++ (b ++ (k ++ l))))) e ∙ simp append_assoc

dropped_joins : (d l b a x t : List ℕ) → x ≡ t → d ++ (l ++ (b ++ (a ++ x))) ≡ (d ++ (l ++ (b ++ a))) ++ t
dropped_joins d l b a x t e = ap (λ (r : List ℕ). d ++ (l ++ (b ++ (a ++ r)))) e ∙ simp append_assoc

column_of_is : (p : Piece) (g : List ℕ) → IsGap p g → (n : List ℕ) (missing : Option (List ℕ)) (kind : NamedKind) (rest : List Piece) (text : List ℕ) → IsTail rest text
    → behind p (column_pieces_of n missing kind ++ rest) ≡ g ++ (column_text_of n missing kind ++ text)
column_of_is p g gaps n missing (Base base) rest text tail =
    prefixed _ _ _ _ (gaps (name n) refl)
    (base_joins (name_text n) (codes " ") (type_word base) (missing_text missing) _ text (missing_is rest text tail (plain (type_word base)) refl missing))
column_of_is p g gaps n missing (Enum schema kind) rest text tail =
    prefixed _ _ _ _ (gaps (name n) refl)
    (enum_joins (name_text n) (codes " ENUM ") (name_text schema) (codes ".") (name_text kind) (missing_text missing) _ text (missing_is rest text tail (name kind) refl missing))
column_of_is p g gaps n missing (Dropped (pos length) align) rest text tail =
    prefixed _ _ _ _ (gaps (keyword (codes "DROPPED")) refl)
    (dropped_joins (codes "DROPPED ") (decimal length) (codes " ") (align_word align) _ text (tail (plain (align_word align)) refl))
column_of_is p g gaps n missing (Dropped (negsuc length) align) rest text tail =
    prefixed _ _ _ _ (gaps (keyword (codes "DROPPED")) refl)
    (dropped_joins (codes "DROPPED ") (codes "VAR") (codes " ") (align_word align) _ text (tail (plain (align_word align)) refl))

column_is : (enums : List EnumType) → IsWritten (λ column. column_pieces (column_text enums column)) (written_column enums)
column_is enums p g gaps column rest text tail = column_of_is p g gaps column.name column.missing _ rest text tail

maps_of_maps : (enums : List EnumType) (columns : List Column) → map column_pieces (map (column_text enums) columns) ≡ map (λ column. column_pieces (column_text enums column)) columns
maps_of_maps enums [] = refl
maps_of_maps enums (column ∷ columns) = ap (λ l. column_pieces (column_text enums column) ∷ l) (maps_of_maps enums columns)

columns_are : (enums : List EnumType) (columns : List Column) → behind open_mark (items (map column_pieces (map (column_text enums) columns)) ++ closing) ≡ list_text (written_column enums) columns
columns_are enums columns =
    ap (λ (l : List (List Piece)). behind open_mark (items l ++ closing)) (maps_of_maps enums columns)
    ∙ listed_are (λ column. column_pieces (column_text enums column)) (written_column enums) (column_is enums) columns

-- ---- keys

key_is : IsWritten key_pieces decimal
key_is p g gaps key rest text tail = prefixed _ _ _ _ (gaps (number key) refl) (ap (λ (l : List ℕ). decimal key ++ l) (tail (number key) refl))

-- ---- whole lines

table_joins : (c s d n w o v t b x l : List ℕ) → x ≡ l → c ++ (s ++ (d ++ (n ++ (w ++ (o ++ (v ++ (t ++ (b ++ x)))))))) ≡ (c ++ ((s ++ (d ++ n)) ++ ((w ++ o) ++ (v ++ (t ++ b))))) ++ l
table_joins c s d n w o v t b x l e = ap (λ (r : List ℕ). c ++ (s ++ (d ++ (n ++ (w ++ (o ++ (v ++ (t ++ (b ++ r))))))))) e ∙ simp append_assoc

pub table_line : (roles : List Role) (tablespaces : List Tablespace) (enums : List EnumType) (table : Table) → line_of (create_table roles tablespaces enums table) ≡ table_head roles tablespaces table ++ list_text (written_column enums) table.columns
table_line roles tablespaces enums table =
    table_joins (codes "CREATE TABLE ") (name_text table.schema) (codes ".") (name_text table.name) (codes " OWNER ") (name_text (role_name roles table.owner)) (codes " TABLESPACE ") (name_text (tablespace_name tablespaces table.tablespace)) (codes " (")
    _ _ (columns_are enums table.columns)

index_joins : (c i w s d n v t b x l : List ℕ) → x ≡ l → c ++ (i ++ (w ++ (s ++ (d ++ (n ++ (v ++ (t ++ (b ++ x)))))))) ≡ (c ++ (i ++ (w ++ ((s ++ (d ++ n)) ++ (v ++ (t ++ b)))))) ++ l
index_joins c i w s d n v t b x l e = ap (λ (r : List ℕ). c ++ (i ++ (w ++ (s ++ (d ++ (n ++ (v ++ (t ++ (b ++ r))))))))) e ∙ simp append_assoc

pub index_line : (tablespaces : List Tablespace) (tables : List Table) (index : Index) → line_of (create_index tablespaces (table_place tables index.table) index) ≡ index_head tablespaces tables index ++ list_text decimal index.keys
index_line tablespaces tables index =
    index_joins (codes "CREATE INDEX ") (name_text index.name) (codes " ON ") (name_text (table_place tables index.table).schema) (codes ".") (name_text (table_place tables index.table).name) (codes " TABLESPACE ") (name_text (tablespace_name tablespaces index.tablespace)) (codes " (")
    _ _ (listed_are key_pieces decimal key_is index.keys)
