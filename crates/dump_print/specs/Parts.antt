-- Parts of the canonical lines: what the statements and the columns of a table are put together from.
use Rattle.std.specs.Prelude.{ℕ, Bool, true, ℤ, pos, negsuc, List, [], ◌∷◌, ◌++◌, Option, Some, None, codes}
use Rattle.std.specs.List.{flat_map}
use Rattle.std.specs.Fmt.{decimal}
use Rattle.catalog.specs.declared.owners.Role.{Role}
use Rattle.catalog.specs.declared.owners.Tablespace.{Tablespace}
use Rattle.catalog.specs.declared.enums.EnumType.{EnumType}
use Rattle.catalog.specs.declared.relations.Column.{Column}
use Rattle.catalog.specs.declared.relations.Table.{Table}
use Rattle.catalog.specs.declared.relations.Index.{Index}
use Rattle.catalog.specs.Cluster.{DatabaseObjects}
use Rattle.dump_lex.specs.Enclosed.{enclosed}
use Rattle.dump_lex.specs.Grammar.{hex_text}
use Rattle.dump_lex.specs.Written.{name_text, hex_of}
use Rattle.dump_grammar.specs.declared.statement.NextKind.TheVariants as kinds
use Rattle.dump_grammar.specs.declared.statement.Statement.{Statement}
use Rattle.dump_grammar.specs.declared.statement.Statement.TheVariants.{SetNext, CreateRole, CreateTablespace, CreateDatabase, CreateEnum}
use Rattle.dump_grammar.specs.declared.columns.NamedKind.{NamedKind}
use Rattle.dump_grammar.specs.declared.columns.NamedKind.TheVariants.{Base, Enum, Dropped}
use Rattle.dump_grammar.specs.Pieces.{type_word, align_word, flag_word}
use Rattle.dump_grammar.specs.Spelling.{line_of}
use Rattle.dump_grammar.specs.Canonical.{Place, role_name, tablespace_name, table_place, kind_text, flag_statements}

-- ---- names

abbrev pub owner_text : List ℕ → List ℕ
owner_text owner = codes " OWNER " ++ name_text owner

-- up to the list that stands behind it
abbrev pub tablespace_text : List ℕ → List ℕ
tablespace_text tablespace = codes " TABLESPACE " ++ (name_text tablespace ++ codes " (")

-- a name in a schema
abbrev pub place_text : Place → List ℕ
place_text place = name_text place.schema ++ (codes "." ++ name_text place.name)

abbrev pub place_of : List ℕ → List ℕ → Place
place_of schema name = record { schema = schema; name = name }

-- ---- lists in parentheses, by what is written for an entry

-- the entries behind the first, and the end of the line
abbrev pub more_text : {A : Type 0} → (A → List ℕ) → List A → List ℕ
more_text write [] = codes ");\n"
more_text write (x ∷ xs) = codes ", " ++ (write x ++ more_text write xs)

-- the entries, and the end of the line
abbrev pub list_text : {A : Type 0} → (A → List ℕ) → List A → List ℕ
list_text write [] = codes ");\n"
list_text write (x ∷ xs) = write x ++ more_text write xs

-- ---- columns

abbrev pub missing_text : Option (List ℕ) → List ℕ
missing_text None = []
missing_text (Some bytes) = codes " MISSING " ++ hex_text (hex_of bytes)

abbrev pub length_text : ℤ → List ℕ
length_text (pos n) = decimal n
length_text (negsuc n) = codes "VAR"

abbrev pub column_text_of : List ℕ → Option (List ℕ) → NamedKind → List ℕ
column_text_of n missing (Base base) = name_text n ++ (codes " " ++ (type_word base ++ missing_text missing))
column_text_of n missing (Enum schema kind) = name_text n ++ (codes " ENUM " ++ (place_text (place_of schema kind) ++ missing_text missing))
column_text_of n missing (Dropped length align) = codes "DROPPED " ++ (length_text length ++ (codes " " ++ align_word align))

abbrev pub written_column : List EnumType → Column → List ℕ
written_column enums column = column_text_of column.name column.missing (kind_text enums column.kind)

-- ---- tables and indexes up to their lists

abbrev pub table_spaces : List Role → List Tablespace → Table → List ℕ
table_spaces roles tablespaces table = owner_text (role_name roles table.owner) ++ tablespace_text (tablespace_name tablespaces table.tablespace)

abbrev pub table_head : List Role → List Tablespace → Table → List ℕ
table_head roles tablespaces table = codes "CREATE TABLE " ++ (place_text (place_of table.schema table.name) ++ table_spaces roles tablespaces table)

abbrev pub index_spaces : List Tablespace → List Table → Index → List ℕ
index_spaces tablespaces tables index =
    codes " ON " ++ (place_text (table_place tables index.table) ++ tablespace_text (tablespace_name tablespaces index.tablespace))

abbrev pub index_head : List Tablespace → List Table → Index → List ℕ
index_head tablespaces tables index = codes "CREATE INDEX " ++ (name_text index.name ++ index_spaces tablespaces tables index)

-- ---- ends of lines

abbrev pub flag_end : Bool → List ℕ
flag_end on = codes " CONNECTIONS " ++ (flag_word on ++ codes ";\n")

abbrev pub owner_end : List ℕ → List ℕ
owner_end owner = owner_text owner ++ codes ";\n"

abbrev pub location_end : List ℕ → List ℕ
location_end location = codes " LOCATION " ++ (enclosed 39 location ++ codes ";\n")

-- ---- lines; that of a statement is opened only where it is written

unfoldable pub line_text : Statement → List ℕ
line_text s = line_of s

abbrev pub lines_text : List Statement → List ℕ
lines_text statements = flat_map line_text statements

-- ---- statements of one object, in parts

abbrev pub new_role : Role → List Statement
new_role role = SetNext kinds.Role role.oid ∷ CreateRole role.name ∷ []

abbrev pub new_tablespace : List Role → Tablespace → List Statement
new_tablespace roles t = SetNext kinds.Tablespace t.oid ∷ CreateTablespace t.name (role_name roles t.owner) t.location ∷ []

abbrev pub new_database : List Role → DatabaseObjects → List Statement
new_database roles d = SetNext kinds.Database d.oid ∷ CreateDatabase d.name (role_name roles d.owner) ∷ flag_statements true d

abbrev pub enum_line : List Role → EnumType → List Statement
enum_line roles kind = SetNext kinds.TypeOid kind.oid ∷ CreateEnum kind.schema kind.name (role_name roles kind.owner) ∷ []

abbrev pub table_numbers : Table → List Statement
table_numbers table = SetNext kinds.TypeOid table.row_type ∷ SetNext kinds.Table table.oid ∷ SetNext kinds.TableFile table.file ∷ []
