-- The statement that words spell.
use Rattle.std.specs.Prelude.{ℕ, zero, suc, Bool, List, [], ◌∷◌, ◌++◌, length, Option, Some, None, codes}
use Rattle.dump_grammar.specs.declared.statement.Statement.{Statement}
use Rattle.dump_grammar.specs.declared.statement.Statement.TheVariants.{Bootstrap, SetNext, CreateRole, CreateTablespace, CreateDatabase, AlterDatabase, Connect, CreateSchema, CreateEnum, AddLabel, CreateTable, CreateIndex, CreateSequence}
use Rattle.dump_grammar.specs.declared.columns.NamedKind.{NamedKind}
use Rattle.dump_grammar.specs.declared.columns.NamedKind.TheVariants.{Base, Enum, Dropped}
use Rattle.dump_grammar.specs.declared.columns.ColumnText.{ColumnText}
use Rattle.dump_grammar.specs.Spelling.{Word}
use Rattle.dump_read.specs.declared.parts.Qualified.{Qualified}
use Rattle.dump_read.specs.declared.heads.Verb.{Verb}
use Rattle.dump_read.specs.declared.heads.Verb.TheVariants as verbs
use Rattle.dump_read.specs.declared.heads.Object.{Object}
use Rattle.dump_read.specs.declared.heads.Object.TheVariants as objects
use Rattle.dump_read.specs.Takes as takes
use Rattle.dump_read.specs.Takes.{◌>>=◌, name_in, number_in, string_in, location_in, hex_in, kind_in, type_in, align_in, flag_in, length_in, column_number_in, is_key, one, key_at, mark_at}
use Rattle.std.specs.List.{find}

-- the word is the mark `;`
abbrev pub is_end : Word → Bool
is_end w = takes.is_mark 59 w

-- ---- parts of statements

abbrev pub name_at : List Word → Option (List ℕ × List Word)
name_at ws = one name_in ws

-- a name in a schema
unfoldable pub qualified_at : List Word → Option (Qualified × List Word)
qualified_at ws = do
  schema ← name_at ws
  rest ← mark_at 46 schema.1
  name ← name_at rest
  Some (record { schema = schema.0; name = name.0 }, name.1)

unfoldable pub keyed_name_at : List ℕ → List Word → Option (List ℕ × List Word)
keyed_name_at text ws = key_at text ws >>= name_at

abbrev pub owner_at : List Word → Option (List ℕ × List Word)
owner_at ws = keyed_name_at (codes "OWNER") ws

abbrev pub tablespace_at : List Word → Option (List ℕ × List Word)
tablespace_at ws = keyed_name_at (codes "TABLESPACE") ws

-- ---- columns

abbrev pub missing_by : List Word → Option (List Word) → Option (Option (List ℕ) × List Word)
missing_by ws None = Some (None, ws)
missing_by ws (Some rest) = one hex_in rest >>= λ x. Some (Some x.0, x.1)

-- the missing value, if there is one
unfoldable pub missing_at : List Word → Option (Option (List ℕ) × List Word)
missing_at ws = missing_by ws (key_at (codes "MISSING") ws)

unfoldable pub base_at : List Word → Option (NamedKind × List Word)
base_at ws = one type_in ws >>= λ x. Some (Base x.0, x.1)

unfoldable pub enum_at : List Word → Option (NamedKind × List Word)
enum_at ws = qualified_at ws >>= λ x. Some (Enum (x.0).schema (x.0).name, x.1)

abbrev pub kind_by : List Word → Option (List Word) → Option (NamedKind × List Word)
kind_by ws None = base_at ws
kind_by ws (Some rest) = enum_at rest

unfoldable pub column_kind_at : List Word → Option (NamedKind × List Word)
column_kind_at ws = kind_by ws (key_at (codes "ENUM") ws)

unfoldable pub live_at : List Word → Option (ColumnText × List Word)
live_at ws = do
  name ← name_at ws
  kind ← column_kind_at name.1
  missing ← missing_at kind.1
  Some (record { name = name.0; kind = kind.0; missing = missing.0 }, missing.1)

unfoldable pub dropped_at : List Word → Option (ColumnText × List Word)
dropped_at ws = do
  length ← one length_in ws
  align ← one align_in length.1
  Some (record { name = []; kind = Dropped length.0 align.0; missing = None }, align.1)

abbrev pub column_by : List Word → Option (List Word) → Option (ColumnText × List Word)
column_by ws None = live_at ws
column_by ws (Some rest) = dropped_at rest

unfoldable pub column_at : List Word → Option (ColumnText × List Word)
column_at ws = column_by ws (key_at (codes "DROPPED") ws)

-- ---- lists in parentheses

-- what stands before a list goes on
abbrev pub with_items : {A : Type 0} → List A → Option (List A × List Word) → Option (List A × List Word)
with_items front found = found >>= λ x. Some (front ++ x.0, x.1)

abbrev pub more_by : {A : Type 0} → (List Word → Option (A × List Word)) → (List Word → Option (List A × List Word)) → List Word → Option (List Word) → Option (List A × List Word)
more_by item go ws None = Some ([], ws)
more_by item go ws (Some rest) = item rest >>= λ x. with_items (x.0 ∷ []) (go x.1)

-- items, each behind a comma; at most so many
unfoldable pub more_at : {A : Type 0} → (List Word → Option (A × List Word)) → ℕ → List Word → Option (List A × List Word)
more_at item zero ws = None
more_at item (suc n) ws = more_by item (more_at item n) ws (mark_at 44 ws)

-- one item or more, with a comma before each but the first
unfoldable pub items_at : {A : Type 0} → (List Word → Option (A × List Word)) → List Word → Option (List A × List Word)
items_at item ws = item ws >>= λ x. with_items (x.0 ∷ []) (more_at item (suc (length x.1)) x.1)

unfoldable pub closed_at : {A : Type 0} → (List Word → Option (A × List Word)) → List Word → Option (List A × List Word)
closed_at item ws = do
  items ← items_at item ws
  rest ← mark_at 41 items.1
  Some (items.0, rest)

abbrev pub columns_by : List Word → Option (List Word) → Option (List ColumnText × List Word)
columns_by ws None = closed_at column_at ws
columns_by ws (Some rest) = Some ([], rest)

-- behind `(`: none or more, and `)`
unfoldable pub columns_in_at : List Word → Option (List ColumnText × List Word)
columns_in_at ws = columns_by ws (mark_at 41 ws)

unfoldable pub columns_at : List Word → Option (List ColumnText × List Word)
columns_at ws = mark_at 40 ws >>= columns_in_at

-- one number or more in parentheses
unfoldable pub keys_at : List Word → Option (List ℕ × List Word)
keys_at ws = mark_at 40 ws >>= closed_at (one column_number_in)

-- ---- statements, without the `;`

-- the word that a statement begins with
abbrev pub verb_word : Verb → List ℕ
verb_word verbs.Bootstrap = codes "BOOTSTRAP"
verb_word verbs.Set = codes "SET"
verb_word verbs.Create = codes "CREATE"
verb_word verbs.Alter = codes "ALTER"
verb_word verbs.Connect = codes "CONNECT"
verb_word verbs.Add = codes "ADD"

abbrev pub verbs_all : List Verb
verbs_all = verbs.Bootstrap ∷ verbs.Set ∷ verbs.Create ∷ verbs.Alter ∷ verbs.Connect ∷ verbs.Add ∷ []

unfoldable pub verb_in : Word → Option Verb
verb_in w = find (λ verb. is_key (verb_word verb) w) verbs_all

-- the word behind CREATE
abbrev pub object_word : Object → List ℕ
object_word objects.Role = codes "ROLE"
object_word objects.Tablespace = codes "TABLESPACE"
object_word objects.Database = codes "DATABASE"
object_word objects.Schema = codes "SCHEMA"
object_word objects.EnumType = codes "ENUM"
object_word objects.Table = codes "TABLE"
object_word objects.Index = codes "INDEX"
object_word objects.Sequence = codes "SEQUENCE"

abbrev pub objects_all : List Object
objects_all = objects.Role ∷ objects.Tablespace ∷ objects.Database ∷ objects.Schema ∷ objects.EnumType ∷ objects.Table ∷ objects.Index ∷ objects.Sequence ∷ []

unfoldable pub object_in : Word → Option Object
object_in w = find (λ object. is_key (object_word object) w) objects_all

abbrev pub Read : Type 0
Read = Option (Statement × List Word)

unfoldable pub bootstrap_at : List Word → Read
bootstrap_at ws = name_at ws >>= λ x. Some (Bootstrap x.0, x.1)

unfoldable pub next_at : List Word → Read
next_at ws = do
  rest ← key_at (codes "NEXT") ws
  kind ← one kind_in rest
  number ← one number_in kind.1
  Some (SetNext kind.0 number.0, number.1)

unfoldable pub role_at : List Word → Read
role_at ws = name_at ws >>= λ x. Some (CreateRole x.0, x.1)

unfoldable pub tablespace_made_at : List Word → Read
tablespace_made_at ws = do
  name ← name_at ws
  owner ← owner_at name.1
  rest ← key_at (codes "LOCATION") owner.1
  location ← one location_in rest
  Some (CreateTablespace name.0 owner.0 location.0, location.1)

unfoldable pub database_at : List Word → Read
database_at ws = do
  name ← name_at ws
  owner ← owner_at name.1
  Some (CreateDatabase name.0 owner.0, owner.1)

unfoldable pub altered_at : List Word → Read
altered_at ws = do
  name ← keyed_name_at (codes "DATABASE") ws
  rest ← key_at (codes "CONNECTIONS") name.1
  on ← one flag_in rest
  Some (AlterDatabase name.0 on.0, on.1)

unfoldable pub connect_at : List Word → Read
connect_at ws = name_at ws >>= λ x. Some (Connect x.0, x.1)

unfoldable pub schema_at : List Word → Read
schema_at ws = do
  name ← name_at ws
  owner ← owner_at name.1
  Some (CreateSchema name.0 owner.0, owner.1)

unfoldable pub enum_made_at : List Word → Read
enum_made_at ws = do
  place ← qualified_at ws
  owner ← owner_at place.1
  Some (CreateEnum (place.0).schema (place.0).name owner.0, owner.1)

unfoldable pub label_at : List Word → Read
label_at ws = do
  rest ← key_at (codes "LABEL") ws
  place ← qualified_at rest
  text ← one string_in place.1
  Some (AddLabel (place.0).schema (place.0).name text.0, text.1)

unfoldable pub table_at : List Word → Read
table_at ws = do
  place ← qualified_at ws
  owner ← owner_at place.1
  tablespace ← tablespace_at owner.1
  columns ← columns_at tablespace.1
  Some (CreateTable (place.0).schema (place.0).name owner.0 tablespace.0 columns.0, columns.1)

unfoldable pub index_at : List Word → Read
index_at ws = do
  name ← name_at ws
  rest ← key_at (codes "ON") name.1
  place ← qualified_at rest
  tablespace ← tablespace_at place.1
  keys ← keys_at tablespace.1
  Some (CreateIndex name.0 (place.0).schema (place.0).name tablespace.0 keys.0, keys.1)

unfoldable pub sequence_at : List Word → Read
sequence_at ws = do
  place ← qualified_at ws
  owner ← owner_at place.1
  Some (CreateSequence (place.0).schema (place.0).name owner.0, owner.1)

-- behind CREATE and the word of an object
abbrev pub created_at : Object → List Word → Read
created_at objects.Role ws = role_at ws
created_at objects.Tablespace ws = tablespace_made_at ws
created_at objects.Database ws = database_at ws
created_at objects.Schema ws = schema_at ws
created_at objects.EnumType ws = enum_made_at ws
created_at objects.Table ws = table_at ws
created_at objects.Index ws = index_at ws
created_at objects.Sequence ws = sequence_at ws

unfoldable pub create_at : List Word → Read
create_at ws = one object_in ws >>= λ x. created_at x.0 x.1

-- behind the first word
abbrev pub behind_verb : Verb → List Word → Read
behind_verb verbs.Bootstrap ws = bootstrap_at ws
behind_verb verbs.Set ws = next_at ws
behind_verb verbs.Create ws = create_at ws
behind_verb verbs.Alter ws = altered_at ws
behind_verb verbs.Connect ws = connect_at ws
behind_verb verbs.Add ws = label_at ws

unfoldable pub words_at : List Word → Read
words_at ws = one verb_in ws >>= λ x. behind_verb x.0 x.1

-- ---- whole statements

abbrev pub at_end : Statement → List Word → Option Statement
at_end s [] = Some s
at_end s (w ∷ ws) = None

-- the statement that words, the `;` with them, spell
unfoldable pub form : List Word → Option Statement
form ws = do
  x ← words_at ws
  rest ← mark_at 59 x.1
  at_end x.0 rest
