-- What each statement makes of a catalog and a session, or why it is refused.
use Rattle.std.specs.Prelude.{◌≡◌, ℕ, Bool, true, List, [], ◌∷◌, Option, Some, None, option_map, Result, Ok, Err, if◌then◌else◌, bytes_eq}
use Rattle.std.specs.List.{find}
use Rattle.fs_model.specs.Names.{Path}
use Rattle.catalog.specs.declared.types.ColumnKind.{ColumnKind}
use Rattle.catalog.specs.declared.types.ColumnKind.TheVariants as columns
use Rattle.catalog.specs.declared.enums.EnumType.{EnumType}
use Rattle.catalog.specs.declared.relations.Toast.{Toast}
use Rattle.catalog.specs.declared.relations.Column.{Column}
use Rattle.catalog.specs.declared.error.CatalogError.{CatalogError}
use Rattle.catalog.specs.declared.error.CatalogError.TheVariants.{NoSuch}
use Rattle.catalog.specs.Cluster.{DatabaseObjects, Cluster, fresh_database}
use Rattle.catalog.specs.Spaces.{database_has}
use Rattle.catalog.specs.Lookups.{role_is, tablespace_is, database_is, enum_is, table_is}
use Rattle.catalog.specs.Changes.{with_role, with_tablespace, with_database, with_connections, with_schema, with_enum, with_label, with_table, with_index, with_sequence}
use Rattle.dump_grammar.specs.declared.error.TextCause.{TextCause}
use Rattle.dump_grammar.specs.declared.error.TextCause.TheVariants as causes
use Rattle.dump_grammar.specs.declared.statement.NextKind.{NextKind}
use Rattle.dump_grammar.specs.declared.statement.NextKind.TheVariants as kinds
use Rattle.dump_grammar.specs.declared.statement.Statement.{Statement}
use Rattle.dump_grammar.specs.declared.statement.Statement.TheVariants.{Bootstrap, SetNext, CreateRole, CreateTablespace, CreateDatabase, AlterDatabase, Connect, CreateSchema, CreateEnum, AddLabel, CreateTable, CreateIndex, CreateSequence}
use Rattle.dump_grammar.specs.declared.columns.NamedKind.{NamedKind}
use Rattle.dump_grammar.specs.declared.columns.NamedKind.TheVariants as named
use Rattle.dump_grammar.specs.declared.columns.ColumnText.{ColumnText}
use Rattle.dump_rules.specs.declared.numbers.Numbers.{Numbers}
use Rattle.dump_rules.specs.declared.numbers.Session.{Session}

-- ---- states

-- a catalog, and what the statements so far have left besides
pub record State : Type 0 where
  pub catalog : Cluster
  pub session : Session

abbrev pub no_numbers : Numbers
no_numbers =
    record {
      role = None;
      tablespace = None;
      database = None;
      type_oid = None;
      label = None;
      table = None;
      table_file = None;
      toast = None;
      toast_file = None;
      toast_index = None;
      toast_index_file = None;
      index = None;
      index_file = None;
      sequence = None;
      sequence_file = None;
    }

-- no number is set, and no database is connected
abbrev pub new_session : Session
new_session = record { numbers = no_numbers; connected = None }

abbrev pub opened : Cluster → State
opened c = record { catalog = c; session = new_session }

abbrev pub with_number : NextKind → Option ℕ → Numbers → Numbers
with_number kinds.Role n numbers = record numbers { role = n }
with_number kinds.Tablespace n numbers = record numbers { tablespace = n }
with_number kinds.Database n numbers = record numbers { database = n }
with_number kinds.TypeOid n numbers = record numbers { type_oid = n }
with_number kinds.Label n numbers = record numbers { label = n }
with_number kinds.Table n numbers = record numbers { table = n }
with_number kinds.TableFile n numbers = record numbers { table_file = n }
with_number kinds.Toast n numbers = record numbers { toast = n }
with_number kinds.ToastFile n numbers = record numbers { toast_file = n }
with_number kinds.ToastIndex n numbers = record numbers { toast_index = n }
with_number kinds.ToastIndexFile n numbers = record numbers { toast_index_file = n }
with_number kinds.Index n numbers = record numbers { index = n }
with_number kinds.IndexFile n numbers = record numbers { index_file = n }
with_number kinds.Sequence n numbers = record numbers { sequence = n }
with_number kinds.SequenceFile n numbers = record numbers { sequence_file = n }

abbrev pub with_numbers : Session → Numbers → Session
with_numbers session numbers = record session { numbers = numbers }

-- the session once a number of that kind was taken
abbrev pub without : NextKind → Session → Session
without kind session = with_numbers session (with_number kind None session.numbers)

-- ---- what is there or isn't

-- with a number that is set
abbrev pub numbered : {A : Type 0} → Option A → (A → Result State TextCause) → Result State TextCause
numbered None make = Err causes.MissingOid
numbered (Some n) make = make n

-- with two numbers that are set
abbrev pub numbered_twice : Option ℕ → Option ℕ → (ℕ → ℕ → Result State TextCause) → Result State TextCause
numbered_twice None n make = Err causes.MissingOid
numbered_twice (Some m) None make = Err causes.MissingOid
numbered_twice (Some m) (Some n) make = make m n

-- with what the catalog has
abbrev pub found : {A B : Type 0} → Option A → (A → Result B CatalogError) → Result B CatalogError
found None make = Err NoSuch
found (Some x) make = make x

-- what becomes of a statement that the catalog took or refused
abbrev pub taken : Session → Result Cluster CatalogError → Result State TextCause
taken session (Ok c) = Ok (record { catalog = c; session = session })
taken session (Err e) = Err (causes.Catalog e)

abbrev pub role_oid : Cluster → List ℕ → Option ℕ
role_oid c name = option_map (λ role. role.oid) (find (role_is name) c.roles)

abbrev pub tablespace_oid : Cluster → List ℕ → Option ℕ
tablespace_oid c name = option_map (λ tablespace. tablespace.oid) (find (tablespace_is name) c.tablespaces)

abbrev pub database_oid : Cluster → List ℕ → Option ℕ
database_oid c name = option_map (λ (d : DatabaseObjects). d.oid) (find (database_is name) c.databases)

abbrev pub database_of : Option ℕ → Cluster → Option DatabaseObjects
database_of None c = None
database_of (Some oid) c = find (database_has oid) c.databases

-- the database of the last CONNECT
abbrev pub connected_database : State → Option DatabaseObjects
connected_database s = database_of s.session.connected s.catalog

abbrev pub enum_oid : DatabaseObjects → List ℕ → List ℕ → Option ℕ
enum_oid d schema name = option_map (λ (kind : EnumType). kind.oid) (find (enum_is schema name) d.enums)

abbrev pub table_oid : DatabaseObjects → List ℕ → List ℕ → Option ℕ
table_oid d schema name = option_map (λ table. table.oid) (find (table_is schema name) d.tables)

-- ---- columns

abbrev pub kind_of : DatabaseObjects → NamedKind → Option ColumnKind
kind_of d (named.Base base) = Some (columns.Base base)
kind_of d (named.Enum schema name) = option_map columns.Enum (enum_oid d schema name)
kind_of d (named.Dropped length align) = Some (columns.Dropped length align)

abbrev pub column_as : ColumnText → ColumnKind → Column
column_as c kind = record { name = c.name; kind = kind; missing = c.missing }

abbrev pub column_of : DatabaseObjects → ColumnText → Option Column
column_of d c = option_map (column_as c) (kind_of d c.kind)

abbrev pub joined : Option Column → Option (List Column) → Option (List Column)
joined None cs = None
joined (Some c) None = None
joined (Some c) (Some cs) = Some (c ∷ cs)

-- the columns, where the enum of each is there
abbrev pub columns_of : DatabaseObjects → List ColumnText → Option (List Column)
columns_of d [] = Some []
columns_of d (c ∷ cs) = joined (column_of d c) (columns_of d cs)

-- ---- the numbers of a table

-- the four numbers of a toast table, where the first is set
abbrev pub toast_of : Option ℕ → Option ℕ → Option ℕ → Option ℕ → Option (Option Toast)
toast_of None file index_oid index_file = Some None
toast_of (Some oid) (Some file) (Some index_oid) (Some index_file) = Some (Some (record { oid = oid; file = file; index_oid = index_oid; index_file = index_file }))
toast_of (Some oid) _ _ _ = None

pub record TableNumbers : Type 0 where
  pub row_type : ℕ
  pub oid : ℕ
  pub file : ℕ
  pub toast : Option Toast

abbrev pub table_numbers_of : Option ℕ → Option ℕ → Option ℕ → Option (Option Toast) → Option TableNumbers
table_numbers_of (Some row_type) (Some oid) (Some file) (Some toast) = Some (record { row_type = row_type; oid = oid; file = file; toast = toast })
table_numbers_of _ _ _ _ = None

abbrev pub table_numbers : Numbers → Option TableNumbers
table_numbers n = table_numbers_of n.type_oid n.table n.table_file (toast_of n.toast n.toast_file n.toast_index n.toast_index_file)

abbrev pub without_toast : Option Toast → Numbers → Numbers
without_toast None numbers = numbers
without_toast (Some toast) numbers = record numbers { toast = None; toast_file = None; toast_index = None; toast_index_file = None }

abbrev pub without_table : Option Toast → Session → Session
without_table toast session = with_numbers session (without_toast toast (record session.numbers { type_oid = None; table = None; table_file = None }))

-- ---- each form

abbrev pub bootstrap : State → List ℕ → Result State TextCause
bootstrap s name = if bytes_eq s.catalog.bootstrap name then Ok s else Err (causes.Catalog NoSuch)

abbrev pub set_next : State → NextKind → ℕ → Result State TextCause
set_next s kind n = Ok (record s { session = with_numbers s.session (with_number kind (Some n) s.session.numbers) })

abbrev pub create_role : State → List ℕ → Result State TextCause
create_role s name =
    numbered s.session.numbers.role (λ oid. taken (without kinds.Role s.session) (with_role s.catalog (record { oid = oid; name = name })))

abbrev pub create_tablespace : State → List ℕ → List ℕ → Path → Result State TextCause
create_tablespace s name owner location =
    numbered s.session.numbers.tablespace (λ oid. taken (without kinds.Tablespace s.session)
    (found (role_oid s.catalog owner) (λ o. with_tablespace s.catalog (record { oid = oid; name = name; owner = o; location = location }))))

abbrev pub create_database : State → List ℕ → List ℕ → Result State TextCause
create_database s name owner =
    numbered s.session.numbers.database (λ oid. taken (without kinds.Database s.session)
    (found (role_oid s.catalog owner) (λ o. with_database s.catalog (fresh_database oid name o true))))

abbrev pub alter_database : State → List ℕ → Bool → Result State TextCause
alter_database s name on = taken s.session (found (database_oid s.catalog name) (λ d. with_connections s.catalog d on))

abbrev pub connected : State → Option ℕ → Result State TextCause
connected s None = Err (causes.Catalog NoSuch)
connected s (Some oid) = Ok (record s { session = record (s.session) { connected = Some oid } })

abbrev pub connect : State → List ℕ → Result State TextCause
connect s name = connected s (database_oid s.catalog name)

abbrev pub create_schema : State → List ℕ → List ℕ → Result State TextCause
create_schema s name owner =
    taken s.session (found (connected_database s) (λ d. found (role_oid s.catalog owner) (λ o.
    with_schema s.catalog d.oid (record { name = name; owner = o }))))

abbrev pub create_enum : State → List ℕ → List ℕ → List ℕ → Result State TextCause
create_enum s schema name owner =
    numbered s.session.numbers.type_oid (λ oid. taken (without kinds.TypeOid s.session)
    (found (connected_database s) (λ d. found (role_oid s.catalog owner) (λ o.
    with_enum s.catalog d.oid (record { oid = oid; schema = schema; name = name; owner = o; labels = [] })))))

abbrev pub add_label : State → List ℕ → List ℕ → List ℕ → Result State TextCause
add_label s schema name text =
    numbered s.session.numbers.label (λ oid. taken (without kinds.Label s.session)
    (found (connected_database s) (λ d. found (enum_oid d schema name) (λ kind.
    with_label s.catalog d.oid kind (record { oid = oid; text = text })))))

abbrev pub create_table : State → List ℕ → List ℕ → List ℕ → List ℕ → List ColumnText → Result State TextCause
create_table s schema name owner tablespace cs =
    numbered (table_numbers s.session.numbers) (λ n. taken (without_table n.toast s.session)
    (found (connected_database s) (λ d. found (role_oid s.catalog owner) (λ o. found (tablespace_oid s.catalog tablespace) (λ t. found (columns_of d cs) (λ columns.
    with_table s.catalog d.oid (record { oid = n.oid; row_type = n.row_type; schema = schema; name = name; owner = o; tablespace = t; file = n.file; toast = n.toast; columns = columns })))))))

abbrev pub create_index : State → List ℕ → List ℕ → List ℕ → List ℕ → List ℕ → Result State TextCause
create_index s name schema table tablespace keys =
    numbered_twice s.session.numbers.index s.session.numbers.index_file (λ oid file. taken (without kinds.IndexFile (without kinds.Index s.session))
    (found (connected_database s) (λ d. found (table_oid d schema table) (λ over. found (tablespace_oid s.catalog tablespace) (λ t.
    with_index s.catalog d.oid (record { oid = oid; table = over; name = name; tablespace = t; file = file; keys = keys }))))))

abbrev pub create_sequence : State → List ℕ → List ℕ → List ℕ → Result State TextCause
create_sequence s schema name owner =
    numbered_twice s.session.numbers.sequence s.session.numbers.sequence_file (λ oid file. taken (without kinds.SequenceFile (without kinds.Sequence s.session))
    (found (connected_database s) (λ d. found (role_oid s.catalog owner) (λ o.
    with_sequence s.catalog d.oid (record { oid = oid; schema = schema; name = name; owner = o; file = file })))))

-- ---- statements

-- what a statement makes of a state, or why it is refused
unfoldable pub step : State → Statement → Result State TextCause
step s (Bootstrap name) = bootstrap s name
step s (SetNext kind n) = set_next s kind n
step s (CreateRole name) = create_role s name
step s (CreateTablespace name owner location) = create_tablespace s name owner location
step s (CreateDatabase name owner) = create_database s name owner
step s (AlterDatabase name on) = alter_database s name on
step s (Connect name) = connect s name
step s (CreateSchema name owner) = create_schema s name owner
step s (CreateEnum schema name owner) = create_enum s schema name owner
step s (AddLabel schema name text) = add_label s schema name text
step s (CreateTable schema name owner tablespace cs) = create_table s schema name owner tablespace cs
step s (CreateIndex name schema table tablespace keys) = create_index s name schema table tablespace keys
step s (CreateSequence schema name owner) = create_sequence s schema name owner

-- the statements, in turn, lead from one state to another
abbrev pub Replays : State → List Statement → State → Type 0
Replays s [] t = s ≡ t
Replays s (x ∷ xs) t = (m : State) × (step s x ≡ Ok m) × Replays m xs t
