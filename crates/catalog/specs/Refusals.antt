-- Why an object is refused: the first cause in one order.
use Rattle.std.specs.Prelude.{ℕ, Bool, false, not, ◌||◌, nat_lt, nat_eq, bytes_eq, List, length, Option, Some, None, if◌then◌else◌}
use Rattle.std.specs.List.{list_any, find}
use Rattle.catalog.specs.declared.error.CatalogError.{CatalogError}
use Rattle.catalog.specs.declared.error.CatalogError.TheVariants.{OidTaken, NameTaken, FileTaken, NoSuch, TooMany}
use Rattle.catalog.specs.declared.owners.Role.{Role}
use Rattle.catalog.specs.declared.owners.Tablespace.{Tablespace}
use Rattle.catalog.specs.declared.owners.Schema.{Schema}
use Rattle.catalog.specs.declared.enums.Label.{Label}
use Rattle.catalog.specs.declared.enums.EnumType.{EnumType}
use Rattle.catalog.specs.declared.relations.Table.{Table}
use Rattle.catalog.specs.declared.relations.Index.{Index}
use Rattle.catalog.specs.declared.relations.Sequence.{Sequence}
use Rattle.catalog.specs.Lists.{are_distinct, clash}
use Rattle.catalog.specs.Cluster.{DatabaseObjects}
use Rattle.catalog.specs.Spaces.{enum_has, role_oids, role_names, tablespace_oids, tablespace_names, database_oids, database_names, table_oids, relation_oids, type_oids, enum_label_oids, label_oids, schema_names, SchemaName, same_name, enum_name, table_name, sequence_name, index_name, relation_names, type_names, FilePlace, same_place, place_in, table_files, index_place, sequence_place, file_places}
use Rattle.catalog.specs.Forms.{has_role, enum_stands, table_stands, index_stands, sequence_stands, is_long, same_text, same_column}

-- the first cause that holds
unfoldable pub first_cause : (no_such too_many oid_taken name_taken file_taken : Bool) → Option CatalogError
first_cause no_such too_many oid_taken name_taken file_taken =
    if no_such then Some NoSuch
    else (if too_many then Some TooMany
    else (if oid_taken then Some OidTaken
    else (if name_taken then Some NameTaken
    else (if file_taken then Some FileTaken else None))))

-- OIDs and file numbers below it belong to the system
abbrev pub first_user_number : ℕ
first_user_number = 16384

abbrev pub is_system_number : ℕ → Bool
is_system_number n = nat_lt n first_user_number

-- an OID that can't be given: it is the system's, or in use
abbrev pub oid_taken : ℕ → List ℕ → Bool
oid_taken oid used = is_system_number oid || list_any (nat_eq oid) used

-- the same of several OIDs, which are to differ too
abbrev pub oids_taken : List ℕ → List ℕ → Bool
oids_taken oids used = list_any is_system_number oids || clash nat_eq oids used

abbrev pub name_taken : SchemaName → List SchemaName → Bool
name_taken name used = list_any (same_name name) used

-- a file number that can't be given in a tablespace
abbrev pub file_taken : FilePlace → List FilePlace → Bool
file_taken place used = is_system_number place.number || list_any (same_place place) used

-- the same of several file numbers, which are to differ too
abbrev pub files_taken : ℕ → List ℕ → List FilePlace → Bool
files_taken tablespace numbers used =
    list_any is_system_number numbers || (not (are_distinct nat_eq numbers) || list_any (λ n. list_any (same_place (place_in tablespace n)) used) numbers)

abbrev pub role_refusal : List Role → Role → Option CatalogError
role_refusal roles role =
    first_cause false false
    (oid_taken role.oid (role_oids roles))
    (list_any (bytes_eq role.name) (role_names roles))
    false

abbrev pub tablespace_refusal : List Role → List Tablespace → Tablespace → Option CatalogError
tablespace_refusal roles tablespaces tablespace =
    first_cause (not (has_role roles tablespace.owner)) false
    (oid_taken tablespace.oid (tablespace_oids tablespaces))
    (list_any (bytes_eq tablespace.name) (tablespace_names tablespaces))
    false

abbrev pub database_refusal : List Role → List DatabaseObjects → DatabaseObjects → Option CatalogError
database_refusal roles databases database =
    first_cause (not (has_role roles database.owner)) false
    (oid_taken database.oid (database_oids databases))
    (list_any (bytes_eq database.name) (database_names databases))
    false

abbrev pub schema_refusal : List Role → DatabaseObjects → Schema → Option CatalogError
schema_refusal roles d schema =
    first_cause (not (has_role roles schema.owner)) false false
    (list_any (bytes_eq schema.name) (schema_names d))
    false

-- an enum with its labels
abbrev pub enum_refusal : List Role → DatabaseObjects → EnumType → Option CatalogError
enum_refusal roles d kind =
    first_cause (not (enum_stands roles d kind))
    (list_any is_long kind.labels)
    (oid_taken kind.oid (type_oids d) || oids_taken (enum_label_oids kind) (label_oids d))
    (name_taken (enum_name kind) (type_names d) || not (are_distinct same_text kind.labels))
    false

-- a label behind those of an enum
abbrev pub label_refusal_in : DatabaseObjects → Label → Option EnumType → Option CatalogError
label_refusal_in d label None = Some NoSuch
label_refusal_in d label (Some kind) =
    first_cause false (is_long label)
    (oid_taken label.oid (label_oids d))
    (list_any (same_text label) kind.labels)
    false

abbrev pub label_refusal : DatabaseObjects → ℕ → Label → Option CatalogError
label_refusal d kind label = label_refusal_in d label (find (enum_has kind) d.enums)

abbrev pub table_refusal : List Role → List Tablespace → DatabaseObjects → Table → Option CatalogError
table_refusal roles tablespaces d table =
    first_cause (not (table_stands roles tablespaces d table))
    (nat_lt 1600 (length table.columns))
    (oids_taken (table_oids table) (relation_oids d) || oid_taken table.row_type (type_oids d))
    (name_taken (table_name table) (relation_names d)
    || (name_taken (table_name table) (type_names d) || not (are_distinct same_column table.columns)))
    (files_taken table.tablespace (table_files table) (file_places d))

abbrev pub index_refusal : List Tablespace → DatabaseObjects → Index → Option CatalogError
index_refusal tablespaces d index =
    first_cause (not (index_stands tablespaces d.tables index))
    (nat_lt 32 (length index.keys))
    (oid_taken index.oid (relation_oids d))
    (name_taken (index_name d.tables index) (relation_names d))
    (file_taken (index_place index) (file_places d))

abbrev pub sequence_refusal : List Role → DatabaseObjects → Sequence → Option CatalogError
sequence_refusal roles d sequence =
    first_cause (not (sequence_stands roles d sequence)) false
    (oid_taken sequence.oid (relation_oids d))
    (name_taken (sequence_name sequence) (relation_names d))
    (file_taken (sequence_place sequence) (file_places d))
