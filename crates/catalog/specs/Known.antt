-- What the look-ups beside each list of a database lead to, and what may join the list.
use Rattle.std.specs.Prelude.{◌≡◌, ℕ, Bool, true, false, nat_eq, bytes_eq, List, Option}
use Rattle.std.specs.List.{list_any, list_all}
use Rattle.object_places.specs.declared.NamePlaces.{NamePlaces}
use Rattle.object_places.specs.declared.FilePlaces.{FilePlaces}
use Rattle.object_places.specs.declared.TextPlaces.{TextPlaces}
use Rattle.object_places.specs.Places.{number_place, name_place, file_place, text_place}
use Rattle.object_places.specs.Finds.{Finds}
use Rattle.catalog.specs.declared.relations.Table.{Table}
use Rattle.catalog.specs.declared.relations.Index.{Index}
use Rattle.catalog.specs.declared.relations.Sequence.{Sequence}
use Rattle.catalog.specs.declared.enums.EnumType.{EnumType}
use Rattle.catalog.specs.declared.enums.Label.{Label}
use Rattle.catalog.specs.declared.owners.Schema.{Schema}
use Rattle.catalog.specs.declared.sequence_places.SequencePlaces.{SequencePlaces}
use Rattle.catalog.specs.declared.index_places.IndexPlaces.{IndexPlaces}
use Rattle.catalog.specs.declared.enum_places.EnumPlaces.{EnumPlaces}
use Rattle.catalog.specs.declared.table_places.TablePlaces.{TablePlaces}
use Rattle.catalog.specs.Spaces.{SchemaName, FilePlace, same_name, same_place, table_oids, table_name, table_places, sequence_name, sequence_place, index_place, index_name, table_has, enum_name, enum_label_oids}

-- ---- where a key leads

abbrev pub name_at : NamePlaces → SchemaName → Option ℕ
name_at places key = name_place places key.schema key.name

abbrev pub file_at : FilePlaces → FilePlace → Option ℕ
file_at places key = file_place places key.tablespace key.number

-- ---- tables

abbrev pub table_of_oid : ℕ → Table → Bool
table_of_oid key t = list_any (nat_eq key) (table_oids t)

abbrev pub table_of_row_type : ℕ → Table → Bool
table_of_row_type key t = nat_eq key t.row_type

abbrev pub table_of_name : SchemaName → Table → Bool
table_of_name key t = same_name key (table_name t)

abbrev pub table_of_file : FilePlace → Table → Bool
table_of_file key t = list_any (same_place key) (table_places t)

pub record TablesKnown (tables : List Table) (places : TablePlaces) : Type 0 where
  pub by_oid : Finds (number_place places.oids) table_of_oid tables
  pub by_row_type : Finds (number_place places.row_types) table_of_row_type tables
  pub by_name : Finds (name_at places.names) table_of_name tables
  pub by_file : Finds (file_at places.files) table_of_file tables

-- a table shares no key with those that stand
pub record TableIsFree (tables : List Table) (t : Table) : Type 0 where
  pub oids : (key : ℕ) → table_of_oid key t ≡ true → list_any (table_of_oid key) tables ≡ false
  pub row_type : (key : ℕ) → table_of_row_type key t ≡ true → list_any (table_of_row_type key) tables ≡ false
  pub name : (key : SchemaName) → table_of_name key t ≡ true → list_any (table_of_name key) tables ≡ false
  pub files : (key : FilePlace) → table_of_file key t ≡ true → list_any (table_of_file key) tables ≡ false

-- ---- sequences

abbrev pub sequence_of_oid : ℕ → Sequence → Bool
sequence_of_oid key s = nat_eq key s.oid

abbrev pub sequence_of_name : SchemaName → Sequence → Bool
sequence_of_name key s = same_name key (sequence_name s)

abbrev pub sequence_of_file : FilePlace → Sequence → Bool
sequence_of_file key s = same_place key (sequence_place s)

pub record SequencesKnown (sequences : List Sequence) (places : SequencePlaces) : Type 0 where
  pub by_oid : Finds (number_place places.oids) sequence_of_oid sequences
  pub by_name : Finds (name_at places.names) sequence_of_name sequences
  pub by_file : Finds (file_at places.files) sequence_of_file sequences

pub record SequenceIsFree (sequences : List Sequence) (s : Sequence) : Type 0 where
  pub oid : (key : ℕ) → sequence_of_oid key s ≡ true → list_any (sequence_of_oid key) sequences ≡ false
  pub name : (key : SchemaName) → sequence_of_name key s ≡ true → list_any (sequence_of_name key) sequences ≡ false
  pub file : (key : FilePlace) → sequence_of_file key s ≡ true → list_any (sequence_of_file key) sequences ≡ false

-- ---- indexes

abbrev pub index_of_oid : ℕ → Index → Bool
index_of_oid key i = nat_eq key i.oid

abbrev pub index_of_file : FilePlace → Index → Bool
index_of_file key i = same_place key (index_place i)

pub record IndexesKnown (indexes : List Index) (places : IndexPlaces) : Type 0 where
  pub by_oid : Finds (number_place places.oids) index_of_oid indexes
  pub by_file : Finds (file_at places.files) index_of_file indexes

pub record IndexIsFree (indexes : List Index) (i : Index) : Type 0 where
  pub oid : (key : ℕ) → index_of_oid key i ≡ true → list_any (index_of_oid key) indexes ≡ false
  pub file : (key : FilePlace) → index_of_file key i ≡ true → list_any (index_of_file key) indexes ≡ false

-- ---- the names of indexes, which are in the schemas of their tables

abbrev pub index_of_name : List Table → SchemaName → Index → Bool
index_of_name tables key i = same_name key (index_name tables i)

abbrev pub has_table : List Table → Index → Bool
has_table tables i = list_any (table_has i.table) tables

-- the table of each index is there, and its name leads to it
pub record IndexNamesKnown (tables : List Table) (indexes : List Index) (names : NamePlaces) : Type 0 where
  pub tables_stand : list_all (has_table tables) indexes ≡ true
  pub by_name : Finds (name_at names) (index_of_name tables) indexes

-- ---- enums

abbrev pub enum_of_oid : ℕ → EnumType → Bool
enum_of_oid key e = nat_eq key e.oid

abbrev pub enum_of_name : SchemaName → EnumType → Bool
enum_of_name key e = same_name key (enum_name e)

abbrev pub enum_of_label : ℕ → EnumType → Bool
enum_of_label key e = list_any (nat_eq key) (enum_label_oids e)

pub record EnumsKnown (enums : List EnumType) (places : EnumPlaces) : Type 0 where
  pub by_oid : Finds (number_place places.oids) enum_of_oid enums
  pub by_name : Finds (name_at places.names) enum_of_name enums
  pub by_label : Finds (number_place places.labels) enum_of_label enums

pub record EnumIsFree (enums : List EnumType) (e : EnumType) : Type 0 where
  pub oid : (key : ℕ) → enum_of_oid key e ≡ true → list_any (enum_of_oid key) enums ≡ false
  pub name : (key : SchemaName) → enum_of_name key e ≡ true → list_any (enum_of_name key) enums ≡ false
  pub labels : (key : ℕ) → enum_of_label key e ≡ true → list_any (enum_of_label key) enums ≡ false

-- no enum has a label of that OID
abbrev pub LabelIsFree : List EnumType → Label → Type 0
LabelIsFree enums label = (key : ℕ) → nat_eq key label.oid ≡ true → list_any (enum_of_label key) enums ≡ false

-- ---- schemas

abbrev pub schema_of_name : List ℕ → Schema → Bool
schema_of_name key s = bytes_eq key s.name

abbrev pub SchemasKnown : List Schema → TextPlaces → Type 0
SchemasKnown schemas places = Finds (text_place places) schema_of_name schemas

abbrev pub SchemaIsFree : List Schema → Schema → Type 0
SchemaIsFree schemas s = (key : List ℕ) → schema_of_name key s ≡ true → list_any (schema_of_name key) schemas ≡ false
