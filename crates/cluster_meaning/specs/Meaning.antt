-- The meaning of a table: its rows with their values, what can't be read, and what each snapshot sees.
use Rattle.std.specs.Prelude.{ℕ, ◌+◌, List, [], ◌∷◌, map, Option, Some, None, option_map, option_and_then, Result, Ok, Err}
use Rattle.std.specs.List.{find, flat_map}
use Rattle.fs_model.specs.State.{FsState}
use Rattle.control_file.specs.declared.releases.Release.{Release}
use Rattle.heap_page.specs.Page.{page_error, items_of}
use Rattle.heap_page.specs.declared.error.PageError.{PageError}
use Rattle.heap_page.specs.Map.{bits_of}
use Rattle.heap_tuple.specs.declared.error.TupleError.{TupleError}
use Rattle.heap_tuple.specs.declared.header.Header.{Header}
use Rattle.heap_tuple.specs.declared.shape.Shape.{Shape}
use Rattle.heap_tuple.specs.Header.{header_of}
use Rattle.xact_status.specs.declared.known.Known.{Known}
use Rattle.visibility.specs.declared.seen.Seen.{Seen}
use Rattle.visibility.specs.declared.seen.Seen.TheVariants.{Unknown}
use Rattle.visibility.specs.Taken.{Taken}
use Rattle.visibility.specs.Visible.{seen_by}
use Rattle.catalog.specs.declared.types.ColumnKind.{ColumnKind}
use Rattle.catalog.specs.declared.relations.Column.{Column}
use Rattle.catalog.specs.declared.relations.Table.{Table}
use Rattle.catalog.specs.declared.relations.Toast.{Toast}
use Rattle.catalog.specs.Cluster as catalog
use Rattle.catalog.specs.Shapes.{kind_shape}
use Rattle.catalog.specs.Spaces.{database_has, table_has}
use Rattle.relation_files.specs.declared.relation.Relation.{Relation}
use Rattle.relation_files.specs.declared.relation.Fork.{Fork}
use Rattle.relation_files.specs.declared.relation.Fork.TheVariants.{Main, Visibility}
use Rattle.cluster_meaning.specs.declared.value.Value.{Value}
use Rattle.relation_files.specs.Places.{fork_files}
use Rattle.cluster_meaning.specs.Blocks.{blocks_of}
use Rattle.cluster_meaning.specs.Cluster.{OpenCluster, site_of, known, updater}
use Rattle.toast_read.specs.Chunks.{fetched}
use Rattle.cluster_meaning.specs.Chunks.{chunks_of_blocks, readable_items}
use Rattle.cluster_meaning.specs.Values.{ValueSource, values_of}

-- ---- what a meaning is

-- a line and the values of its tuple
pub record Item : Type 0 where
  pub line : ℕ
  pub values : List Value

-- a block that is no page, with its bytes, or the items of a page
pub data Content : Type 0 where
  unread : List ℕ → Content
  items : List Item → Content

-- a block, and its bits in the visibility map, where the map has them
pub record Block : Type 0 where
  pub content : Content
  pub bits : Option ℕ

-- the blocks of a table, and what each snapshot sees of its items, in their order
pub record TableMeaning : Type 0 where
  pub blocks : List Block
  pub seen : Taken → List Seen

-- ---- how it is told

-- All that tells the values of a tuple and who sees it: what tells values, and what its cluster knows of transactions
-- and of multixacts.
pub record Reading : Type 0 where
  pub source : ValueSource
  pub fates : ℕ → Known
  pub updaters : ℕ → Option (Option ℕ)

-- All that tells a table's meaning: how its tuples are read, and the blocks of its main fork and of its visibility map.
pub record TableParts : Type 0 where
  pub reading : Reading
  pub blocks : List (List ℕ)
  pub map : List (List ℕ)

abbrev pub item_of : ValueSource → ℕ × List ℕ → Item
item_of source item = record { line = item.0; values = values_of source item.1 }

abbrev pub content_by : Option PageError → ValueSource → List ℕ → Content
content_by None source block = items (map (item_of source) (items_of block))
content_by (Some error) source block = unread block

-- what a block holds
abbrev pub content_of : ValueSource → List ℕ → Content
content_of source block = content_by (page_error block) source block

-- blocks from a number on, each with its bits in the bytes of the map
abbrev pub blocks_told : ValueSource → List ℕ → ℕ → List (List ℕ) → List Block
blocks_told source vm n [] = []
blocks_told source vm n (block ∷ blocks) = record { content = content_of source block; bits = bits_of vm n } ∷ blocks_told source vm (n + 1) blocks

-- what a snapshot sees of a tuple; one without a readable header is unknown
abbrev pub seen_under : (ℕ → Known) → (ℕ → Option (Option ℕ)) → Taken → Result Header TupleError → Seen
seen_under fates updaters snapshot (Ok header) = seen_by fates updaters header snapshot
seen_under fates updaters snapshot (Err error) = Unknown

abbrev pub tuple_seen : Reading → Taken → List ℕ → Seen
tuple_seen reading snapshot tuple = seen_under reading.fates reading.updaters snapshot (header_of tuple)

unfoldable pub meaning_of : TableParts → TableMeaning
meaning_of parts = record {
  blocks = blocks_told parts.reading.source (flat_map (λ block. block) parts.map) 0 parts.blocks;
  seen = λ snapshot. map (λ item. tuple_seen parts.reading snapshot item.1) (flat_map readable_items parts.blocks);
}

-- ---- the parts of a table in a state

-- a table, and the database that holds it
pub record FoundTable : Type 0 where
  pub database : catalog.DatabaseObjects
  pub table : Table

abbrev pub table_in : ℕ → catalog.DatabaseObjects → Option FoundTable
table_in table database = option_map (λ found. record { database = database; table = found }) (find (table_has table) database.tables)

-- the table of an OID in the database of an OID
abbrev pub found_table : catalog.Cluster → ℕ → ℕ → Option FoundTable
found_table catalog database table = option_and_then (table_in table) (find (database_has database) catalog.databases)

-- how the fields of a column lie in a release
abbrev pub shape_in : Release → ColumnKind → Shape
shape_in release kind = kind_shape kind

abbrev pub shapes_in : Release → List Column → List Shape
shapes_in release columns = map (λ column. shape_in release column.kind) columns

abbrev pub relation_in : catalog.DatabaseObjects → ℕ → ℕ → Relation
relation_in database tablespace file = record { database = database.oid; tablespace = tablespace; file = file }

abbrev pub table_relation : FoundTable → Relation
table_relation found = relation_in found.database found.table.tablespace found.table.file

-- a toast table stands in the tablespace of its table
abbrev pub toast_relation : FoundTable → Toast → Relation
toast_relation found toast = relation_in found.database found.table.tablespace toast.file

-- the blocks of a fork
abbrev pub fork_blocks : FsState → OpenCluster → Relation → Fork → List (List ℕ)
fork_blocks s cluster relation fork = blocks_of cluster.relseg_size (fork_files s (site_of cluster) relation fork)

abbrev pub toast_blocks : FsState → OpenCluster → FoundTable → Option Toast → List (List ℕ)
toast_blocks s cluster found None = []
toast_blocks s cluster found (Some toast) = fork_blocks s cluster (toast_relation found toast) Main

abbrev pub source_in : FsState → OpenCluster → FoundTable → ValueSource
source_in s cluster found = record {
  columns = found.table.columns;
  shapes = shapes_in cluster.release found.table.columns;
  enums = found.database.enums;
  toast = option_map (λ toast. toast.oid) found.table.toast;
  fetch = fetched (chunks_of_blocks (toast_blocks s cluster found found.table.toast));
}

abbrev pub reading_in : FsState → OpenCluster → FoundTable → Reading
reading_in s cluster found = record { source = source_in s cluster found; fates = known cluster; updaters = updater cluster }

-- the parts of a table, from the files of its own cluster
unfoldable pub parts_in : FsState → OpenCluster → FoundTable → TableParts
parts_in s cluster found = record {
  reading = reading_in s cluster found;
  blocks = fork_blocks s cluster (table_relation found) Main;
  map = fork_blocks s cluster (table_relation found) Visibility;
}

-- the meaning of the table of an OID in a database, where the cluster has it
unfoldable pub table_meaning : FsState → OpenCluster → ℕ → ℕ → Option TableMeaning
table_meaning s cluster database table = option_map (λ found. meaning_of (parts_in s cluster found)) (found_table cluster.catalog database table)
