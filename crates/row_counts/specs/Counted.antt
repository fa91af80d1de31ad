-- How many rows a snapshot sees in the tables of a cluster.
use Rattle.std.specs.Prelude.{ℕ, length, Option, Some, None, Err}
use Rattle.std.specs.List.{sum_by}
use Rattle.fs_model.specs.Names.{Path}
use Rattle.fs_model.specs.State.{FsState}
use Rattle.control_file.specs.declared.releases.Release.{Release}
use Rattle.visibility.specs.Taken.{Taken}
use Rattle.catalog.specs.Cluster.{Cluster, DatabaseObjects}
use Rattle.cluster_meaning.specs.Blocks.{numbered}
use Rattle.cluster_meaning.specs.Cluster.{OpenCluster}
use Rattle.cluster_meaning.specs.Meaning.{FoundTable, found_table, reading_in}
use Rattle.block_rows.specs.Rows.{rows_in}
use Rattle.cluster_read.specs.declared.error.ReadError.{ReadError}
use Rattle.cluster_read.specs.Causes.{DecidedAs, read_refusal}
use Rattle.cluster_read.specs.Tables.{table_blocks}

-- those of a table that the catalog has
abbrev pub rows_of_found : FsState → OpenCluster → Taken → Option FoundTable → ℕ
rows_of_found s cluster snapshot None = 0
rows_of_found s cluster snapshot (Some found) = length (rows_in (reading_in s cluster found) snapshot (numbered 0 (table_blocks s cluster found)))

-- those of the table of an OID in the database of an OID
abbrev pub rows_of_table : FsState → OpenCluster → Taken → ℕ → ℕ → ℕ
rows_of_table s cluster snapshot database table = rows_of_found s cluster snapshot (found_table cluster.catalog database table)

-- those of all tables of a database
abbrev pub rows_of_database : FsState → OpenCluster → Taken → DatabaseObjects → ℕ
rows_of_database s cluster snapshot database = sum_by (λ table. rows_of_table s cluster snapshot database.oid table.oid) database.tables

-- those of all tables of all databases
abbrev pub rows_of_cluster : FsState → OpenCluster → Taken → ℕ
rows_of_cluster s cluster snapshot = sum_by (rows_of_database s cluster snapshot) cluster.catalog.databases

-- an error is that of reading a table: `NoSuch`, `Control` and a refusal of `Fs` come only where they hold for one
abbrev pub IsOfTable : FsState → Path → Release → Cluster → ReadError → Type 0
IsOfTable s root release catalog error = (database : ℕ) × (table : ℕ) × DecidedAs {T = ℕ} (read_refusal s root release catalog database table) (Err error)
