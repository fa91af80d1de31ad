-- The rows of a table that was read, as they are counted.
use Rattle.std.proofs.Common.{◌≡◌, ℕ, length, Option, Some, None, refl, ap}
use Rattle.std.specs.Prelude.{option_map, option_and_then}
use Rattle.std.specs.List.{find}
use Rattle.fs_model.specs.State.{FsState}
use Rattle.visibility.specs.Taken.{Taken}
use Rattle.catalog.specs.declared.relations.Table.{Table}
use Rattle.catalog.specs.Cluster.{DatabaseObjects}
use Rattle.catalog.specs.Spaces.{database_has, table_has}
use Rattle.cluster_meaning.specs.Cluster.{OpenCluster}
use Rattle.cluster_meaning.specs.Meaning.{FoundTable, found_table, table_in, reading_in}
use Rattle.block_rows.specs.declared.rows.Rows.{Rows}
use Rattle.block_rows.specs.Rows.{TellsRows}
use Rattle.cluster_read.specs.declared.error.ReadError.{ReadError}
use Rattle.cluster_read.specs.declared.error.ReadError.TheVariants.{NoSuch}
use Rattle.cluster_read.specs.Causes.{missing_object, missing_in, missing_table, or_then}
use Rattle.cluster_read.specs.Tables.{table_blocks}
use Rattle.row_counts.specs.Counted.{rows_of_found, rows_of_table}

-- where nothing refuses a read, the catalog has the table
none_missing : (missing : Option ℕ) (later : Option ReadError) → or_then (option_map NoSuch missing) later ≡ None → missing ≡ None
none_missing None later is = refl
none_missing (Some oid) later is = absurd (cc is)

abbrev found_at : DatabaseObjects → Table → FoundTable
found_at database table = record { database = database; table = table }

stands_in : (oid : ℕ) (database : DatabaseObjects) (found : Option Table) → missing_table oid found ≡ None → option_map (found_at database) found ≡ None → ⊥
stands_in oid database None missing none = absurd (cc missing)
stands_in oid database (Some table) missing none = absurd (cc none)

stands : (oid table : ℕ) (database : Option DatabaseObjects) → missing_in oid table database ≡ None → option_and_then (table_in table) database ≡ None → ⊥
stands oid table None missing none = absurd (cc missing)
stands oid table (Some database) missing none = stands_in table database (find (table_has table) database.tables) missing none

module _ (s : FsState) (cluster : OpenCluster) (snapshot : Taken) (rows : Rows) where
  abbrev Tells : FoundTable → Type 0
  Tells found = TellsRows (reading_in s cluster found) snapshot (table_blocks s cluster found) rows

  found_rows : (table : Option FoundTable) → (table ≡ None → ⊥) → ((found : FoundTable) → table ≡ Some found → Tells found) → length rows.rows.items ≡ rows_of_found s cluster snapshot table
  found_rows None some tells = absurd (some refl)
  found_rows (Some found) some tells = (let told = tells found refl in ap length told.rows_are)

  pub counted_rows : (database table : ℕ) (later : Option ReadError) → or_then (option_map NoSuch (missing_object cluster.catalog database table)) later ≡ None → ((found : FoundTable) → found_table cluster.catalog database table ≡ Some found → Tells found)
      → length rows.rows.items ≡ rows_of_table s cluster snapshot database table
  counted_rows database table later none tells =
      found_rows (found_table cluster.catalog database table) (stands database table (find (database_has database) cluster.catalog.databases) (none_missing (missing_object cluster.catalog database table) later none)) tells
