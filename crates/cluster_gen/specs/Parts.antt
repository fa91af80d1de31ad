-- The directories and the files of the two clusters, in ascending order of their paths.
use Rattle.std.specs.Prelude.{ℕ, ◌+◌, List, [], ◌∷◌, ◌++◌, map, codes, Option, Some, None}
use Rattle.std.specs.Fmt.{decimal}
use Rattle.std.specs.List.{flat_map, range_with_len}
use Rattle.fs_model.specs.Names.{Path}
use Rattle.control_file.specs.declared.releases.Release.TheVariants.{V15, V16}
use Rattle.control_file.specs.Version.{version_text_of}
use Rattle.dump_grammar.specs.Canonical.{canonical}
use Rattle.cluster_gen.specs.declared.parts.Part.{Part}
use Rattle.cluster_gen.specs.declared.fixed.Cluster.{Cluster}
use Rattle.cluster_gen.specs.declared.fixed.Content.{Content}
use Rattle.cluster_gen.specs.declared.fixed.Content.TheVariants.{Directory, Version, Control, Status, Zeros, Catalog}
use Rattle.cluster_gen.specs.Numbers.{zeros}
use Rattle.cluster_gen.specs.Page.{table_file}
use Rattle.cluster_gen.specs.Control.{control_file, old_counters, new_counters}
use Rattle.cluster_gen.specs.Catalogs.{old_catalog, new_catalog, row_type_of}

-- a directory, or a file with these bytes
abbrev pub part_below : Path → Path → Option (List ℕ) → Part
part_below root names bytes = record { path = root ++ names; bytes = bytes }

-- the bytes of the file that stands there, if it is a file
abbrev pub content_of : Cluster → Content → Option (List ℕ)
content_of cluster Directory = None
content_of cluster Version = Some (version_text_of cluster.release)
content_of cluster Control = Some cluster.control
content_of cluster Status = Some cluster.status
content_of cluster Zeros = Some (zeros 8192)
content_of cluster Catalog = Some cluster.catalog

abbrev pub part_at : Cluster → Path × Content → Part
part_at cluster place = part_below cluster.root place.0 (content_of cluster place.1)

unfoldable pub parts_at : Cluster → List (Path × Content) → List Part
parts_at cluster places = map (part_at cluster) places

-- the places before those of the database `app`
abbrev pub first_places : List (Path × Content)
first_places =
    ([], Directory)
    ∷ (codes "PG_VERSION" ∷ [], Version)
    ∷ (codes "base" ∷ [], Directory)
    ∷ (codes "base" ∷ codes "1" ∷ [], Directory)
    ∷ (codes "base" ∷ codes "1" ∷ codes "PG_VERSION" ∷ [], Version)
    ∷ []

-- the places behind those of the database `app`
abbrev pub later_places : List (Path × Content)
later_places =
    (codes "base" ∷ codes "4" ∷ [], Directory)
    ∷ (codes "base" ∷ codes "4" ∷ codes "PG_VERSION" ∷ [], Version)
    ∷ (codes "base" ∷ codes "5" ∷ [], Directory)
    ∷ (codes "base" ∷ codes "5" ∷ codes "PG_VERSION" ∷ [], Version)
    ∷ (codes "global" ∷ [], Directory)
    ∷ (codes "global" ∷ codes "pg_control" ∷ [], Control)
    ∷ (codes "pg_multixact" ∷ [], Directory)
    ∷ (codes "pg_multixact" ∷ codes "members" ∷ [], Directory)
    ∷ (codes "pg_multixact" ∷ codes "members" ∷ codes "0000" ∷ [], Zeros)
    ∷ (codes "pg_multixact" ∷ codes "offsets" ∷ [], Directory)
    ∷ (codes "pg_multixact" ∷ codes "offsets" ∷ codes "0000" ∷ [], Zeros)
    ∷ (codes "pg_profile" ∷ [], Directory)
    ∷ (codes "pg_profile" ∷ codes "catalog.sql" ∷ [], Catalog)
    ∷ (codes "pg_tblspc" ∷ [], Directory)
    ∷ (codes "pg_twophase" ∷ [], Directory)
    ∷ (codes "pg_xact" ∷ [], Directory)
    ∷ (codes "pg_xact" ∷ codes "0000" ∷ [], Status)
    ∷ []

-- ---- the database `app`

-- a relation's file
abbrev pub file_part : Path → ℕ → List ℕ → Part
file_part root file bytes = part_below root (codes "base" ∷ codes "16384" ∷ decimal file ∷ []) (Some bytes)

-- the files of the table of a number, of its toast table, and of that one's index
abbrev pub table_parts : Path → ℕ → List Part
table_parts root table =
    file_part root (row_type_of table + 1) (table_file table)
    ∷ file_part root (row_type_of table + 2) []
    ∷ file_part root (row_type_of table + 3) []
    ∷ []

unfoldable pub app_parts : Cluster → ℕ → List Part
app_parts cluster tables =
    part_at cluster (codes "base" ∷ codes "16384" ∷ [], Directory)
    ∷ (flat_map (table_parts cluster.root) (range_with_len 0 tables)
    ++ part_at cluster (codes "base" ∷ codes "16384" ∷ codes "PG_VERSION" ∷ [], Version) ∷ [])

-- ---- the two clusters

-- transactions 700 and 701 are committed
unfoldable pub old_status : List ℕ
old_status = zeros 175 ++ (0x05 ∷ zeros 8016)

abbrev pub new_cluster : Cluster
new_cluster = record {
  root = codes "new" ∷ [];
  release = V16;
  control = control_file V16 new_counters;
  status = zeros 8192;
  catalog = canonical new_catalog;
}

abbrev pub old_cluster : ℕ → Cluster
old_cluster tables = record {
  root = codes "old" ∷ [];
  release = V15;
  control = control_file V15 old_counters;
  status = old_status;
  catalog = canonical (old_catalog tables);
}

unfoldable pub new_parts : List Part
new_parts = parts_at new_cluster first_places ++ parts_at new_cluster later_places

unfoldable pub old_parts : ℕ → List Part
old_parts tables =
    parts_at (old_cluster tables) first_places
    ++ (app_parts (old_cluster tables) tables ++ parts_at (old_cluster tables) later_places)

-- the new cluster and the old one with so many tables
unfoldable pub pair_parts : ℕ → List Part
pair_parts tables = new_parts ++ old_parts tables
