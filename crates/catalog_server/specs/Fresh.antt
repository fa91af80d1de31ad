-- A new cluster that was never used, and tablespaces' locations that are ready for it.
use Rattle.std.specs.Prelude.{◌≡◌, ◌≢◌, ◌≤◌, ◌<◌, ◌^◌, ℕ, false, [], ◌∷◌, ◌++◌}
use Rattle.std.specs.List.{Contains, list_any}
use Rattle.std.specs.Fmt.{decimal}
use Rattle.fs_model.specs.Names.{Path, IsUnder}
use Rattle.fs_model.specs.State.{FsState}
use Rattle.control_file.specs.declared.releases.Release.{Release}
use Rattle.control_file.specs.Version.{dir_name_of}
use Rattle.catalog.specs.declared.owners.Tablespace.{Tablespace}
use Rattle.catalog.specs.Cluster.{Cluster, DatabaseObjects, default_tablespace, first_databases}
use Rattle.catalog.specs.Spaces.{database_has}
use Rattle.catalog_server.specs.ReplayNames.{base_path, links_path}
use Rattle.catalog_server.specs.Needed.{HasDir, IsFree}

-- The directories of a cluster that was never used: `base` with those of the first databases and no other's, in these no
-- file of a user's relation, and `pg_tblspc`, which is empty.
pub record IsUnused (root : Path) (s : FsState) : Type 0 where
  pub base : HasDir s (base_path root)
  pub links : HasDir s (links_path root)
  pub first : (d : DatabaseObjects) → Contains first_databases d → HasDir s (base_path root ++ decimal d.oid ∷ [])
  pub no_links : (oid : ℕ) → oid < 2 ^ 32 → IsFree s (links_path root ++ decimal oid ∷ [])
  pub no_databases : (oid : ℕ) → oid < 2 ^ 32 → list_any (database_has oid) first_databases ≡ false → IsFree s (base_path root ++ decimal oid ∷ [])
  pub no_files : (d : DatabaseObjects) → Contains first_databases d → (file : ℕ) → 16384 ≤ file → file < 2 ^ 32 → IsFree s (base_path root ++ decimal d.oid ∷ decimal file ∷ [])

-- Each location of the catalog's tablespaces but `pg_default` is a directory without one of the release's name, apart from
-- the cluster and from the others.
pub record AreLocationsReady (root : Path) (release : Release) (c : Cluster) (s : FsState) : Type 0 where
  pub locations : (t : Tablespace) → Contains c.tablespaces t → t.oid ≢ default_tablespace → HasDir s t.location
  pub releases : (t : Tablespace) → Contains c.tablespaces t → t.oid ≢ default_tablespace → IsFree s (t.location ++ dir_name_of release ∷ [])
  pub not_above : (t : Tablespace) → Contains c.tablespaces t → t.oid ≢ default_tablespace → IsUnder t.location root → ⊥
  pub not_below : (t : Tablespace) → Contains c.tablespaces t → t.oid ≢ default_tablespace → IsUnder root t.location → ⊥
  pub apart : (t u : Tablespace) → Contains c.tablespaces t → Contains c.tablespaces u → t.oid ≢ default_tablespace → u.oid ≢ default_tablespace → t.oid ≢ u.oid → IsUnder t.location u.location → ⊥
