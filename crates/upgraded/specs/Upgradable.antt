-- What the checks give, of the state in which an upgrade begins, for the result to be an upgraded cluster.
use Rattle.std.specs.Prelude.{◌≡◌, ◌≢◌, ℕ, true, List, [], ◌∷◌, ◌++◌, codes, Ok, Some, None, is_some}
use Rattle.std.specs.List.{Contains}
use Rattle.std.specs.FinMap.{get}
use Rattle.fs_model.specs.declared.node.Node.TheVariants.{Dir, Sym}
use Rattle.fs_model.specs.Names.{Path, IsUnder}
use Rattle.fs_model.specs.State.{FsState}
use Rattle.fs_model.specs.Reading.{file_bytes}
use Rattle.fs_model.specs.WellFormed.{WellFormed}
use Rattle.crash_safety.specs.Frame.{IsInside, IsOutside}
use Rattle.crash_safety.specs.Places.{control_at, links_at}
use Rattle.control_file.specs.declared.job.Job.{Job}
use Rattle.control_file.specs.declared.releases.Release.TheVariants.{V15, V16}
use Rattle.control_file.specs.ControlRecord.{IsRecordOf}
use Rattle.control_file.specs.Version.{version_text_of}
use Rattle.catalog.specs.declared.owners.Tablespace.{Tablespace}
use Rattle.catalog.specs.Cluster.{Cluster, default_tablespace}
use Rattle.catalog.specs.Valid.{IsValid}
use Rattle.relation_files.specs.declared.relation.Relation.{Relation}
use Rattle.relation_files.specs.declared.relation.Fork.{Fork}
use Rattle.relation_files.specs.declared.relation.Fork.TheVariants.{Main}
use Rattle.relation_files.specs.Places.{segment_path}
use Rattle.relation_files.specs.Relations.{relations_of}
use Rattle.catalog_server.specs.Profile.{profile_of, profile_path}
use Rattle.cluster_meaning.specs.Cluster.{control_at as control_in}
use Rattle.link_transfer.specs.LinkedFiles.{ShareOnly}
use Rattle.upgraded.specs.Places.{old_tops, new_tops, old_site, new_site, version_at}
use Rattle.upgraded.specs.Upgraded.{ReadsCatalog}

-- A tablespace's location is where the old cluster has a link to, and is neither above nor below the new cluster.
pub record IsPlaced (job : Job) (s : FsState) (location : Path) : Type 0 where
  pub link : List ℕ
  pub links : get s.names (links_at job.old ++ link ∷ []) ≡ Some (Sym location)
  pub not_above : IsUnder location job.new → ⊥
  pub not_below : IsUnder job.new location → ⊥

-- Behind each fact stands the refusal that gives it.
pub record IsUpgradable (read : ReadsCatalog) (job : Job) (catalog : Cluster) (s : FsState) : Type 0 where
  -- of each state of a file system
  pub well_formed : WellFormed s
  -- of each catalog that a server reads
  pub valid : IsValid catalog
  -- CatalogText
  pub reading : read job.old V15 (profile_of s job.old) ≡ Ok catalog
  -- Overlap, TablespaceDir
  pub apart : (path : Path) → IsInside (old_tops job s) path → IsOutside (new_tops job s) path
  -- TablespaceDir
  pub locations : (tablespace : Tablespace) → Contains catalog.tablespaces tablespace → tablespace.oid ≢ default_tablespace → IsPlaced job s tablespace.location
  -- MissingFile
  pub first_files : (relation : Relation) → Contains (relations_of catalog) relation → is_some (file_bytes s (segment_path (old_site job catalog) relation Main 0)) ≡ true
  -- NewUsed, TablespaceDir
  pub free_files : (relation : Relation) → Contains (relations_of catalog) relation → (fork : Fork) (segment : ℕ)
      → get s.names (segment_path (new_site job catalog) relation fork segment) ≡ None
  -- MissingFile
  pub profile_dir : get s.names (profile_path job.new) ≡ Some Dir
  -- NewUsed
  pub free_profile : (name : List ℕ) (rest : Path) → name ≢ codes "catalog.sql" → get s.names (profile_path job.new ++ name ∷ rest) ≡ None
  -- NoControl, ControlShort, ControlVersion
  pub record_there : (bytes : List ℕ) → file_bytes s (control_at job.new) ≡ Some bytes → IsRecordOf bytes V16
  -- MissingVersion, WrongVersion
  pub version_there : file_bytes s (version_at job.new) ≡ Some (version_text_of V16)
  -- SharedInode
  pub unshared : ShareOnly (old_tops job s) (new_tops job s) (λ path. ⊥) s.names
  -- BlockSize, ControlDiffers
  pub segments_have_blocks : (control_in s job.old).relseg_size ≢ 0
  pub relseg_size : (control_in s job.new).relseg_size ≡ (control_in s job.old).relseg_size
