-- What an upgrade has to leave in a new cluster so that it means what the old one does: one fact for each thing that is
-- carried.
use Rattle.std.specs.Prelude.{◌≡◌, ◌≢◌, ℕ, List, [], ◌∷◌, ◌++◌, Contains, Some}
use Rattle.fs_model.specs.Names.{Path}
use Rattle.fs_model.specs.State.{FsState}
use Rattle.fs_model.specs.Reading.{file_bytes}
use Rattle.control_file.specs.declared.releases.Release.{Release}
use Rattle.catalog.specs.Cluster.{Cluster}
use Rattle.relation_files.specs.declared.relation.Relation.{Relation}
use Rattle.relation_files.specs.declared.relation.Fork.{Fork}
use Rattle.relation_files.specs.Places.{Site, fork_files}
use Rattle.relation_files.specs.Carried.{carried}
use Rattle.cluster_meaning.specs.Status.{commit_log_dir, offsets_dir, members_dir}
use Rattle.cluster_meaning.specs.Cluster.{control_at}
use Rattle.cluster_meaning.specs.Meaning.{FoundTable, found_table, shapes_in}
use Rattle.relation_files.specs.Relations.{relations_of}

-- a directory has the files of another
abbrev pub SameFiles : FsState → Path → FsState → Path → Type 0
SameFiles s dir x copy = (name : List ℕ) → file_bytes x (copy ++ name ∷ []) ≡ file_bytes s (dir ++ name ∷ [])

-- the data directory of a cluster, and its release
pub record Home : Type 0 where
  pub root : Path
  pub release : Release

abbrev pub home_site : Home → Cluster → Site
home_site home catalog = record { root = home.root; release = home.release; tablespaces = catalog.tablespaces }

-- The state x has in the new cluster what s has in the old one.
pub record Carries (catalog : Cluster) (old : Home) (s : FsState) (new : Home) (x : FsState) : Type 0 where
  pub segments_have_blocks : (control_at s old.root).relseg_size ≢ 0
  pub relseg_size : (control_at x new.root).relseg_size ≡ (control_at s old.root).relseg_size
  pub counters : (control_at x new.root).counters ≡ (control_at s old.root).counters
  pub commit_log : SameFiles s (commit_log_dir old.root) x (commit_log_dir new.root)
  pub offsets : SameFiles s (offsets_dir old.root) x (offsets_dir new.root)
  pub members : SameFiles s (members_dir old.root) x (members_dir new.root)
  -- of each relation the files that stand are those that are carried
  pub files : (relation : Relation) → Contains (relations_of catalog) relation → (fork : Fork) (segment : ℕ)
      → fork_files x (home_site new catalog) relation fork segment ≡ carried fork (fork_files s (home_site old catalog) relation fork) segment
  -- the fields of each column lie alike in both releases
  pub shapes : (database table : ℕ) (found : FoundTable) → found_table catalog database table ≡ Some found
      → shapes_in new.release found.table.columns ≡ shapes_in old.release found.table.columns
