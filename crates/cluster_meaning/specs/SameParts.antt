-- Two clusters, each with files in a state of its own, that have the same parts.
use Rattle.std.specs.Prelude.{◌≡◌, ◌≢◌, ℕ, Contains}
use Rattle.fs_model.specs.State.{FsState}
use Rattle.relation_files.specs.declared.relation.Relation.{Relation}
use Rattle.relation_files.specs.declared.relation.Fork.{Fork}
use Rattle.relation_files.specs.Places.{fork_files}
use Rattle.relation_files.specs.Carried.{carried}
use Rattle.cluster_meaning.specs.Cluster.{OpenCluster, site_of}
use Rattle.cluster_meaning.specs.Meaning.{FoundTable, found_table, shapes_in}
use Rattle.relation_files.specs.Relations.{relations_of}
use Rattle.std.specs.Prelude.{Some}

-- The new cluster, whose files are those of the state x, has the catalog, the counters, the status files and of each
-- relation the carried files of the old one, whose files are those of s.
pub record SameParts (s : FsState) (old : OpenCluster) (x : FsState) (new : OpenCluster) : Type 0 where
  pub catalog : new.catalog ≡ old.catalog
  pub relseg_size : new.relseg_size ≡ old.relseg_size
  -- else an empty segment would be full
  pub segments_have_blocks : old.relseg_size ≢ 0
  pub counters : new.counters ≡ old.counters
  pub commit_log : (segment : ℕ) → new.commit_log segment ≡ old.commit_log segment
  pub offsets : (segment : ℕ) → new.offsets segment ≡ old.offsets segment
  pub members : (segment : ℕ) → new.members segment ≡ old.members segment
  pub files : (relation : Relation) → Contains (relations_of old.catalog) relation → (fork : Fork) (segment : ℕ)
      → carried fork (fork_files x (site_of new) relation fork) segment ≡ carried fork (fork_files s (site_of old) relation fork) segment
  -- the fields of each column lie alike in both releases
  pub shapes : (database table : ℕ) (found : FoundTable) → found_table old.catalog database table ≡ Some found
      → shapes_in new.release found.table.columns ≡ shapes_in old.release found.table.columns
