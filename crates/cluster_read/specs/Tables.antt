-- The table that is read.
use Rattle.std.specs.Prelude.{ℕ, List}
use Rattle.fs_model.specs.State.{FsState}
use Rattle.control_file.specs.declared.records.Counters.{Counters}
use Rattle.relation_files.specs.declared.site.ClusterSite.{ClusterSite}
use Rattle.relation_files.specs.declared.relation.Fork.TheVariants.{Main}
use Rattle.cluster_meaning.specs.Status.{commit_log_dir, offsets_dir, members_dir, status_files}
use Rattle.cluster_meaning.specs.Cluster.{OpenCluster}
use Rattle.cluster_meaning.specs.Meaning.{FoundTable, fork_blocks, table_relation}
use Rattle.cluster_read.specs.declared.found.Found.{Found}

abbrev pub found_of : Found → FoundTable
found_of found = record { database = found.database.now; table = found.table.now }

-- the cluster at a site, with what its control file and its status files say
abbrev pub cluster_at : FsState → ClusterSite → ℕ → Counters → OpenCluster
cluster_at s site segment_blocks told = record {
  root = site.root.now;
  release = site.release;
  catalog = site.catalog.now;
  relseg_size = segment_blocks;
  counters = told;
  commit_log = status_files s (commit_log_dir site.root.now);
  offsets = status_files s (offsets_dir site.root.now);
  members = status_files s (members_dir site.root.now);
}

-- the blocks of a table
abbrev pub table_blocks : FsState → OpenCluster → FoundTable → List (List ℕ)
table_blocks s cluster found = fork_blocks s cluster (table_relation found) Main
