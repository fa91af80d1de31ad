-- A cluster as a reader knows it, with what it says of transactions.
use Rattle.std.specs.Prelude.{ℕ, List, [], ◌∷◌, ◌++◌, codes, Option}
use Rattle.std.specs.Option.{unwrap_or}
use Rattle.fs_model.specs.Names.{Path}
use Rattle.fs_model.specs.State.{FsState}
use Rattle.fs_model.specs.Reading.{file_bytes}
use Rattle.control_file.specs.declared.releases.Release.{Release}
use Rattle.control_file.specs.declared.records.Control.{Control}
use Rattle.control_file.specs.declared.records.Counters.{Counters}
use Rattle.control_file.specs.ControlRecord.{control_of}
use Rattle.catalog.specs.Cluster as catalog
use Rattle.xact_status.specs.declared.known.Known.{Known}
use Rattle.xact_status.specs.Files.{SegmentFiles}
use Rattle.xact_status.specs.Known.{fate_of}
use Rattle.multixact.specs.Update.{updater_of}
use Rattle.relation_files.specs.Places.{Site}
use Rattle.cluster_meaning.specs.Status.{commit_log_dir, offsets_dir, members_dir, status_files, window_of}

-- where it stands, what it holds, and what its control file and its status files say
pub record OpenCluster : Type 0 where
  pub root : Path
  pub release : Release
  pub catalog : catalog.Cluster
  pub relseg_size : ℕ
  pub counters : Counters
  pub commit_log : SegmentFiles
  pub offsets : SegmentFiles
  pub members : SegmentFiles

abbrev pub control_path : Path → Path
control_path root = root ++ codes "global" ∷ codes "pg_control" ∷ []

-- the control record of the cluster at a root
abbrev pub control_at : FsState → Path → Control
control_at s root = control_of (unwrap_or (file_bytes s (control_path root)) [])

-- the cluster at a root of a state
abbrev pub opened : FsState → Path → Release → catalog.Cluster → OpenCluster
opened s root release catalog = record {
  root = root;
  release = release;
  catalog = catalog;
  relseg_size = (control_at s root).relseg_size;
  counters = (control_at s root).counters;
  commit_log = status_files s (commit_log_dir root);
  offsets = status_files s (offsets_dir root);
  members = status_files s (members_dir root);
}

abbrev pub site_of : OpenCluster → Site
site_of cluster = record { root = cluster.root; release = cluster.release; tablespaces = cluster.catalog.tablespaces }

-- what became of a transaction
abbrev pub known : OpenCluster → ℕ → Known
known cluster = fate_of cluster.commit_log (window_of cluster.counters)

-- the transaction among a multixact's members that updated the row
abbrev pub updater : OpenCluster → ℕ → Option (Option ℕ)
updater cluster = updater_of cluster.offsets cluster.members cluster.counters
