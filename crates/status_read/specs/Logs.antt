-- What a `Logs` holds.
use Rattle.std.specs.Prelude.{◌≡◌, ℕ, List, Option}
use Rattle.std.specs.FinMap as map
use Rattle.fs_model.specs.Names.{Path}
use Rattle.fs_model.specs.State.{FsState}
use Rattle.control_file.specs.declared.records.Counters.{Counters}
use Rattle.cluster_meaning.specs.Status.{commit_log_dir, offsets_dir, members_dir, status_files, window_of}
use Rattle.xact_status.specs.Files.{SegmentFiles}
use Rattle.status_read.specs.declared.logs.Logs.{Logs}

-- It holds the status files of the cluster at a path, and its counters with the window that they tell.
pub record HasLogs (s : FsState) (root : Path) (told : Counters) (logs : Logs) : Type 0 where
  pub commit_log : ◌≡◌ {A = SegmentFiles} (map.get logs.commit_log) (status_files s (commit_log_dir root))
  pub offsets : ◌≡◌ {A = SegmentFiles} (map.get logs.offsets) (status_files s (offsets_dir root))
  pub members : ◌≡◌ {A = SegmentFiles} (map.get logs.members) (status_files s (members_dir root))
  pub counters : logs.counters ≡ told
  pub window : logs.window ≡ window_of told
