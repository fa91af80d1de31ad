-- Setting the counters of a control file: the bytes before and after, and what else stays.
use Rattle.std.specs.Prelude.{◌≡◌, ◌≢◌, ◌%◌, ◌^◌, ℕ, List, length, take, slice_index, Some}
use Rattle.std.specs.FinMap.{get}
use Rattle.fs_model.specs.declared.node.Node.TheVariants.{File}
use Rattle.fs_model.specs.Names.{Path}
use Rattle.fs_model.specs.State.{FsState}
use Rattle.fs_model.specs.Effects.{bytes_of, with_bytes}
use Rattle.fs_model.specs.Reading.{file_bytes}
use Rattle.control_file.specs.declared.records.Counters.{Counters}
use Rattle.control_file.specs.ControlRecord.{IsKept, control_of, counters_of, newest_commit_ts_xid, oldest_commit_ts_xid, right_crc}

-- The bytes after have these counters, as both transaction ids of commit timestamps the lower half of the next transaction id, a right CRC,
-- and every other byte as before.
pub record CarriesCounters (before : List ℕ) (given : Counters) (after : List ℕ) : Type 0 where
  pub counters : counters_of after ≡ given
  pub oldest_commit_ts : oldest_commit_ts_xid after ≡ given.next_xid % 2 ^ 32
  pub newest_commit_ts : newest_commit_ts_xid after ≡ given.next_xid % 2 ^ 32
  pub crc : (control_of after).crc ≡ right_crc after
  pub size : length after ≡ length before
  pub kept : (i : ℕ) → IsKept i → slice_index after i ≡ slice_index before i

-- a file stands at the path, and its first 296 bytes are these
abbrev pub IsHeadOf : FsState → Path → List ℕ → Type 0
IsHeadOf s at head = (bytes : List ℕ) × (file_bytes s at ≡ Some bytes) × (take 296 bytes ≡ head)

-- The state t is s with other bytes in the file at the path: these counters, and all else of the file as before.
pub record SetsCounters (s : FsState) (at : Path) (given : Counters) (t : FsState) : Type 0 where
  pub inode : ℕ
  pub named : get s.names at ≡ Some (File inode)
  pub after : List ℕ
  pub carries : CarriesCounters (bytes_of s.bytes inode) given after
  pub whole : t ≡ with_bytes s inode after

-- The state s is a but for the bytes of the file that stands at the path in a, which may wait to be put on the disk.
pub record KeepsAllBut (at : Path) (a s : FsState) : Type 0 where
  pub names : s.names ≡ a.names
  pub names_kept : s.names_kept ≡ a.names_kept
  pub pending : s.pending ≡ a.pending
  pub devices : s.devices ≡ a.devices
  pub bytes_kept : s.bytes_kept ≡ a.bytes_kept
  pub bytes : (inode : ℕ) → get a.names at ≢ Some (File inode) → get s.bytes inode ≡ get a.bytes inode
  pub dirty : (inode : ℕ) → get a.names at ≢ Some (File inode) → get s.dirty inode ≡ get a.dirty inode
