-- The control record, which is the first 296 bytes of global/pg_control (`ControlFileData` of PostgreSQL's
-- src/include/catalog/pg_control.h).
use Rattle.std.specs.Prelude.{◌≡◌, ℕ, ◌<◌, ◌≤◌, ◌≢◌, ◌==◌, nat_lt, if◌then◌else◌, List, length, take, drop, slice_index, Result, Ok, Err}
use Rattle.std.specs.Int.{w64, cast_signed}
use Rattle.byteorder.specs.Endian.{little_number}
use Rattle.control_file.specs.Crc.{crc_of}
use Rattle.control_file.specs.Version.{catalog_version_of}
use Rattle.control_file.specs.declared.records.Counters.{Counters}
use Rattle.control_file.specs.declared.records.Control.{Control}
use Rattle.control_file.specs.declared.records.ControlError.{ControlError}
use Rattle.control_file.specs.declared.records.ControlError.TheVariants.{Short, Crc, ControlVersion, CatalogVersion}
use Rattle.control_file.specs.declared.releases.Release.{Release}

-- the number in the n bytes from a place on, the lowest byte first
unfoldable pub number_at : ℕ → ℕ → List ℕ → ℕ
number_at place n bytes = little_number n (drop place bytes)

-- the eight counters of the last checkpoint
unfoldable pub counters_of : List ℕ → Counters
counters_of bytes = record {
  next_xid = number_at 64 8 bytes;
  next_oid = number_at 72 4 bytes;
  next_multi = number_at 76 4 bytes;
  next_multi_offset = number_at 80 4 bytes;
  oldest_xid = number_at 84 4 bytes;
  oldest_xid_db = number_at 88 4 bytes;
  oldest_multi = number_at 92 4 bytes;
  oldest_multi_db = number_at 96 4 bytes;
}

-- the oldest and the newest transaction id that has a commit timestamp
unfoldable pub oldest_commit_ts_xid : List ℕ → ℕ
oldest_commit_ts_xid bytes = number_at 112 4 bytes

unfoldable pub newest_commit_ts_xid : List ℕ → ℕ
newest_commit_ts_xid bytes = number_at 116 4 bytes

-- the CRC that the record must have
unfoldable pub right_crc : List ℕ → ℕ
right_crc bytes = crc_of (take 288 bytes)

-- the fields of the record
unfoldable pub control_of : List ℕ → Control
control_of bytes = record {
  system_identifier = number_at 0 8 bytes;
  control_version = number_at 8 4 bytes;
  catalog_version = number_at 12 4 bytes;
  state = number_at 16 4 bytes;
  time = cast_signed w64 (number_at 24 8 bytes);
  checkpoint = number_at 32 8 bytes;
  counters = counters_of bytes;
  max_align = number_at 204 4 bytes;
  blcksz = number_at 216 4 bytes;
  relseg_size = number_at 220 4 bytes;
  xlog_blcksz = number_at 224 4 bytes;
  xlog_seg_size = number_at 228 4 bytes;
  name_data_len = number_at 232 4 bytes;
  index_max_keys = number_at 236 4 bytes;
  toast_chunk = number_at 240 4 bytes;
  loblksize = number_at 244 4 bytes;
  checksum_version = number_at 252 4 bytes;
  crc = number_at 288 4 bytes;
}

-- the control itself, if both of its versions are the release's, and else the first that is not
abbrev pub checked : Control → Release → Result Control ControlError
checked control release =
    if control.control_version == 1300
    then (if control.catalog_version == catalog_version_of release then Ok control else Err (CatalogVersion control.catalog_version))
    else Err (ControlVersion control.control_version)

-- what a file with these bytes says to a reader who wants the release
unfoldable pub control_in : List ℕ → Release → Result Control ControlError
control_in bytes release =
    if nat_lt (length bytes) 296 then Err Short
    else (if (control_of bytes).crc == right_crc bytes then checked (control_of bytes) release else Err Crc)

-- ---- what these say, cause by cause

-- the bytes begin with a sound record of the release: whole, with a right CRC, and of the release's two versions
pub record IsRecordOf (bytes : List ℕ) (release : Release) : Type 0 where
  pub whole : 296 ≤ length bytes
  pub crc : (control_of bytes).crc ≡ right_crc bytes
  pub control_version : (control_of bytes).control_version ≡ 1300
  pub catalog_version : (control_of bytes).catalog_version ≡ catalog_version_of release

-- why they do not: the first of these four that fails
abbrev pub IsCause : List ℕ → Release → ControlError → Type 0
IsCause bytes release Short = length bytes < 296
IsCause bytes release Crc = (296 ≤ length bytes) × ((control_of bytes).crc ≢ right_crc bytes)
IsCause bytes release (ControlVersion found) =
    (296 ≤ length bytes) × ((control_of bytes).crc ≡ right_crc bytes)
    × (found ≡ (control_of bytes).control_version) × (found ≢ 1300)
IsCause bytes release (CatalogVersion found) =
    (296 ≤ length bytes) × ((control_of bytes).crc ≡ right_crc bytes)
    × ((control_of bytes).control_version ≡ 1300)
    × (found ≡ (control_of bytes).catalog_version) × (found ≢ catalog_version_of release)

-- ---- a change of the record

-- the bytes before the place `low` and from the place `high` on are the same
abbrev pub KeepsOutside : ℕ → ℕ → List ℕ → List ℕ → Type 0
KeepsOutside low high old new = (i : ℕ) → (low ≤ i → high ≤ i) → slice_index new i ≡ slice_index old i

-- the place i stands outside the counters, the two transaction ids of commit timestamps, and the CRC
abbrev pub IsKept : ℕ → Type 0
IsKept i = (64 ≤ i → 100 ≤ i) × (112 ≤ i → 120 ≤ i) × (288 ≤ i → 292 ≤ i)
