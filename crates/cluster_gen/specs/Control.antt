-- The control files: a record of 288 bytes and its CRC, and zeros up to 8192 bytes. All that isn't named is zero.
use Rattle.std.specs.Prelude.{ℕ, pos, List, [], ◌∷◌, ◌++◌}
use Rattle.std.specs.List.{flat_map}
use Rattle.control_file.specs.declared.releases.Release.{Release}
use Rattle.control_file.specs.declared.records.Counters.{Counters}
use Rattle.control_file.specs.declared.records.Control.{Control}
use Rattle.control_file.specs.Version.{catalog_version_of}
use Rattle.control_file.specs.Crc.{crc_of}
use Rattle.cluster_gen.specs.Numbers.{four_bytes, eight_bytes, zeros}

abbrev pub old_counters : Counters
old_counters = record {
  next_xid = 800;
  next_oid = 30000;
  next_multi = 1;
  next_multi_offset = 0;
  oldest_xid = 600;
  oldest_xid_db = 1;
  oldest_multi = 1;
  oldest_multi_db = 1;
}

abbrev pub new_counters : Counters
new_counters = record old_counters { next_xid = 700; next_oid = 16384 }

-- the places 64 to 99
unfoldable pub counter_bytes : Counters → List ℕ
counter_bytes counters =
    eight_bytes counters.next_xid
    ++ flat_map four_bytes (counters.next_oid ∷ counters.next_multi ∷ counters.next_multi_offset ∷ counters.oldest_xid ∷ counters.oldest_xid_db ∷ counters.oldest_multi ∷ counters.oldest_multi_db ∷ [])

-- the places 0 to 99: the version of the control file, that of the catalog and the state 1, shut down, stand at 8
unfoldable pub checkpoint : Release → Counters → List ℕ
checkpoint release counters =
    zeros 8 ++ (flat_map four_bytes (1300 ∷ catalog_version_of release ∷ 1 ∷ []) ++ (zeros 44 ++ counter_bytes counters))

-- the places 100 to 287. At 204 stands max_align, at 216 blcksz, relseg_size, xlog_blcksz, xlog_seg_size, name_data_len,
-- index_max_keys, toast_chunk, loblksize, and that float8 is passed by value.
unfoldable pub settings : List ℕ
settings =
    zeros 104
    ++ (flat_map four_bytes (8 ∷ 0 ∷ 0 ∷ 8192 ∷ 131072 ∷ 8192 ∷ 16777216 ∷ 64 ∷ 32 ∷ 1996 ∷ 2048 ∷ 1 ∷ []) ++ zeros 36)

-- what the CRC covers
unfoldable pub head : Release → Counters → List ℕ
head release counters = checkpoint release counters ++ settings

unfoldable pub control_file : Release → Counters → List ℕ
control_file release counters = head release counters ++ (four_bytes (crc_of (head release counters)) ++ zeros 7900)

-- what the control file says
abbrev pub meant : Release → Counters → Control
meant release counters = record {
  system_identifier = 0;
  control_version = 1300;
  catalog_version = catalog_version_of release;
  state = 1;
  time = pos 0;
  checkpoint = 0;
  counters = counters;
  max_align = 8;
  blcksz = 8192;
  relseg_size = 131072;
  xlog_blcksz = 8192;
  xlog_seg_size = 16777216;
  name_data_len = 64;
  index_max_keys = 32;
  toast_chunk = 1996;
  loblksize = 2048;
  checksum_version = 0;
  crc = crc_of (head release counters);
}
