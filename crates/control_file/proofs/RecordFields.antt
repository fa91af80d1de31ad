-- The record's fields, where some of its bytes are the same.
use Rattle.std.specs.Prelude.{◌==◌, if◌then◌else◌}
use Rattle.std.proofs.lemmas.Bool.{cases_lt}
use Rattle.std.proofs.lemmas.Bool.Decides.{nat_tests}
use Rattle.std.proofs.Common.{take-take, lit≤, inl, inr, Bool, false, ltb, Result, Err, ◌≡◌, ℕ, ◌<◌, ◌≤◌, List, length, take, get_or, sym, ap, ◌∙◌, arith}
use Rattle.std.proofs.lemmas.Grind.{same_number_lists}
use Rattle.std.proofs.lemmas.List.{get_or-take, length-take-le, take_all}
use Rattle.std.specs.Int.{cast_signed, w64}
use Rattle.control_file.specs.Crc.{crc_of}
use Rattle.control_file.specs.ControlRecord.{IsKept, KeepsOutside, checked, control_in, control_of, counters_of, number_at, right_crc}
use Rattle.control_file.specs.declared.records.Control.{Control}
use Rattle.control_file.specs.declared.records.Counters.{Counters}
use Rattle.control_file.specs.declared.records.ControlError.{ControlError}
use Rattle.control_file.specs.declared.records.ControlError.TheVariants.{Crc, Short}
use Rattle.control_file.specs.declared.releases.Release.{Release}
use Rattle.control_file.proofs.RecordBytes.{number_at-same}

-- the counters, where their own bytes are the same
pub counters_of-same : (xs ys : List ℕ) → ((k : ℕ) → 64 ≤ k → k < 100 → get_or xs k 0 ≡ get_or ys k 0) → counters_of xs ≡ counters_of ys
unfolding counters_of
counters_of-same xs ys h =
    let next_xid_is : number_at 64 8 xs ≡ number_at 64 8 ys = number_at-same 64 8 xs ys (λ k low high. h k (omega arith) (omega arith)) in
    let next_oid_is : number_at 72 4 xs ≡ number_at 72 4 ys = number_at-same 72 4 xs ys (λ k low high. h k (omega arith) (omega arith)) in
    let next_multi_is : number_at 76 4 xs ≡ number_at 76 4 ys = number_at-same 76 4 xs ys (λ k low high. h k (omega arith) (omega arith)) in
    let next_multi_offset_is : number_at 80 4 xs ≡ number_at 80 4 ys = number_at-same 80 4 xs ys (λ k low high. h k (omega arith) (omega arith)) in
    let oldest_xid_is : number_at 84 4 xs ≡ number_at 84 4 ys = number_at-same 84 4 xs ys (λ k low high. h k (omega arith) (omega arith)) in
    let oldest_xid_db_is : number_at 88 4 xs ≡ number_at 88 4 ys = number_at-same 88 4 xs ys (λ k low high. h k (omega arith) (omega arith)) in
    let oldest_multi_is : number_at 92 4 xs ≡ number_at 92 4 ys = number_at-same 92 4 xs ys (λ k low high. h k (omega arith) (omega arith)) in
    let oldest_multi_db_is : number_at 96 4 xs ≡ number_at 96 4 ys = number_at-same 96 4 xs ys (λ k low high. h k (omega arith) (omega arith)) in
    λ i. record {
      next_xid = next_xid_is i;
      next_oid = next_oid_is i;
      next_multi = next_multi_is i;
      next_multi_offset = next_multi_offset_is i;
      oldest_xid = oldest_xid_is i;
      oldest_xid_db = oldest_xid_db_is i;
      oldest_multi = oldest_multi_is i;
      oldest_multi_db = oldest_multi_db_is i;
    }

-- the CRC that a record must have, where the bytes before it are the same
pub right_crc-same : (xs ys : List ℕ) → 288 ≤ length xs → 288 ≤ length ys → ((k : ℕ) → k < 288 → get_or xs k 0 ≡ get_or ys k 0) → right_crc xs ≡ right_crc ys
unfolding right_crc
right_crc-same xs ys long_x long_y h =
    let size_x : length (take 288 xs) ≡ 288 = length-take-le 288 xs long_x in
    let size_y : length (take 288 ys) ≡ 288 = length-take-le 288 ys long_y in
    ap crc_of (same_number_lists (take 288 xs) (take 288 ys) (size_x ∙ sym size_y)
    (λ k below. let within : k < 288 = omega arith in
    get_or-take 288 xs k 0 within ∙ h k within ∙ sym (get_or-take 288 ys k 0 within)))

-- the whole record, where only the counters, the two transaction ids of commit timestamps and the CRC are others
pub control_of-changed : (old new : List ℕ) (counters : Counters) (crc : ℕ) → ((i : ℕ) → IsKept i → get_or new i 0 ≡ get_or old i 0)
    → counters_of new ≡ counters → number_at 288 4 new ≡ crc
    → control_of new ≡ record (control_of old) { counters = counters; crc = crc }
unfolding control_of
control_of-changed old new counters crc kept counters_is crc_is =
    let system_identifier_is : number_at 0 8 new ≡ number_at 0 8 old = number_at-same 0 8 new old (λ k low high. kept k (omega arith)) in
    let control_version_is : number_at 8 4 new ≡ number_at 8 4 old = number_at-same 8 4 new old (λ k low high. kept k (omega arith)) in
    let catalog_version_is : number_at 12 4 new ≡ number_at 12 4 old = number_at-same 12 4 new old (λ k low high. kept k (omega arith)) in
    let state_is : number_at 16 4 new ≡ number_at 16 4 old = number_at-same 16 4 new old (λ k low high. kept k (omega arith)) in
    let time_is : number_at 24 8 new ≡ number_at 24 8 old = number_at-same 24 8 new old (λ k low high. kept k (omega arith)) in
    let checkpoint_is : number_at 32 8 new ≡ number_at 32 8 old = number_at-same 32 8 new old (λ k low high. kept k (omega arith)) in
    let max_align_is : number_at 204 4 new ≡ number_at 204 4 old = number_at-same 204 4 new old (λ k low high. kept k (omega arith)) in
    let blcksz_is : number_at 216 4 new ≡ number_at 216 4 old = number_at-same 216 4 new old (λ k low high. kept k (omega arith)) in
    let relseg_size_is : number_at 220 4 new ≡ number_at 220 4 old = number_at-same 220 4 new old (λ k low high. kept k (omega arith)) in
    let xlog_blcksz_is : number_at 224 4 new ≡ number_at 224 4 old = number_at-same 224 4 new old (λ k low high. kept k (omega arith)) in
    let xlog_seg_size_is : number_at 228 4 new ≡ number_at 228 4 old = number_at-same 228 4 new old (λ k low high. kept k (omega arith)) in
    let name_data_len_is : number_at 232 4 new ≡ number_at 232 4 old = number_at-same 232 4 new old (λ k low high. kept k (omega arith)) in
    let index_max_keys_is : number_at 236 4 new ≡ number_at 236 4 old = number_at-same 236 4 new old (λ k low high. kept k (omega arith)) in
    let toast_chunk_is : number_at 240 4 new ≡ number_at 240 4 old = number_at-same 240 4 new old (λ k low high. kept k (omega arith)) in
    let loblksize_is : number_at 244 4 new ≡ number_at 244 4 old = number_at-same 244 4 new old (λ k low high. kept k (omega arith)) in
    let checksum_version_is : number_at 252 4 new ≡ number_at 252 4 old = number_at-same 252 4 new old (λ k low high. kept k (omega arith)) in
    λ i. record {
      system_identifier = system_identifier_is i;
      control_version = control_version_is i;
      catalog_version = catalog_version_is i;
      state = state_is i;
      time = cast_signed w64 (time_is i);
      checkpoint = checkpoint_is i;
      counters = counters_is i;
      max_align = max_align_is i;
      blcksz = blcksz_is i;
      relseg_size = relseg_size_is i;
      xlog_blcksz = xlog_blcksz_is i;
      xlog_seg_size = xlog_seg_size_is i;
      name_data_len = name_data_len_is i;
      index_max_keys = index_max_keys_is i;
      toast_chunk = toast_chunk_is i;
      loblksize = loblksize_is i;
      checksum_version = checksum_version_is i;
      crc = crc_is i;
    }

-- three writes, of the counters, the two transaction ids and the CRC, keep what stands outside all three
pub kept-after : (start second third end : List ℕ) → KeepsOutside 64 100 start second → KeepsOutside 112 120 second third
    → KeepsOutside 288 292 third end → (i : ℕ) → IsKept i → get_or end i 0 ≡ get_or start i 0
kept-after start second third end first_kept second_kept third_kept i outside =
    third_kept i outside.2 ∙ second_kept i outside.1 ∙ first_kept i outside.0

-- of these, the last two keep the counters
pub counters_of-after : (second third end : List ℕ) → KeepsOutside 112 120 second third → KeepsOutside 288 292 third end
    → counters_of end ≡ counters_of second
counters_of-after second third end second_kept third_kept =
    counters_of-same end second
    (λ k low high. third_kept k (λ past. absurd (omega arith)) ∙ second_kept k (λ past. absurd (omega arith)))

-- a CRC that is written is that of the record which then stands there
pub right_crc-written : (third end : List ℕ) → length third ≡ 296 → length end ≡ 296 → KeepsOutside 288 292 third end
    → right_crc third ≡ right_crc end
right_crc-written third end long_third long_end kept =
    right_crc-same third end (omega arith) (omega arith) (λ k below. sym (kept k (λ past. absurd (omega arith))))

-- a record's fields stand in its first 296 bytes
pub control_of-take : (bytes : List ℕ) → control_of (take 296 bytes) ≡ control_of bytes
unfolding control_of
control_of-take bytes =
    let same = λ (k : ℕ) (h : k < 296). get_or-take 296 bytes k 0 h in
    let time_is : number_at 24 8 (take 296 bytes) ≡ number_at 24 8 bytes = number_at-same 24 8 (take 296 bytes) bytes (λ k low high. same k (omega arith)) in
    λ i. record {
      system_identifier = number_at-same 0 8 (take 296 bytes) bytes (λ k low high. same k (omega arith)) i;
      control_version = number_at-same 8 4 (take 296 bytes) bytes (λ k low high. same k (omega arith)) i;
      catalog_version = number_at-same 12 4 (take 296 bytes) bytes (λ k low high. same k (omega arith)) i;
      state = number_at-same 16 4 (take 296 bytes) bytes (λ k low high. same k (omega arith)) i;
      time = cast_signed w64 (time_is i);
      checkpoint = number_at-same 32 8 (take 296 bytes) bytes (λ k low high. same k (omega arith)) i;
      counters = counters_of-same (take 296 bytes) bytes (λ k low high. same k (omega arith)) i;
      max_align = number_at-same 204 4 (take 296 bytes) bytes (λ k low high. same k (omega arith)) i;
      blcksz = number_at-same 216 4 (take 296 bytes) bytes (λ k low high. same k (omega arith)) i;
      relseg_size = number_at-same 220 4 (take 296 bytes) bytes (λ k low high. same k (omega arith)) i;
      xlog_blcksz = number_at-same 224 4 (take 296 bytes) bytes (λ k low high. same k (omega arith)) i;
      xlog_seg_size = number_at-same 228 4 (take 296 bytes) bytes (λ k low high. same k (omega arith)) i;
      name_data_len = number_at-same 232 4 (take 296 bytes) bytes (λ k low high. same k (omega arith)) i;
      index_max_keys = number_at-same 236 4 (take 296 bytes) bytes (λ k low high. same k (omega arith)) i;
      toast_chunk = number_at-same 240 4 (take 296 bytes) bytes (λ k low high. same k (omega arith)) i;
      loblksize = number_at-same 244 4 (take 296 bytes) bytes (λ k low high. same k (omega arith)) i;
      checksum_version = number_at-same 252 4 (take 296 bytes) bytes (λ k low high. same k (omega arith)) i;
      crc = number_at-same 288 4 (take 296 bytes) bytes (λ k low high. same k (omega arith)) i;
    }

-- what is read, from its three parts
abbrev control_read : Bool → Control → ℕ → Release → Result Control ControlError
control_read short control crc release =
    if short then Err Short else (if control.crc == crc then checked control release else Err Crc)

-- and so do the bytes that its CRC covers
pub right_crc-take : (bytes : List ℕ) → right_crc (take 296 bytes) ≡ right_crc bytes
unfolding right_crc
right_crc-take bytes = ap crc_of (take-take 288 296 bytes (lit≤ tt))

-- a file says what its first 296 bytes say
pub control_in-take : (bytes : List ℕ) (release : Release) → control_in (take 296 bytes) release ≡ control_in bytes release
unfolding control_in
control_in-take bytes release =
    elim (cases_lt (length bytes) 296) [
      | inl short ↦ (let whole : take 296 bytes ≡ bytes = take_all 296 bytes (omega arith) in ap (λ v. control_in v release) whole)
      | inr long ↦ (let size : length (take 296 bytes) ≡ 296 = length-take-le 296 bytes long in
          let here : ltb (length bytes) 296 ≡ false = grind (arith, nat_tests) in
          ap (λ v. control_read v (control_of (take 296 bytes)) (right_crc (take 296 bytes)) release) (ap (λ v. ltb v 296) size)
          ∙ ap (λ v. control_read false v (right_crc (take 296 bytes)) release) (control_of-take bytes)
          ∙ ap (λ v. control_read false (control_of bytes) v release) (right_crc-take bytes)
          ∙ ap (λ v. control_read v (control_of bytes) (right_crc bytes) release) (sym here))
    ]
