-- Bytes of segment files that a program found.
use Rattle.std.proofs.Common.{◌≡◌, ◌/◌, ◌%◌, ◌^◌, ℕ, List, Some, None, ap, ◌∙◌, bit_and}
use Rattle.std.specs.Prelude.{slice_get, option_and_then, option_map}
use Rattle.std.proofs.lemmas.Nat.{and_mask}
use Rattle.xact_status.specs.Files.{SegmentFiles, byte_at}
use Rattle.xact_status.specs.Place.{status_place}
use Rattle.xact_status.specs.Status.{status_at, status_of}

pub byte_in : (files : SegmentFiles) (segment byte : ℕ) (bytes : List ℕ) → Some bytes ≡ files segment → slice_get bytes byte ≡ byte_at files segment byte
byte_in files segment byte bytes is = ap (option_and_then (λ bytes. slice_get bytes byte)) is

pub no_segment : (files : SegmentFiles) (segment byte : ℕ) → None ≡ files segment → None ≡ byte_at files segment byte
no_segment files segment byte is = ap (option_and_then (λ bytes. slice_get bytes byte)) is

pub status_found : (files : SegmentFiles) (xid byte : ℕ) → Some byte ≡ byte_at files (status_place xid).segment (status_place xid).byte → Some (status_of (bit_and (byte / 2 ^ (status_place xid).shift) 3)) ≡ status_at files xid
status_found files xid byte is =
    ap (λ bits. Some (status_of bits)) (and_mask (byte / 2 ^ (status_place xid).shift) 2)
    ∙ ap (option_map (λ byte. status_of (byte / 2 ^ (status_place xid).shift % 2 ^ 2))) is
