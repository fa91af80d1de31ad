-- The status of a transaction in the commit log (`clog.h`).
use Rattle.std.specs.Prelude.{ℕ, ◌/◌, ◌%◌, ◌^◌, ◌==◌, if◌then◌else◌, Option, option_map}
use Rattle.xact_status.specs.declared.layout.TheConstants.{BITS_PER_XACT}
use Rattle.xact_status.specs.declared.status.Status.{Status}
use Rattle.xact_status.specs.declared.status.Status.TheVariants.{InProgress, Committed, Aborted, SubCommitted}
use Rattle.xact_status.specs.Files.{SegmentFiles, byte_at}
use Rattle.xact_status.specs.Place.{status_place}

-- the status that two bits name
abbrev pub status_of : ℕ → Status
status_of bits = if bits == 0 then InProgress else (if bits == 1 then Committed else (if bits == 2 then Aborted else SubCommitted))

-- the status of an id, where its byte is there
abbrev pub status_at : SegmentFiles → ℕ → Option Status
status_at files xid =
    let place = status_place xid in
    option_map (λ byte. status_of (byte / 2 ^ place.shift % 2 ^ BITS_PER_XACT)) (byte_at files place.segment place.byte)
