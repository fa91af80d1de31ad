-- The commit log's places (`clog.c`): pages of 8192 bytes, 32 of them in a segment, 2 bits for each id.
use Rattle.std.specs.Prelude.{ℕ, ◌+◌, ◌*◌, ◌/◌, ◌%◌}
use Rattle.xact_status.specs.declared.layout.TheConstants.{PAGE_SIZE, PAGES_PER_SEGMENT, BITS_PER_XACT, XACTS_PER_BYTE, XACTS_PER_PAGE}
use Rattle.xact_status.specs.declared.place.Place.{Place}

-- the page of an id, over all segments
abbrev pub status_page : ℕ → ℕ
status_page xid = xid / XACTS_PER_PAGE

abbrev pub status_place : ℕ → Place
status_place xid = record {
  segment = status_page xid / PAGES_PER_SEGMENT;
  byte = status_page xid % PAGES_PER_SEGMENT * PAGE_SIZE + xid % XACTS_PER_PAGE / XACTS_PER_BYTE;
  shift = xid % XACTS_PER_BYTE * BITS_PER_XACT;
}
