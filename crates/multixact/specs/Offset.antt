-- Where the members of a multixact begin and end.
use Rattle.std.specs.Prelude.{ℕ, ◌==◌, if◌then◌else◌, Option, Some}
use Rattle.control_file.specs.declared.records.Counters.{Counters}
use Rattle.xact_status.specs.Files.{SegmentFiles}
use Rattle.multixact.specs.Numbers.{number_at}
use Rattle.multixact.specs.Place.{offset_place_of}
use Rattle.multixact.specs.Window.{following}

-- the number of the first member
abbrev pub offset_at : SegmentFiles → ℕ → Option ℕ
offset_at offsets multi = let place = offset_place_of multi in number_at offsets place.segment place.byte

-- the number behind the last member: where the following id begins, or is to begin
abbrev pub end_at : SegmentFiles → Counters → ℕ → Option ℕ
end_at offsets counters multi =
    if following multi == counters.next_multi then Some counters.next_multi_offset else offset_at offsets (following multi)
