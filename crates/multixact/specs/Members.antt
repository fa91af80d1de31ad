-- The members of a multixact.
use Rattle.std.specs.Prelude.{ℕ, ◌+◌, ◌%◌, ◌^◌, List, map, Option}
use Rattle.std.specs.List.{range_with_len}
use Rattle.xact_status.specs.Files.{SegmentFiles}
use Rattle.multixact.specs.Member.{member_at}
use Rattle.multixact.specs.declared.member.Member.{Member}

-- so many members from a number on, around the circle of 2^32 numbers; None in the place of one whose bytes aren't there
abbrev pub members_from : SegmentFiles → ℕ → ℕ → List (Option Member)
members_from files begin count = map (λ index. member_at files ((begin + index) % 2 ^ 32)) (range_with_len 0 count)
