-- The circle of 2^32 multixact ids, of which 0 is none (the manual's "Multixacts and Wraparound").
use Rattle.std.specs.Prelude.{ℕ, ◌+◌, ◌-◌, ◌^◌, ◌==◌, Bool, ◌&&◌, not, nat_lt, if◌then◌else◌}
use Rattle.xact_status.specs.Window.{ids_from}
use Rattle.control_file.specs.declared.records.Counters.{Counters}

-- an id from the oldest on, before the next, each less than half of the circle away
abbrev pub is_kept : Counters → ℕ → Bool
is_kept counters multi =
    not (multi == 0) && nat_lt (ids_from counters.oldest_multi multi) (2 ^ 31)
    && nat_lt 0 (ids_from multi counters.next_multi) && nat_lt (ids_from multi counters.next_multi) (2 ^ 31)

-- the id behind another
abbrev pub following : ℕ → ℕ
following multi = if multi == 2 ^ 32 - 1 then 1 else multi + 1
