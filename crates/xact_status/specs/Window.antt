-- The order of transaction ids (`transam.c`; the manual's "Routine Vacuuming"): numbers below 2^32 in a circle, of
-- which those below 3 stand outside.
use Rattle.std.specs.Prelude.{ℕ, ◌+◌, ◌-◌, ◌%◌, ◌^◌, Bool, ◌&&◌, ◌||◌, not, nat_lt, nat_le, if◌then◌else◌}
use Rattle.xact_status.specs.declared.layout.TheConstants.{FIRST_NORMAL_XID}
use Rattle.xact_status.specs.declared.window.Window.{Window}

-- how many steps lead from one id to another, around the circle
abbrev pub ids_from : ℕ → ℕ → ℕ
ids_from a b = (b + (2 ^ 32 - a)) % 2 ^ 32

-- at least half of the circle leads from the second id to the first; ids below 3 are compared as numbers
abbrev pub is_before : ℕ → ℕ → Bool
is_before a b = if nat_lt a FIRST_NORMAL_XID || nat_lt b FIRST_NORMAL_XID then nat_lt a b else nat_le (2 ^ 31) (ids_from b a)

-- a normal id from the oldest on, before the next
abbrev pub is_within : Window → ℕ → Bool
is_within window xid = nat_le FIRST_NORMAL_XID xid && not (is_before xid window.oldest) && is_before xid window.next
