use Rattle.std.proofs.Common.{◌≡◌}
use Rattle.heap_tuple.specs.Column.{place_before}
use Rattle.heap_tuple.specs.Cursor.{IsPlace}
use Rattle.heap_tuple.proofs.columns.column.Given as goal

-- the place is behind the columns that were passed over
abbrev pub invariant-loop-index : goal.invariant-loop-index
invariant-loop-index l =
    IsPlace l.tuple l.place × (l.place ≡ place_before l.tuple l.columns l.index)
