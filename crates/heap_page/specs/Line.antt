-- Line pointers: 32 bits each, from the lowest on 15 of offset, 2 of flags and 15 of length.
use Rattle.std.specs.Prelude.{ℕ, ◌+◌, ◌/◌, ◌%◌, ◌^◌, ◌==◌, Bool, true, nat_le, if◌then◌else◌, List, Option, Some, None}
use Rattle.std.specs.List.{slice_range}
use Rattle.heap_page.specs.declared.line.LinePointer.{LinePointer}
use Rattle.heap_page.specs.declared.line.LineState.{LineState}
use Rattle.heap_page.specs.declared.line.LineState.TheVariants.{Unused, Normal, Redirect, Dead}

-- the state that the flags name
abbrev pub state_of : ℕ → LineState
state_of flags = if flags == 0 then Unused else (if flags == 1 then Normal else (if flags == 2 then Redirect else Dead))

-- the flags that name a state
abbrev pub flags_of : LineState → ℕ
flags_of Unused = 0
flags_of Normal = 1
flags_of Redirect = 2
flags_of Dead = 3

-- the line pointer that 32 bits stand for
abbrev pub pointer_of : ℕ → LinePointer
pointer_of bits = record { offset = bits % 2 ^ 15; state = state_of (bits / 2 ^ 15 % 2 ^ 2); length = bits / 2 ^ 17 }

-- whether a line of this state, at this place and of this length, ends by `limit`; only a normal line has a tuple
abbrev pub ends_by : ℕ → ℕ → ℕ → LineState → Bool
ends_by limit offset len Normal = nat_le (offset + len) limit
ends_by limit offset len Unused = true
ends_by limit offset len Redirect = true
ends_by limit offset len Dead = true

-- what a line is: its tuple's bytes where it is normal, and the line that a redirect leads to
pub data LineItem : Type 0 where
  unused : LineItem
  tuple : List ℕ → LineItem
  redirect : ℕ → LineItem
  dead : LineItem

abbrev pub item_by : List ℕ → ℕ → ℕ → LineState → LineItem
item_by page offset len Unused = unused
item_by page offset len Normal = tuple (slice_range page offset (offset + len))
item_by page offset len Redirect = redirect offset
item_by page offset len Dead = dead

-- the item of a line pointer
abbrev pub pointer_item : List ℕ → LinePointer → LineItem
pointer_item page pointer = item_by page pointer.offset pointer.length pointer.state

-- the tuple of an item, where it has one
abbrev pub tuple_of : LineItem → Option (List ℕ)
tuple_of (tuple bytes) = Some bytes
tuple_of unused = None
tuple_of (redirect line) = None
tuple_of dead = None
