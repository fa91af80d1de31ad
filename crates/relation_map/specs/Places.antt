-- What stands at a place of a list, where there is one.
use Rattle.std.specs.Prelude.{ℕ, List, Option, Some, None, slice_get}

abbrev pub found_at : {X : Type 0} → List X → Option ℕ → Option X
found_at xs None = None
found_at xs (Some place) = slice_get xs place
