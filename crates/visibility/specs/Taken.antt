-- What a snapshot is, whatever its place in memory.
use Rattle.std.specs.Prelude.{ℕ, List}

-- each id before xmin had ended, none from xmax on had begun, and between them the running ones hadn't ended
pub record Taken : Type 0 where
  pub xmin : ℕ
  pub xmax : ℕ
  pub running : List ℕ
