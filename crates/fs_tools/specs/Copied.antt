-- What copying a file does, and the calls that it takes.
use Rattle.std.specs.Prelude.{◌≡◌, ◌≤◌, ◌-◌, ℕ, List, length, take, drop, min, Some, None}
use Rattle.fs_model.specs.Names.{Path}
use Rattle.fs_model.specs.State.{FsState}
use Rattle.fs_model.specs.Calls.{Call, Stats, ReadsAt, Creates, WritesAt, refusal}
use Rattle.fs_model.specs.Reading.{file_bytes}
use Rattle.crash_safety.specs.Frame.{IsMadeSince}
use Rattle.fs_tools.specs.Made.{MakesFile}

-- the buffer begins with the next piece of these bytes, behind those that are done: as many as there are and fit
pub record IsPiece (bytes : List ℕ) (done count : ℕ) (buffer : List ℕ) : Type 0 where
  pub count_is : count ≡ min (length buffer) (length bytes - done)
  pub piece : take count buffer ≡ take count (drop done bytes)

-- The state t is `start` with a new file, which has the first bytes of the file at `from`; the buffer has the piece behind them.
pub record Copying (start : FsState) (from to : Path) (bytes : List ℕ) (done count : ℕ) (buffer : List ℕ) (t : FsState) : Type 0 where
  pub readable : refusal start (ReadsAt from) ≡ None
  pub creatable : refusal start (Creates to) ≡ None
  pub source : file_bytes start from ≡ Some bytes
  pub made : MakesFile start to (take done bytes) t
  pub inside : done ≤ length bytes
  pub next : IsPiece bytes done count buffer

-- the state t is s with a new file that has the bytes of the one at `from`, which are so many
abbrev pub CopiesFile : FsState → Path → Path → ℕ → FsState → Type 0
CopiesFile s from to number t = (bytes : List ℕ) × (file_bytes s from ≡ Some bytes) × (number ≡ length bytes) × MakesFile s to bytes t

-- a call of a run that began in a, which reads the file at `from`, creates that at `to` or writes to it once the run has made it
abbrev pub Copies : Path → Path → FsState → FsState → Call → Type 0
Copies from to a s (Stats path) = path ≡ from
Copies from to a s (ReadsAt path) = path ≡ from
Copies from to a s (Creates path) = path ≡ to
Copies from to a s (WritesAt path at bytes) = (path ≡ to) × IsMadeSince a s path
Copies from to a s call = ⊥
