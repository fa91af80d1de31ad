-- What making a file does, and the calls that it takes.
use Rattle.std.specs.Prelude.{◌≡◌, ℕ, List, None}
use Rattle.std.specs.FinMap.{get}
use Rattle.fs_model.specs.declared.effect.Effect.TheVariants.{NewFile}
use Rattle.fs_model.specs.Names.{Path}
use Rattle.fs_model.specs.State.{FsState}
use Rattle.fs_model.specs.Effects.{apply, with_bytes}
use Rattle.fs_model.specs.Calls.{Call, Creates, WritesAt}
use Rattle.crash_safety.specs.Frame.{IsMadeSince}

-- the state t is s with a new file of these bytes, in an inode that s had not
abbrev pub MakesFile : FsState → Path → List ℕ → FsState → Type 0
MakesFile s path bytes t = (inode : ℕ) × (get s.bytes inode ≡ None) × (t ≡ with_bytes (apply s (NewFile path inode)) inode bytes)

-- a call of a run that began in a, which creates the file at this path or writes to it once the run has made it
abbrev pub Makes : Path → FsState → FsState → Call → Type 0
Makes at a s (Creates path) = path ≡ at
Makes at a s (WritesAt path from bytes) = (path ≡ at) × IsMadeSince a s path
Makes at a s call = ⊥
