-- What is read from and written to an open file, where it tells its place and its bytes.
use Rattle.std.specs.Prelude.{ℕ, List, Option, Result, Ok}
use Rattle.std.specs.Io.KnownBytes.{Consumes, Appends}
use Rattle.std.specs.Io.Seek.{MovesTo}
use Rattle.fs_model.specs.declared.error.FsError.{FsError}

abbrev done : Result (Unit {0}) FsError
done = Ok tt

-- the file went to a place, and then gave these bytes
abbrev pub ReadsFrom : {F : Type 0} → (F → Option ℕ) → (F → Option (List ℕ)) → F → F → ℕ → List ℕ → Type 0
ReadsFrom {F} place remaining old new from bytes = (moved : F) × (MovesTo (place old) (place moved) from done × Consumes (remaining moved) (remaining new) bytes)

-- the file went to a place, and then took these bytes
abbrev pub WritesFrom : {F : Type 0} → (F → Option ℕ) → (F → Option (List ℕ)) → F → F → ℕ → List ℕ → Type 0
WritesFrom {F} place contents old new from bytes = (moved : F) × (MovesTo (place old) (place moved) from done × Appends (contents moved) (contents new) bytes)
