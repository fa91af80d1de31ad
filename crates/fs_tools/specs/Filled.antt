-- How far a slice has been filled with a file's bytes.
use Rattle.std.specs.Prelude.{◌≡◌, ◌≤◌, ℕ, List, length, take, IfSome}
use Rattle.fs_model.specs.Names.{Path}
use Rattle.fs_model.specs.State.{FsState}
use Rattle.fs_model.specs.Reading.{file_bytes}

-- the first n elements are the file's first n bytes
abbrev pub Filled : FsState → Path → ℕ → List ℕ → Type 0
Filled s path n into = IfSome (file_bytes s path) (λ bytes. (n ≤ length bytes) × (take n into ≡ take n bytes))

-- the file has n bytes at most
abbrev pub AllFilled : FsState → Path → ℕ → Type 0
AllFilled s path n = IfSome (file_bytes s path) (λ bytes. length bytes ≤ n)
