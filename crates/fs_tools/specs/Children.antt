-- The names in a directory, as paths.
use Rattle.std.specs.Prelude.{◌≡◌, ◌++◌, ◌∷◌, [], ℕ, List, map}
use Rattle.fs_model.specs.Names.{Path}
use Rattle.fs_model.specs.State.{Names}
use Rattle.fs_model.specs.Calls.{children}

-- the path of a name in a directory
abbrev pub child_of : Path → List ℕ → Path
child_of at name = at ++ name ∷ []

-- the paths of the names in a directory, in ascending order
abbrev pub paths_in : Names → Path → List Path
paths_in names at = map (child_of at) (children names at)

-- the path is one of a name in the directory
abbrev pub IsIn : Path → Path → Type 0
IsIn at path = (name : List ℕ) × (path ≡ child_of at name)
