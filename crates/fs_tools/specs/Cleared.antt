-- What clearing a directory does, and the calls that it takes.
use Rattle.std.specs.Prelude.{◌≡◌, ◌≢◌, ◌∷◌, [], ℕ, List, Some, None}
use Rattle.std.specs.FinMap.{get}
use Rattle.fs_model.specs.declared.node.Node.TheVariants.{Dir}
use Rattle.fs_model.specs.Names.{Path}
use Rattle.fs_model.specs.State.{Names, FsState}
use Rattle.fs_model.specs.Effects.{with_change}
use Rattle.fs_model.specs.Calls.{Call, Lists, Unlinks, refusal}
use Rattle.fs_tools.specs.Children.{child_of, IsIn}

-- the state after these names were unlinked, the first of them first
abbrev pub unlinked : FsState → List Path → FsState
unlinked s [] = s
unlinked s (path ∷ paths) = unlinked (with_change s ((path, None) ∷ [])) paths

-- none of these unlinks is refused
abbrev pub AreFree : FsState → List Path → Type 0
AreFree s [] = Unit {0}
AreFree s (path ∷ paths) = (refusal s (Unlinks path) ≡ None) × AreFree (with_change s ((path, None) ∷ [])) paths

-- no name in the directory is one of a directory
abbrev pub HasNoDirs : Names → Path → Type 0
HasNoDirs names at = (name : List ℕ) → get names (child_of at name) ≢ Some Dir

-- a call that lists the directory or unlinks a name of it
abbrev pub Clears : Path → FsState → Call → Type 0
Clears at s (Lists path) = path ≡ at
Clears at s (Unlinks path) = IsIn at path
Clears at s call = ⊥
